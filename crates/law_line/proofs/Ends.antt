-- The rows of the transactions keep a line sound: a REPM that comes meanwhile, an ACKC that isn't the last answer, and the last answer.
use Rattle.std.proofs.Common.{◌≡◌, ℕ, suc, ◌+◌, ◌*◌, ◌<◌, ◌≤◌, ◌==◌, Option, Some, List, [], ◌∷◌, refl, sym, subst, ap, ◌∙◌, arith}
use Rattle.alw_num.specs.declared.addresses.Line.{Line}
use Rattle.alw_num.specs.declared.states.State.{State}
use Rattle.alw_num.specs.declared.states.State.TheVariants.{RO, RW, RT, WT}
use Rattle.alw_num.specs.NodeSets.{has_node}
use Rattle.alw_num.specs.Weights.{digit}
use Rattle.alw_num.proofs.Weigh.{is_node, digit_le, digit_same, digit_other, true_of_digit}
use Rattle.alw_msg.specs.Contents.{ToMemory, REPM, UPDATE, ACKC, RDATA, WDATA, is_rreq, is_wreq, is_repm, is_update, is_ackc}
use Rattle.alw_model.specs.FullMap.{Home, Sends, sole}
use Rattle.alw_msg.specs.Lists.{count_of}
use Rattle.alw_model.specs.Lines.{LineState}
use Rattle.law_line.specs.Protocol.{sent_to, acted}
use Rattle.law_line.specs.Census.{off, wrong_up, Census, census, owes, carries}
use Rattle.law_line.specs.Sound.{points, in_read_write, in_read_only, Role, role, CounterFits, Sound}
use Rattle.law_line.proofs.Bodies.{off_same}
use Rattle.law_line.proofs.Orders.{up_front, wrong_down_none, wrong_down_no_inv}
use Rattle.law_line.proofs.Nodes.{debts, owes_both, one_carrier}
use Rattle.law_line.proofs.Homes.{afterwards, sent_one, DestsBelow, absent_after, debt_total, roles, sole_is}
use Rattle.law_line.proofs.Recalls.{front_value}

-- ---- a state in which a transaction is open

-- Read-Transaction and Write-Transaction
pub data IsOpen (st : State) : Type 0 where
  reading : st ≡ RT → IsOpen st
  writing : st ≡ WT → IsOpen st

-- nobody owns the line meanwhile
pub nobody_owns : (h : Home) → IsOpen h.state → (k : ℕ) → (role h k).owns ≡ 0
nobody_owns h (reading e) k = ap (λ (st : State). in_read_write st (points (sole h.pointers) k)) e
nobody_owns h (writing e) k = ap (λ (st : State). in_read_write st (points (sole h.pointers) k)) e

-- and nobody shares it
nobody_shares : (h : Home) → IsOpen h.state → (k : ℕ) → (role h k).shares ≡ 0
nobody_shares h (reading e) k = ap (λ (st : State). in_read_only st (digit (has_node h.pointers k))) e
nobody_shares h (writing e) k = ap (λ (st : State). in_read_only st (digit (has_node h.pointers k))) e

-- REPM during a transaction: the home has the value
pub late_return : (n : ℕ) (x : Line) (s : LineState) (i : ℕ) (rest : List ToMemory) (body : Line) → i < n → Sound n x s → (s.node i).up ≡ REPM body ∷ rest → IsOpen s.home.state → Sound n x (acted s i rest (record { state = s.home.state; pointers = s.home.pointers; acks = s.home.acks; body = body }, []))
late_return n x s i rest body here before e is =
    let h = s.home in
    let h' : Home = record { state = h.state; pointers = h.pointers; acks = h.acks; body = body } in
    let total = debt_total n x s i (REPM body) rest (h', []) before here e tt in
    let mine : carries (census x (s.node i)) ≡ 1 = let f = up_front x (s.node i).up (REPM body) rest e in let c = before.each i in let w = nobody_owns h is i in omega arith in
    let none : (k : ℕ) → carries (census x ((acted s i rest (h', [])).node k)) ≡ 0 = λ k.
    let a = afterwards x s i (REPM body) rest (h', []) e k in
    let f = up_front x (s.node i).up (REPM body) rest e in
    is_node _ k i
    (λ same. let m : carries (census x (s.node k)) ≡ 1 = ap (λ j. carries (census x (s.node j))) same ∙ mine in omega (arith, digit_same k i same))
    (λ other. omega (arith, one_carrier n x s i k before other)) in
    record {
      each = λ k.
          let c = before.each k in
          let a = afterwards x s i (REPM body) rest (h', []) e k in
          let w = nobody_owns h is k in
          let o = wrong_down_none (s.node k).down [] refl refl refl in
          let f = none k in
          search arith;
      counter = before.counter;
      total = omega arith;
      alone = λ j k some. absurd (omega (arith, none j));
      home_value = λ q. front_value n x s i (REPM body) rest body before e refl;
      beyond = absent_after n x s i rest (h', []) before here tt;
      members = before.members;
    }

-- ACKC in Write-Transaction while more answers are to come: the counter falls
pub counted : (n : ℕ) (x : Line) (s : LineState) (i : ℕ) (rest : List ToMemory) (left : ℕ) → i < n → Sound n x s → (s.node i).up ≡ ACKC ∷ rest → (k : ℕ) → s.home.state ≡ WT → sole s.home.pointers ≡ Some k → s.home.acks ≡ suc (suc left) → Sound n x (acted s i rest (record { state = s.home.state; pointers = s.home.pointers; acks = suc left; body = s.home.body }, []))
counted n x s i rest left here before e j st p more =
    let h = s.home in
    let h' : Home = record { state = h.state; pointers = h.pointers; acks = suc left; body = h.body } in
    let total = debt_total n x s i ACKC rest (h', []) before here e tt in
    let none : (k : ℕ) → carries (census x (s.node k)) ≡ 0 = λ k. let c = before.each k in grind (arith, c.last) in
    record {
      each = λ k.
          let c = before.each k in
          let a = afterwards x s i ACKC rest (h', []) e k in
          let o = wrong_down_none (s.node k).down [] refl refl refl in
          let f = none k in
          search arith;
      counter = subst (λ (t : State). CounterFits t (sole h.pointers) (suc left)) (sym st) (subst (λ (q : Option ℕ). CounterFits WT q (suc left)) (sym p) (omega arith));
      total = omega arith;
      alone = λ l k some. absurd (let a = afterwards x s i ACKC rest (h', []) e l in let f = none l in omega arith);
      home_value = λ q. before.home_value none;
      beyond = absent_after n x s i rest (h', []) before here tt;
      members = before.members;
    }

-- ---- the last answer

-- a node's census when the last answer is in front: that is all that is owed and carried, nobody is to read, and only the node that is to write has a Read-Only copy
pub record Settled (m : ToMemory) (d : ℕ) (r : Role) (c : Census) : Type 0 where
  pub rreq_stays : digit (is_rreq m) * d ≡ 0
  pub wreq_stays : digit (is_wreq m) * d ≡ 0
  pub repm_stays : digit (is_repm m) * d ≡ 0
  pub inv : c.inv ≡ 0
  pub ackc : c.ackc ≡ digit (is_ackc m) * d
  pub update : c.update ≡ digit (is_update m) * d
  pub rw : c.rw ≡ 0
  pub wdata : c.wdata ≡ 0
  pub repm : c.repm ≡ 0
  pub rdata : c.rdata ≡ 0
  pub ro : c.ro ≤ r.writes

-- the only one to owe
only_debtor : (n : ℕ) (x : Line) (s : LineState) (i k : ℕ) → Sound n x s → s.home.acks ≡ 1 → owes (census x (s.node i)) ≡ 1 → owes (census x (s.node k)) ≡ digit (k == i)
only_debtor n x s i k before one mine = is_node _ k i
    (λ same. ap (λ j. owes (census x (s.node j))) same ∙ (mine ∙ sym (digit_same k i same)))
    (λ other. omega (arith, owes_both n x s i k before other, digit_other k i other))

-- where the last answer is an ACKC, nobody carries
nobody_carries : (n : ℕ) (x : Line) (s : LineState) (i : ℕ) (rest : List ToMemory) → Sound n x s → (s.node i).up ≡ ACKC ∷ rest → IsOpen s.home.state → s.home.acks ≡ 1 → (k : ℕ) → carries (census x (s.node k)) ≡ 0
nobody_carries n x s i rest before e is one k =
    let f = up_front x (s.node i).up ACKC rest e in
    let w : wrong_up (s.node i).up ≡ count_of is_repm rest + wrong_up rest = ap wrong_up e in
    let ci = before.each i in
    let q = debts n x s before i in
    let mine : owes (census x (s.node i)) ≡ 1 = omega arith in
    let c = before.each k in
    let o = nobody_owns s.home is k in
    let oi = nobody_owns s.home is i in
    let zero : carries (census x (s.node i)) ≡ 0 = omega arith in
    is_node _ k i
    (λ same. ap (λ j. carries (census x (s.node j))) same ∙ zero)
    (λ other. omega (arith, only_debtor n x s i k before one mine, digit_other k i other))

acknowledged : (n : ℕ) (x : Line) (s : LineState) (i : ℕ) (rest : List ToMemory) → Sound n x s → (s.node i).up ≡ ACKC ∷ rest → IsOpen s.home.state → s.home.acks ≡ 1 → (k : ℕ) → Settled ACKC (digit (k == i)) (role s.home k) (census x (s.node k))
acknowledged n x s i rest before e is one k =
    let f = up_front x (s.node i).up ACKC rest e in
    let q = debts n x s before i in
    let t = only_debtor n x s i k before one (omega arith) in
    let c = before.each k in
    let none = nobody_carries n x s i rest before e is one k in
    let a = afterwards x s i ACKC rest (s.home, []) e k in
    let w = nobody_shares s.home is k in
    search arith

updated : (n : ℕ) (x : Line) (s : LineState) (i : ℕ) (rest : List ToMemory) (body : Line) → Sound n x s → (s.node i).up ≡ UPDATE body ∷ rest → IsOpen s.home.state → s.home.acks ≡ 1 → (k : ℕ) → Settled (UPDATE body) (digit (k == i)) (role s.home k) (census x (s.node k))
updated n x s i rest body before e is one k =
    let f = up_front x (s.node i).up (UPDATE body) rest e in
    let q = debts n x s before i in
    let t = only_debtor n x s i k before one (omega arith) in
    let c = before.each k in
    let o = nobody_owns s.home is k in
    let l = before.alone i k (omega arith) in
    let a = afterwards x s i (UPDATE body) rest (s.home, []) e k in
    search arith

-- an UPDATE is the last answer
update_last : (n : ℕ) (x : Line) (s : LineState) (i : ℕ) (rest : List ToMemory) (body : Line) → Sound n x s → (s.node i).up ≡ UPDATE body ∷ rest → s.home.acks ≡ 1
update_last n x s i rest body before e =
    let f = up_front x (s.node i).up (UPDATE body) rest e in
    let q = debts n x s before i in
    let c = before.each i in
    let l : s.home.acks ≤ 1 = c.last (omega arith) in
    omega arith

-- the last answer in Read-Transaction: the reader gets the line
read_ended : (n : ℕ) (x : Line) (s : LineState) (i : ℕ) (m : ToMemory) (rest : List ToMemory) (body : Line) (j : ℕ) → i < n → Sound n x s → (s.node i).up ≡ m ∷ rest → s.home.state ≡ RT → sole s.home.pointers ≡ Some j → s.home.acks ≡ 1 → digit (is_ackc m) + digit (is_update m) ≡ 1 → body ≡ x → ((k : ℕ) → Settled m (digit (k == i)) (role s.home k) (census x (s.node k))) → Sound n x (acted s i rest (record { state = RO; pointers = s.home.pointers; acks = 0; body = body }, (j, RDATA body) ∷ []))
read_ended n x s i m rest body j here before e st p one last value settled =
    let h = s.home in
    let h' : Home = record { state = RO; pointers = h.pointers; acks = 0; body = body } in
    let sends : Sends = (j, RDATA body) ∷ [] in
    let below : j < n = before.members j (true_of_digit (has_node h.pointers j) (omega (arith, sole_is h.pointers j j p, digit_same j j refl))) in
    let dests : DestsBelow n sends = (below, tt) in
    let fresh : off x body ≡ 0 = ap (off x) value ∙ off_same x in
    let total = debt_total n x s i m rest (h', sends) before here e dests in
    record {
      each = λ k.
          let c = before.each k in
          let a = afterwards x s i m rest (h', sends) e k in
          let z = sent_one x k j (RDATA body) in
          let r = roles h RT (Some j) k st p in
          let r' = roles h' RO (Some j) k refl p in
          let f = settled k in
          let o = wrong_down_no_inv (s.node k).down (sent_to k sends) f.inv in
          let d = digit_le (k == j) in
          let w = sole_is h.pointers j k p in
          search arith;
      counter = refl;
      total = omega arith;
      alone = λ l k some. absurd (let a = afterwards x s i m rest (h', sends) e l in let z = sent_one x l j (RDATA body) in let f = settled l in omega arith);
      home_value = λ none. value;
      beyond = absent_after n x s i rest (h', sends) before here dests;
      members = before.members;
    }

-- the last answer in Write-Transaction: the writer gets the line
write_ended : (n : ℕ) (x : Line) (s : LineState) (i : ℕ) (m : ToMemory) (rest : List ToMemory) (body : Line) (j : ℕ) → i < n → Sound n x s → (s.node i).up ≡ m ∷ rest → s.home.state ≡ WT → sole s.home.pointers ≡ Some j → s.home.acks ≡ 1 → digit (is_ackc m) + digit (is_update m) ≡ 1 → body ≡ x → ((k : ℕ) → Settled m (digit (k == i)) (role s.home k) (census x (s.node k))) → Sound n x (acted s i rest (record { state = RW; pointers = s.home.pointers; acks = 0; body = body }, (j, WDATA body) ∷ []))
write_ended n x s i m rest body j here before e st p one last value settled =
    let h = s.home in
    let h' : Home = record { state = RW; pointers = h.pointers; acks = 0; body = body } in
    let sends : Sends = (j, WDATA body) ∷ [] in
    let below : j < n = before.members j (true_of_digit (has_node h.pointers j) (omega (arith, sole_is h.pointers j j p, digit_same j j refl))) in
    let dests : DestsBelow n sends = (below, tt) in
    let fresh : off x body ≡ 0 = ap (off x) value ∙ off_same x in
    let total = debt_total n x s i m rest (h', sends) before here e dests in
    record {
      each = λ k.
          let c = before.each k in
          let a = afterwards x s i m rest (h', sends) e k in
          let z = sent_one x k j (WDATA body) in
          let r = roles h WT (Some j) k st p in
          let r' = roles h' RW (Some j) k refl p in
          let f = settled k in
          let o = wrong_down_no_inv (s.node k).down (sent_to k sends) f.inv in
          let d = digit_le (k == j) in
          search arith;
      counter = subst (λ (q : Option ℕ). CounterFits RW q 0) (sym p) refl;
      total = omega arith;
      alone = λ l k some.
          let a = afterwards x s i m rest (h', sends) e k in
          let z = sent_one x k j (WDATA body) in
          let r = roles h WT (Some j) k st p in
          let f = settled k in
          search arith;
      home_value = λ none. value;
      beyond = absent_after n x s i rest (h', sends) before here dests;
      members = before.members;
    }

-- ---- the four last answers

pub read_acked : (n : ℕ) (x : Line) (s : LineState) (i : ℕ) (rest : List ToMemory) (j : ℕ) → i < n → Sound n x s → (s.node i).up ≡ ACKC ∷ rest → s.home.state ≡ RT → sole s.home.pointers ≡ Some j → s.home.acks ≡ 1 → Sound n x (acted s i rest (record { state = RO; pointers = s.home.pointers; acks = 0; body = s.home.body }, (j, RDATA s.home.body) ∷ []))
read_acked n x s i rest j here before e st p one = read_ended n x s i ACKC rest s.home.body j here before e st p one refl
    (before.home_value (nobody_carries n x s i rest before e (reading st) one))
    (acknowledged n x s i rest before e (reading st) one)

pub write_acked : (n : ℕ) (x : Line) (s : LineState) (i : ℕ) (rest : List ToMemory) (j : ℕ) → i < n → Sound n x s → (s.node i).up ≡ ACKC ∷ rest → s.home.state ≡ WT → sole s.home.pointers ≡ Some j → s.home.acks ≡ 1 → Sound n x (acted s i rest (record { state = RW; pointers = s.home.pointers; acks = 0; body = s.home.body }, (j, WDATA s.home.body) ∷ []))
write_acked n x s i rest j here before e st p one = write_ended n x s i ACKC rest s.home.body j here before e st p one refl
    (before.home_value (nobody_carries n x s i rest before e (writing st) one))
    (acknowledged n x s i rest before e (writing st) one)

pub read_updated : (n : ℕ) (x : Line) (s : LineState) (i : ℕ) (rest : List ToMemory) (body : Line) (j : ℕ) → i < n → Sound n x s → (s.node i).up ≡ UPDATE body ∷ rest → s.home.state ≡ RT → sole s.home.pointers ≡ Some j → Sound n x (acted s i rest (record { state = RO; pointers = s.home.pointers; acks = 0; body = body }, (j, RDATA body) ∷ []))
read_updated n x s i rest body j here before e st p =
    let one = update_last n x s i rest body before e in
    read_ended n x s i (UPDATE body) rest body j here before e st p one refl
    (front_value n x s i (UPDATE body) rest body before e refl)
    (updated n x s i rest body before e (reading st) one)

pub write_updated : (n : ℕ) (x : Line) (s : LineState) (i : ℕ) (rest : List ToMemory) (body : Line) (j : ℕ) → i < n → Sound n x s → (s.node i).up ≡ UPDATE body ∷ rest → s.home.state ≡ WT → sole s.home.pointers ≡ Some j → Sound n x (acted s i rest (record { state = RW; pointers = s.home.pointers; acks = 0; body = body }, (j, WDATA body) ∷ []))
write_updated n x s i rest body j here before e st p =
    let one = update_last n x s i rest body before e in
    write_ended n x s i (UPDATE body) rest body j here before e st p one refl
    (front_value n x s i (UPDATE body) rest body before e refl)
    (updated n x s i rest body before e (writing st) one)
