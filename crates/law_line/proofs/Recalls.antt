-- The rows of Read-Write and the refusals keep a line sound: the owner is recalled, or gives its copy back, and a request that comes during a transaction is refused.
use Rattle.std.proofs.Common.{◌≡◌, ◌≢◌, ℕ, ◌+◌, ◌*◌, ◌==◌, ◌<◌, ◌≤◌, true, false, Option, Some, List, [], ◌∷◌, refl, sym, subst, ◌∙◌, arith}
use Rattle.alw_num.specs.declared.addresses.Line.{Line}
use Rattle.alw_num.specs.declared.states.State.TheVariants.{RO, RW, RT, WT}
use Rattle.alw_num.specs.NodeSets.{no_nodes, has_node, one_node}
use Rattle.alw_num.specs.Weights.{digit}
use Rattle.alw_num.proofs.Weigh.{digit_same, true_of_digit}
use Rattle.alw_num.proofs.Sets.{has-none}
use Rattle.alw_msg.specs.Contents.{ToMemory, RREQ, WREQ, REPM, UPDATE, ACKC, INV, BUSY, is_rreq, is_wreq, is_repm, is_update, is_ackc}
use Rattle.alw_model.specs.FullMap.{Home, Sends, sole}
use Rattle.alw_model.specs.Lines.{LineState}
use Rattle.law_line.specs.Protocol.{sent_to, acted}
use Rattle.law_line.specs.Census.{off, off_up, census, carries}
use Rattle.law_line.specs.Sound.{CounterFits, Sound}
use Rattle.law_line.proofs.Bodies.{same_of_off}
use Rattle.law_line.proofs.Orders.{up_front, wrong_down_none}
use Rattle.law_line.proofs.Nodes.{debts}
use Rattle.law_line.proofs.Homes.{afterwards, sent_one, DestsBelow, absent_after, debt_total, roles, counts, sole_one, sole_is, apart_digits}
use Rattle.law_line.proofs.ReadOnly.{one_below}

-- the owner of a line is one of its nodes
owner_below : (n : ℕ) (x : Line) (s : LineState) (j : ℕ) → Sound n x s → sole s.home.pointers ≡ Some j → j < n
owner_below n x s j before p = before.members j (true_of_digit (has_node s.home.pointers j) (omega (arith, sole_is s.home.pointers j j p, digit_same j j refl)))

-- RREQ of another node than the owner: the owner gets an INV
pub recall_read : (n : ℕ) (x : Line) (s : LineState) (i : ℕ) (rest : List ToMemory) (j : ℕ) → i < n → Sound n x s → (s.node i).up ≡ RREQ ∷ rest → s.home.state ≡ RW → sole s.home.pointers ≡ Some j → i ≢ j → Sound n x (acted s i rest (record { state = RT; pointers = one_node i; acks = 1; body = s.home.body }, (j, INV) ∷ []))
recall_read n x s i rest j here before e st p apart =
    let h = s.home in
    let h' : Home = record { state = RT; pointers = one_node i; acks = 1; body = h.body } in
    let sends : Sends = (j, INV) ∷ [] in
    let dests : DestsBelow n sends = (owner_below n x s j before p, tt) in
    let quiet : h.acks ≡ 0 = counts h RW (Some j) st p before.counter in
    let total = debt_total n x s i RREQ rest (h', sends) before here e dests in
    record {
      each = λ k.
          let c = before.each k in
          let a = afterwards x s i RREQ rest (h', sends) e k in
          let z = sent_one x k j INV in
          let r = roles h RW (Some j) k st p in
          let r' = roles h' RT (Some i) k refl (sole_one i) in
          let q = debts n x s before k in
          let d = apart_digits i j k apart in
          let o = wrong_down_none (s.node k).down (sent_to k sends) (omega arith) (omega arith) z.wrong in
          search arith;
      counter = subst (λ (q : Option ℕ). CounterFits RT q 1) (sym (sole_one i)) refl;
      total = omega arith;
      alone = λ l k some.
          let al = afterwards x s i RREQ rest (h', sends) e l in
          let zl = sent_one x l j INV in
          let a = afterwards x s i RREQ rest (h', sends) e k in
          let z = sent_one x k j INV in
          let f = before.alone l k (omega arith) in
          search arith;
      home_value = λ none. before.home_value (λ k. let a = afterwards x s i RREQ rest (h', sends) e k in let z = sent_one x k j INV in let q = none k in omega arith);
      beyond = absent_after n x s i rest (h', sends) before here dests;
      members = one_below n i here;
    }

-- WREQ of another node than the owner: the same
pub recall_write : (n : ℕ) (x : Line) (s : LineState) (i : ℕ) (rest : List ToMemory) (j : ℕ) → i < n → Sound n x s → (s.node i).up ≡ WREQ ∷ rest → s.home.state ≡ RW → sole s.home.pointers ≡ Some j → i ≢ j → Sound n x (acted s i rest (record { state = WT; pointers = one_node i; acks = 1; body = s.home.body }, (j, INV) ∷ []))
recall_write n x s i rest j here before e st p apart =
    let h = s.home in
    let h' : Home = record { state = WT; pointers = one_node i; acks = 1; body = h.body } in
    let sends : Sends = (j, INV) ∷ [] in
    let dests : DestsBelow n sends = (owner_below n x s j before p, tt) in
    let quiet : h.acks ≡ 0 = counts h RW (Some j) st p before.counter in
    let total = debt_total n x s i WREQ rest (h', sends) before here e dests in
    record {
      each = λ k.
          let c = before.each k in
          let a = afterwards x s i WREQ rest (h', sends) e k in
          let z = sent_one x k j INV in
          let r = roles h RW (Some j) k st p in
          let r' = roles h' WT (Some i) k refl (sole_one i) in
          let q = debts n x s before k in
          let d = apart_digits i j k apart in
          let o = wrong_down_none (s.node k).down (sent_to k sends) (omega arith) (omega arith) z.wrong in
          search arith;
      counter = subst (λ (q : Option ℕ). CounterFits WT q 1) (sym (sole_one i)) (omega arith);
      total = omega arith;
      alone = λ l k some.
          let al = afterwards x s i WREQ rest (h', sends) e l in
          let zl = sent_one x l j INV in
          let a = afterwards x s i WREQ rest (h', sends) e k in
          let z = sent_one x k j INV in
          let f = before.alone l k (omega arith) in
          search arith;
      home_value = λ none. before.home_value (λ k. let a = afterwards x s i WREQ rest (h', sends) e k in let z = sent_one x k j INV in let q = none k in omega arith);
      beyond = absent_after n x s i rest (h', sends) before here dests;
      members = one_below n i here;
    }

-- the body of a REPM or UPDATE in front is the value
pub front_value : (n : ℕ) (x : Line) (s : LineState) (i : ℕ) (m : ToMemory) (rest : List ToMemory) (body : Line) → Sound n x s → (s.node i).up ≡ m ∷ rest → off_up x m ≡ off x body → body ≡ x
front_value n x s i m rest body before e is = same_of_off x body (let f = up_front x (s.node i).up m rest e in let c = before.each i in omega arith)

-- REPM of the owner: P is empty, and the home has the value
pub owner_returns : (n : ℕ) (x : Line) (s : LineState) (i : ℕ) (rest : List ToMemory) (body : Line) → i < n → Sound n x s → (s.node i).up ≡ REPM body ∷ rest → s.home.state ≡ RW → sole s.home.pointers ≡ Some i → Sound n x (acted s i rest (record { state = RO; pointers = no_nodes; acks = s.home.acks; body = body }, []))
owner_returns n x s i rest body here before e st p =
    let h = s.home in
    let h' : Home = record { state = RO; pointers = no_nodes; acks = h.acks; body = body } in
    let quiet : h.acks ≡ 0 = counts h RW (Some i) st p before.counter in
    let total = debt_total n x s i (REPM body) rest (h', []) before here e tt in
    let none : (k : ℕ) → (carries (census x ((acted s i rest (h', [])).node k)) ≡ 0) × ((census x (s.node k)).wdata ≡ 0) = λ k.
    let c = before.each k in
    let a = afterwards x s i (REPM body) rest (h', []) e k in
    let r = roles h RW (Some i) k st p in
    let q = debts n x s before k in
    search arith in
    let mine : 1 ≤ carries (census x (s.node i)) = let f = up_front x (s.node i).up (REPM body) rest e in omega arith in
    record {
      each = λ k.
          let c = before.each k in
          let a = afterwards x s i (REPM body) rest (h', []) e k in
          let r = roles h RW (Some i) k st p in
          let r' = roles h' RO (sole h'.pointers) k refl refl in
          let q = debts n x s before k in
          let o = wrong_down_none (s.node k).down [] refl refl refl in
          let f = none k in
          let l = before.alone i k mine in
          search arith;
      counter = quiet;
      total = omega arith;
      alone = λ j k some. absurd (omega (arith, none j));
      home_value = λ q. front_value n x s i (REPM body) rest body before e refl;
      beyond = absent_after n x s i rest (h', []) before here tt;
      members = λ k is. absurd (let f : false ≡ true = sym (has-none k) ∙ is in cc);
    }

-- a request that is taken d times: no message of another kind is
record Asked (m : ToMemory) (d : ℕ) : Type 0 where
  asks : digit (is_rreq m) * d + digit (is_wreq m) * d ≡ d
  returns : digit (is_repm m) * d ≡ 0
  updates : digit (is_update m) * d ≡ 0
  acknowledges : digit (is_ackc m) * d ≡ 0
  answers : digit (is_ackc m) + digit (is_update m) ≡ 0

asked : (m : ToMemory) (d : ℕ) → digit (is_rreq m) + digit (is_wreq m) ≡ 1 → Asked m d
asked RREQ d one = search arith
asked WREQ d one = search arith
asked (REPM body) d one = absurd (omega arith)
asked (UPDATE body) d one = absurd (omega arith)
asked ACKC d one = absurd (omega arith)

-- RREQ or WREQ during a transaction: refused
pub refused : (n : ℕ) (x : Line) (s : LineState) (i : ℕ) (m : ToMemory) (rest : List ToMemory) → i < n → Sound n x s → (s.node i).up ≡ m ∷ rest → digit (is_rreq m) + digit (is_wreq m) ≡ 1 → Sound n x (acted s i rest (s.home, (i, BUSY) ∷ []))
refused n x s i m rest here before e one =
    let sends : Sends = (i, BUSY) ∷ [] in
    let dests : DestsBelow n sends = (here, tt) in
    let total = debt_total n x s i m rest (s.home, sends) before here e dests in
    let none = asked m 0 one in
    let same : (k : ℕ) → carries (census x ((acted s i rest (s.home, sends)).node k)) ≡ carries (census x (s.node k)) = λ k.
    let a = afterwards x s i m rest (s.home, sends) e k in
    let z = sent_one x k i BUSY in
    let t = asked m (digit (k == i)) one in
    omega arith in
    record {
      each = λ k.
          let c = before.each k in
          let a = afterwards x s i m rest (s.home, sends) e k in
          let z = sent_one x k i BUSY in
          let t = asked m (digit (k == i)) one in
          let o = wrong_down_none (s.node k).down (sent_to k sends) (omega arith) (omega arith) z.wrong in
          search arith;
      counter = before.counter;
      total = omega arith;
      alone = λ l k some.
          let a = afterwards x s i m rest (s.home, sends) e k in
          let z = sent_one x k i BUSY in
          let f = before.alone l k (omega (arith, same l)) in
          search arith;
      home_value = λ free. before.home_value (λ k. sym (same k) ∙ free k);
      beyond = absent_after n x s i rest (s.home, sends) before here dests;
      members = before.members;
    }
