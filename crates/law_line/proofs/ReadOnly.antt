-- The rows of Read-Only keep a line sound: a request to read, and a request to write with and without other sharers.
use Rattle.std.proofs.Common.{◌≡◌, ◌≢◌, ℕ, ◌+◌, ◌<◌, ◌≤◌, ◌==◌, Bool, true, false, cond, Option, Some, List, [], ◌∷◌, length, refl, sym, subst, ap, ◌∙◌, arith}
use Rattle.std.proofs.lemmas.Bool.{eqb-true, ne_eqb}
use Rattle.alw_num.specs.declared.addresses.Line.{Line}
use Rattle.alw_num.specs.declared.states.State.{State}
use Rattle.alw_num.specs.declared.states.State.TheVariants.{RO, RW, WT}
use Rattle.alw_num.specs.NodeSets.{Nodes, has_node, one_node, add_node}
use Rattle.alw_num.specs.Weights.{digit, times}
use Rattle.alw_num.proofs.Weigh.{is_node, digit_le, true_of_digit}
use Rattle.alw_num.proofs.Sets.{has-add, has-one, times-drop}
use Rattle.alw_msg.specs.Contents.{ToMemory, RREQ, WREQ, RDATA, WDATA}
use Rattle.alw_model.specs.FullMap.{Home, Sends, sole, others, invs}
use Rattle.alw_model.specs.Lines.{LineState}
use Rattle.law_line.specs.Protocol.{sent_to, acted}
use Rattle.law_line.specs.Census.{off, census, owes, carries}
use Rattle.law_line.specs.Sound.{CounterFits, Sound}
use Rattle.law_line.proofs.Bodies.{off_same}
use Rattle.law_line.proofs.Orders.{wrong_down_none, wrong_down_no_inv}
use Rattle.law_line.proofs.Nodes.{debts}
use Rattle.law_line.proofs.Homes.{afterwards, sent_one, sent_invs, DestsBelow, invs_below, absent_after, debt_total, length_invs, roles, counts, sole_one}

-- in Read-Only nobody owes or carries
pub calm : (n : ℕ) (x : Line) (s : LineState) → Sound n x s → s.home.state ≡ RO → (k : ℕ) → carries (census x (s.node k)) + owes (census x (s.node k)) ≡ 0
calm n x s before st k =
    let c = before.each k in
    let quiet : s.home.acks ≡ 0 = counts s.home RO (sole s.home.pointers) st refl before.counter in
    let q = debts n x s before k in
    let r = roles s.home RO (sole s.home.pointers) k st refl in
    omega arith

-- the home has the value
home_has : (n : ℕ) (x : Line) (s : LineState) → Sound n x s → s.home.state ≡ RO → s.home.body ≡ x
home_has n x s before st = before.home_value (λ k. omega (arith, calm n x s before st k))

-- the one node of a set is below n
pub one_below : (n i : ℕ) → i < n → (k : ℕ) → has_node (one_node i) k ≡ true → k < n
one_below n i here k is = let same : k ≡ i = eqb-true k i (sym (has-one i k) ∙ is) in omega arith

-- a member that joins, by the numbers of membership
joins : (b c : Bool) → (digit c ≤ digit (cond b true c)) × (digit b ≤ digit (cond b true c))
joins true true = (omega arith, omega arith)
joins true false = (omega arith, omega arith)
joins false true = (omega arith, omega arith)
joins false false = (omega arith, omega arith)

-- another member than the one that joins was one before
member_but : (P : Nodes) (i k : ℕ) → k ≢ i → has_node (add_node P i) k ≡ true → has_node P k ≡ true
member_but P i k other is = sym (ap (λ b. cond b true (has_node P k)) (ne_eqb k i other)) ∙ (sym (has-add P i k) ∙ is)

-- RREQ: the sender joins P, and gets the line
pub shared_read : (n : ℕ) (x : Line) (s : LineState) (i : ℕ) (rest : List ToMemory) → i < n → Sound n x s → (s.node i).up ≡ RREQ ∷ rest → s.home.state ≡ RO → Sound n x (acted s i rest (record { state = s.home.state; pointers = add_node s.home.pointers i; acks = s.home.acks; body = s.home.body }, (i, RDATA s.home.body) ∷ []))
shared_read n x s i rest here before e st =
    let h = s.home in
    let h' : Home = record { state = h.state; pointers = add_node h.pointers i; acks = h.acks; body = h.body } in
    let sends : Sends = (i, RDATA h.body) ∷ [] in
    let dests : DestsBelow n sends = (here, tt) in
    let quiet : h.acks ≡ 0 = counts h RO (sole h.pointers) st refl before.counter in
    let fresh : off x h.body ≡ 0 = ap (off x) (home_has n x s before st) ∙ off_same x in
    let total = debt_total n x s i RREQ rest (h', sends) before here e dests in
    record {
      each = λ k.
          let c = before.each k in
          let a = afterwards x s i RREQ rest (h', sends) e k in
          let z = sent_one x k i (RDATA h.body) in
          let r = roles h RO (sole h.pointers) k st refl in
          let r' = roles h' RO (sole h'.pointers) k st refl in
          let f = calm n x s before st k in
          let d = digit_le (k == i) in
          let o = wrong_down_no_inv (s.node k).down (sent_to k sends) (omega arith) in
          let j = joins (k == i) (has_node h.pointers k) in
          let has : digit (has_node h'.pointers k) ≡ digit (cond (k == i) true (has_node h.pointers k)) = ap digit (has-add h.pointers i k) in
          let b = digit_le (has_node h'.pointers k) in
          search arith;
      counter = subst (λ (t : State). CounterFits t (sole h'.pointers) h.acks) (sym st) quiet;
      total = omega arith;
      alone = λ j k some. absurd (let a = afterwards x s i RREQ rest (h', sends) e j in let z = sent_one x j i (RDATA h.body) in let q = calm n x s before st j in omega arith);
      home_value = λ none. home_has n x s before st;
      beyond = absent_after n x s i rest (h', sends) before here dests;
      members = λ k is. is_node (k < n) k i (λ same. omega arith) (λ other. before.members k (member_but h.pointers i k other is));
    }

-- who is among the others is a member and isn't the sender; a member is the sender or among the others
others_are : (s : LineState) (i : ℕ) (js : List ℕ) → others s.home.pointers i ≡ js → (k : ℕ) → (times k js + digit (k == i) ≤ 1) × (digit (has_node s.home.pointers k) ≤ times k js + digit (k == i)) × (times k js ≤ digit (has_node s.home.pointers k))
others_are s i js is k =
    let t : times k js ≡ cond (k == i) 0 (digit (has_node s.home.pointers k)) = ap (times k) (sym is) ∙ times-drop s.home.pointers i k in
    go (k == i) (has_node s.home.pointers k) t
  where
    go : (b c : Bool) → times k js ≡ cond b 0 (digit c) → (times k js + digit b ≤ 1) × (digit c ≤ times k js + digit b) × (times k js ≤ digit c)
    go true true t = (omega arith, omega arith, omega arith)
    go true false t = (omega arith, omega arith, omega arith)
    go false true t = (omega arith, omega arith, omega arith)
    go false false t = (omega arith, omega arith, omega arith)

-- WREQ without other sharers: the sender gets the line to write
pub sole_write : (n : ℕ) (x : Line) (s : LineState) (i : ℕ) (rest : List ToMemory) → i < n → Sound n x s → (s.node i).up ≡ WREQ ∷ rest → s.home.state ≡ RO → others s.home.pointers i ≡ [] → Sound n x (acted s i rest (record { state = RW; pointers = one_node i; acks = s.home.acks; body = s.home.body }, (i, WDATA s.home.body) ∷ []))
sole_write n x s i rest here before e st is =
    let h = s.home in
    let h' : Home = record { state = RW; pointers = one_node i; acks = h.acks; body = h.body } in
    let sends : Sends = (i, WDATA h.body) ∷ [] in
    let dests : DestsBelow n sends = (here, tt) in
    let quiet : h.acks ≡ 0 = counts h RO (sole h.pointers) st refl before.counter in
    let fresh : off x h.body ≡ 0 = ap (off x) (home_has n x s before st) ∙ off_same x in
    let total = debt_total n x s i WREQ rest (h', sends) before here e dests in
    record {
      each = λ k.
          let c = before.each k in
          let a = afterwards x s i WREQ rest (h', sends) e k in
          let z = sent_one x k i (WDATA h.body) in
          let r = roles h RO (sole h.pointers) k st refl in
          let r' = roles h' RW (Some i) k refl (sole_one i) in
          let f = calm n x s before st k in
          let d = digit_le (k == i) in
          let o = wrong_down_no_inv (s.node k).down (sent_to k sends) (omega arith) in
          let w = others_are s i [] is k in
          search arith;
      counter = subst (λ (p : Option ℕ). CounterFits RW p h.acks) (sym (sole_one i)) quiet;
      total = omega arith;
      alone = λ j k some.
          let c = before.each k in
          let a = afterwards x s i WREQ rest (h', sends) e k in
          let z = sent_one x k i (WDATA h.body) in
          let r = roles h RO (sole h.pointers) k st refl in
          let f = calm n x s before st k in
          let d = digit_le (k == i) in
          let w = others_are s i [] is k in
          search arith;
      home_value = λ none. home_has n x s before st;
      beyond = absent_after n x s i rest (h', sends) before here dests;
      members = one_below n i here;
    }

-- WREQ with other sharers: each of them gets an INV
pub shared_write : (n : ℕ) (x : Line) (s : LineState) (i : ℕ) (rest : List ToMemory) → i < n → Sound n x s → (s.node i).up ≡ WREQ ∷ rest → s.home.state ≡ RO → (js : List ℕ) → others s.home.pointers i ≡ js → 1 ≤ length js → Sound n x (acted s i rest (record { state = WT; pointers = one_node i; acks = length js; body = s.home.body }, invs js))
shared_write n x s i rest here before e st js is some =
    let h = s.home in
    let h' : Home = record { state = WT; pointers = one_node i; acks = length js; body = h.body } in
    let sends : Sends = invs js in
    let dests : DestsBelow n sends = invs_below n js (λ k l. before.members k (true_of_digit (has_node h.pointers k) (let w = others_are s i js is k in omega arith))) in
    let quiet : h.acks ≡ 0 = counts h RO (sole h.pointers) st refl before.counter in
    let total = debt_total n x s i WREQ rest (h', sends) before here e dests in
    record {
      each = λ k.
          let c = before.each k in
          let a = afterwards x s i WREQ rest (h', sends) e k in
          let z = sent_invs x k js in
          let r = roles h RO (sole h.pointers) k st refl in
          let r' = roles h' WT (Some i) k refl (sole_one i) in
          let f = calm n x s before st k in
          let d = digit_le (k == i) in
          let o = wrong_down_none (s.node k).down (sent_to k sends) z.rdata z.wdata z.wrong in
          let w = others_are s i js is k in
          search arith;
      counter = subst (λ (p : Option ℕ). CounterFits WT p (length js)) (sym (sole_one i)) some;
      total = omega (arith, length_invs js);
      alone = λ j k more. absurd (let a = afterwards x s i WREQ rest (h', sends) e j in let z = sent_invs x j js in let q = calm n x s before st j in omega arith);
      home_value = λ none. home_has n x s before st;
      beyond = absent_after n x s i rest (h', sends) before here dests;
      members = one_below n i here;
    }
