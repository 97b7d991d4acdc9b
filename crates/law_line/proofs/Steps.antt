-- Every legal event keeps a line sound, and so does every legal run.
use Rattle.std.proofs.Common.{◌≡◌, ℕ, zero, suc, ◌+◌, ◌<◌, ◌≤◌, Bool, true, false, Option, Some, None, List, [], ◌∷◌, refl, sym, subst, ap, ◌∙◌, arith}
use Rattle.std.proofs.lemmas.Bool.{ne_eqb, eq-eqb}
use Rattle.alw_num.specs.declared.addresses.Line.{Line}
use Rattle.alw_num.specs.declared.states.State.{State}
use Rattle.alw_num.specs.declared.states.State.TheVariants.{RO, RW, RT, WT}
use Rattle.alw_num.specs.NodeSets.{has_node, no_nodes}
use Rattle.alw_num.specs.Weights.{digit}
use Rattle.alw_num.proofs.Weigh.{sum_none}
use Rattle.alw_num.proofs.Sets.{has-none}
use Rattle.alw_msg.specs.Contents.{ToMemory, RREQ, WREQ, REPM, UPDATE, ACKC, is_update, is_ackc}
use Rattle.alw_model.specs.FullMap.{sole, others, row, write_shared, recall, recall_from, give_back, give_back_from, acknowledge, end_read, end_write}
use Rattle.alw_model.specs.Lines.{LineState}
use Rattle.law_line.specs.Protocol.{LineEvent, Opens, Stores, Leaves, Comes, Acts, start, acted, acts, step, run, IsLegal, IsLegalRun, value_after, last_stored}
use Rattle.law_line.specs.Sound.{Sound}
use Rattle.law_line.proofs.Nodes.{opens_keeps, stores_keeps, leaves_keeps, comes_keeps}
use Rattle.law_line.proofs.Homes.{counts}
use Rattle.law_line.proofs.ReadOnly.{shared_read, sole_write, shared_write}
use Rattle.law_line.proofs.Recalls.{recall_read, recall_write, owner_returns, refused}
use Rattle.law_line.proofs.Ends.{reading, writing, late_return, counted, read_acked, write_acked, read_updated, write_updated}
use Rattle.law_line.proofs.Unlisted.{shared_asks, owned_asks, owner_waits, owner_gives}

-- ---- the rows of the home table, by what they test

-- the home acts on the message m in front of node i's `up`
module _ (n : ℕ) (x : Line) (s : LineState) (i : ℕ) (rest : List ToMemory) (here : i < n) (before : Sound n x s) where
  by_others : (js : List ℕ) → others s.home.pointers i ≡ js → s.home.state ≡ RO → (s.node i).up ≡ WREQ ∷ rest → Sound n x (acted s i rest (write_shared s.home i js))
  by_others [] is st e = sole_write n x s i rest here before e st is
  by_others (j ∷ js) is st e = shared_write n x s i rest here before e st (j ∷ js) is (omega arith)

  read_by_owner : (o : Option ℕ) → sole s.home.pointers ≡ o → s.home.state ≡ RW → (s.node i).up ≡ RREQ ∷ rest → Sound n x (acted s i rest (recall s.home i RT o))
  read_by_owner None p st e = absurd (counts s.home RW None st p before.counter)
  read_by_owner (Some j) p st e =
      let apart = owner_waits n x s i RREQ rest j before e st p refl refl refl in
      subst (λ (b : Bool). Sound n x (acted s i rest (recall_from s.home i RT j b))) (sym (ne_eqb i j apart)) (recall_read n x s i rest j here before e st p apart)

  write_by_owner : (o : Option ℕ) → sole s.home.pointers ≡ o → s.home.state ≡ RW → (s.node i).up ≡ WREQ ∷ rest → Sound n x (acted s i rest (recall s.home i WT o))
  write_by_owner None p st e = absurd (counts s.home RW None st p before.counter)
  write_by_owner (Some j) p st e =
      let apart = owner_waits n x s i WREQ rest j before e st p refl refl refl in
      subst (λ (b : Bool). Sound n x (acted s i rest (recall_from s.home i WT j b))) (sym (ne_eqb i j apart)) (recall_write n x s i rest j here before e st p apart)

  given_by_owner : (body : Line) (o : Option ℕ) → sole s.home.pointers ≡ o → s.home.state ≡ RW → (s.node i).up ≡ REPM body ∷ rest → Sound n x (acted s i rest (give_back s.home i body o))
  given_by_owner body None p st e = absurd (counts s.home RW None st p before.counter)
  given_by_owner body (Some j) p st e =
      let same = owner_gives n x s i rest body j before e st p in
      subst (λ (b : Bool). Sound n x (acted s i rest (give_back_from s.home body b))) (sym (eq-eqb i j same))
      (owner_returns n x s i rest body here before e st (p ∙ ap Some (sym same)))

  unanswered : (m : ToMemory) → (s.node i).up ≡ m ∷ rest → s.home.state ≡ RW → (o : Option ℕ) → sole s.home.pointers ≡ o → 1 ≤ digit (is_update m) + digit (is_ackc m) → ⊥
  unanswered m e st None p some = counts s.home RW None st p before.counter
  unanswered m e st (Some j) p some = omega (arith, owned_asks n x s i m rest j before e st p)

  read_update_by : (body : Line) (o : Option ℕ) → sole s.home.pointers ≡ o → s.home.state ≡ RT → (s.node i).up ≡ UPDATE body ∷ rest → Sound n x (acted s i rest (end_read s.home body o))
  read_update_by body None p st e = absurd (counts s.home RT None st p before.counter)
  read_update_by body (Some k) p st e = read_updated n x s i rest body k here before e st p

  write_update_by : (body : Line) (o : Option ℕ) → sole s.home.pointers ≡ o → s.home.state ≡ WT → (s.node i).up ≡ UPDATE body ∷ rest → Sound n x (acted s i rest (end_write s.home body o))
  write_update_by body None p st e = absurd (counts s.home WT None st p before.counter)
  write_update_by body (Some k) p st e = write_updated n x s i rest body k here before e st p

  read_ack_by : (acks : ℕ) (o : Option ℕ) → s.home.acks ≡ acks → sole s.home.pointers ≡ o → s.home.state ≡ RT → (s.node i).up ≡ ACKC ∷ rest → Sound n x (acted s i rest (acknowledge s.home (end_read s.home s.home.body o) acks))
  read_ack_by acks None q p st e = absurd (counts s.home RT None st p before.counter)
  read_ack_by zero (Some k) q p st e = absurd (let one : s.home.acks ≡ 1 = counts s.home RT (Some k) st p before.counter in omega arith)
  read_ack_by (suc zero) (Some k) q p st e = read_acked n x s i rest k here before e st p q
  read_ack_by (suc (suc left)) (Some k) q p st e = absurd (let one : s.home.acks ≡ 1 = counts s.home RT (Some k) st p before.counter in omega arith)

  write_ack_by : (acks : ℕ) (o : Option ℕ) → s.home.acks ≡ acks → sole s.home.pointers ≡ o → s.home.state ≡ WT → (s.node i).up ≡ ACKC ∷ rest → Sound n x (acted s i rest (acknowledge s.home (end_write s.home s.home.body o) acks))
  write_ack_by acks None q p st e = absurd (counts s.home WT None st p before.counter)
  write_ack_by zero (Some k) q p st e = absurd (let some : 1 ≤ s.home.acks = counts s.home WT (Some k) st p before.counter in omega arith)
  write_ack_by (suc zero) (Some k) q p st e = write_acked n x s i rest k here before e st p q
  write_ack_by (suc (suc left)) (Some k) q p st e = counted n x s i rest left here before e k st p q

  by_row : (st : State) (m : ToMemory) → s.home.state ≡ st → (s.node i).up ≡ m ∷ rest → Sound n x (acted s i rest (row s.home i st m))
  by_row RO RREQ st e = shared_read n x s i rest here before e st
  by_row RO WREQ st e = by_others (others s.home.pointers i) refl st e
  by_row RO (REPM body) st e = absurd (omega (arith, shared_asks n x s i (REPM body) rest before e st))
  by_row RO (UPDATE body) st e = absurd (omega (arith, shared_asks n x s i (UPDATE body) rest before e st))
  by_row RO ACKC st e = absurd (omega (arith, shared_asks n x s i ACKC rest before e st))
  by_row RW RREQ st e = read_by_owner (sole s.home.pointers) refl st e
  by_row RW WREQ st e = write_by_owner (sole s.home.pointers) refl st e
  by_row RW (REPM body) st e = given_by_owner body (sole s.home.pointers) refl st e
  by_row RW (UPDATE body) st e = absurd (unanswered (UPDATE body) e st (sole s.home.pointers) refl (omega arith))
  by_row RW ACKC st e = absurd (unanswered ACKC e st (sole s.home.pointers) refl (omega arith))
  by_row RT RREQ st e = refused n x s i RREQ rest here before e refl
  by_row RT WREQ st e = refused n x s i WREQ rest here before e refl
  by_row RT (REPM body) st e = late_return n x s i rest body here before e (reading st)
  by_row RT (UPDATE body) st e = read_update_by body (sole s.home.pointers) refl st e
  by_row RT ACKC st e = read_ack_by s.home.acks (sole s.home.pointers) refl refl st e
  by_row WT RREQ st e = refused n x s i RREQ rest here before e refl
  by_row WT WREQ st e = refused n x s i WREQ rest here before e refl
  by_row WT (REPM body) st e = late_return n x s i rest body here before e (writing st)
  by_row WT (UPDATE body) st e = write_update_by body (sole s.home.pointers) refl st e
  by_row WT ACKC st e = write_ack_by s.home.acks (sole s.home.pointers) refl refl st e

-- the home's action keeps a line sound
pub acts_keeps : (n : ℕ) (x : Line) (s : LineState) (i : ℕ) → i < n → Sound n x s → Sound n x (acts s i (s.node i).up)
acts_keeps n x s i here before = go (s.node i).up refl
  where
    go : (up : List ToMemory) → (s.node i).up ≡ up → Sound n x (acts s i up)
    go [] e = before
    go (m ∷ rest) e = by_row n x s i rest here before s.home.state m refl e

-- ---- events and runs

-- a legal event keeps a line sound, with the value that it leaves
pub event_keeps : (n : ℕ) (x : Line) (s : LineState) (e : LineEvent) → Sound n x s → IsLegal n s e → Sound n (value_after x e) (step s e)
event_keeps n x s (Opens i mode) before legal = opens_keeps n x s i mode legal.0 before legal.1 legal.2
event_keeps n x s (Stores i body) before legal = stores_keeps n x s i body legal.0 before legal.1
event_keeps n x s (Leaves i) before legal = leaves_keeps n x s i legal before
event_keeps n x s (Comes i) before legal = comes_keeps n x s i legal before
event_keeps n x s (Acts i) before legal = acts_keeps n x s i legal before

-- a legal run keeps a line sound
pub run_keeps : (n : ℕ) (x : Line) (s : LineState) (es : List LineEvent) → Sound n x s → IsLegalRun n s es → Sound n (last_stored x es) (run s es)
run_keeps n x s [] before legal = before
run_keeps n x s (e ∷ es) before legal = run_keeps n (value_after x e) (step s e) es (event_keeps n x s e before legal.0) legal.1

-- the start is sound
pub start_sound : (n : ℕ) (x : Line) → Sound n x (start x)
start_sound n x = record {
  each = λ k. let e : digit (has_node no_nodes k) ≡ 0 = ap digit (has-none k) in search arith;
  counter = refl;
  total = sum_none n (λ k. 0) (λ k l. refl);
  alone = λ j k some. absurd (omega arith);
  home_value = λ none. refl;
  beyond = λ k l. refl;
  members = λ k is. absurd (let f : false ≡ true = sym (has-none k) ∙ is in cc);
}

-- a line is sound after every legal run from the start
pub always_sound : (n : ℕ) (x : Line) (es : List LineEvent) → IsLegalRun n (start x) es → Sound n (last_stored x es) (run (start x) es)
always_sound n x es legal = run_keeps n x (start x) es (start_sound n x) legal
