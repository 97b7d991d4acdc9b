-- No combination that the home table doesn't list is met.
use Rattle.std.proofs.Common.{◌≡◌, ◌⊎◌, zero, suc, ◌<◌, Bool, ◌≢◌, ℕ, ◌+◌, ◌≤◌, inl, inr, Option, Some, None, List, ◌∷◌, refl, sym, ap, ◌∙◌, ⊎_elim, arith}
use Rattle.std.specs.Prelude.{IsSomeAnd, IsSome}
use Rattle.std.proofs.lemmas.Bool.{cases_lt, eq-eqb, ne_eqb}
use Rattle.alw_num.specs.declared.addresses.Line.{Line}
use Rattle.alw_num.specs.declared.states.State.{State}
use Rattle.alw_num.specs.declared.states.State.TheVariants.{RO, RW, RT, WT}
use Rattle.alw_num.specs.Weights.{digit}
use Rattle.alw_num.proofs.Weigh.{is_node, digit_same, digit_other}
use Rattle.alw_msg.specs.Contents.{ToMemory, RREQ, WREQ, REPM, UPDATE, ACKC, is_rreq, is_wreq, is_repm, is_update, is_ackc}
use Rattle.alw_model.specs.FullMap.{Home, Sends, sole, act, row, unlisted, recall, recall_from, give_back, give_back_from, end_read, end_write, acknowledge}
use Rattle.alw_msg.specs.Lists.{count_of}
use Rattle.alw_model.specs.Lines.{LineState}
use Rattle.law_line.specs.Combinations.{ListedIn, IsListed}
use Rattle.law_line.specs.Census.{wrong_up}
use Rattle.law_line.specs.Sound.{Sound}
use Rattle.law_line.proofs.Orders.{up_front}
use Rattle.law_line.proofs.Nodes.{debts}
use Rattle.law_line.proofs.Homes.{roles, counts}
use Rattle.law_line.proofs.ReadOnly.{calm}

-- in Read-Only no copy comes back and no answer
pub shared_asks : (n : ℕ) (x : Line) (s : LineState) (i : ℕ) (m : ToMemory) (rest : List ToMemory) → Sound n x s → (s.node i).up ≡ m ∷ rest → s.home.state ≡ RO → digit (is_repm m) + digit (is_update m) + digit (is_ackc m) ≡ 0
shared_asks n x s i m rest before e st = let f = up_front x (s.node i).up m rest e in let q = calm n x s before st i in omega arith

-- in Read-Write no answer comes
pub owned_asks : (n : ℕ) (x : Line) (s : LineState) (i : ℕ) (m : ToMemory) (rest : List ToMemory) (j : ℕ) → Sound n x s → (s.node i).up ≡ m ∷ rest → s.home.state ≡ RW → sole s.home.pointers ≡ Some j → digit (is_update m) + digit (is_ackc m) ≡ 0
owned_asks n x s i m rest j before e st p =
    let f = up_front x (s.node i).up m rest e in
    let quiet : s.home.acks ≡ 0 = counts s.home RW (Some j) st p before.counter in
    let q = debts n x s before i in
    omega arith

-- the owner asks for nothing: its copy would stand before its request
pub owner_waits : (n : ℕ) (x : Line) (s : LineState) (i : ℕ) (m : ToMemory) (rest : List ToMemory) (j : ℕ) → Sound n x s → (s.node i).up ≡ m ∷ rest → s.home.state ≡ RW → sole s.home.pointers ≡ Some j → digit (is_rreq m) + digit (is_wreq m) ≡ 1 → digit (is_repm m) ≡ 0 → wrong_up (m ∷ rest) ≡ count_of is_repm rest + wrong_up rest → i ≢ j
owner_waits n x s i m rest j before e st p asks none wrong same =
    let f = up_front x (s.node i).up m rest e in
    let w : wrong_up (s.node i).up ≡ wrong_up (m ∷ rest) = ap wrong_up e in
    let quiet : s.home.acks ≡ 0 = counts s.home RW (Some j) st p before.counter in
    let q = debts n x s before i in
    let c = before.each i in
    let r = roles s.home RW (Some j) i st p in
    let d = digit_same i j same in
    omega arith

-- only the owner gives a copy back
pub owner_gives : (n : ℕ) (x : Line) (s : LineState) (i : ℕ) (rest : List ToMemory) (body : Line) (j : ℕ) → Sound n x s → (s.node i).up ≡ REPM body ∷ rest → s.home.state ≡ RW → sole s.home.pointers ≡ Some j → i ≡ j
owner_gives n x s i rest body j before e st p = is_node (i ≡ j) i j (λ same. same) (λ other. absurd (
    let f = up_front x (s.node i).up (REPM body) rest e in
    let quiet : s.home.acks ≡ 0 = counts s.home RW (Some j) st p before.counter in
    let q = debts n x s before i in
    let c = before.each i in
    let r = roles s.home RW (Some j) i st p in
    let d = digit_other i j other in
    omega arith))

-- each message that is in front of an `up` is listed
pub listed : (n : ℕ) (x : Line) (s : LineState) → Sound n x s → (i : ℕ) (m : ToMemory) (rest : List ToMemory) → (s.node i).up ≡ m ∷ rest → IsListed s.home i m
listed n x s before i m rest e = by_state s.home.state m refl e
  where
    at_owner : (m : ToMemory) → s.home.state ≡ RW → (s.node i).up ≡ m ∷ rest → digit (is_rreq m) + digit (is_wreq m) ≡ 1 → digit (is_repm m) ≡ 0 → wrong_up (m ∷ rest) ≡ count_of is_repm rest + wrong_up rest → (o : Option ℕ) → sole s.home.pointers ≡ o → IsSomeAnd o (λ owner. i ≢ owner)
    at_owner m st e asks none wrong None p = absurd (counts s.home RW None st p before.counter)
    at_owner m st e asks none wrong (Some j) p = owner_waits n x s i m rest j before e st p asks none wrong

    of_owner : (body : Line) → s.home.state ≡ RW → (s.node i).up ≡ REPM body ∷ rest → (o : Option ℕ) → sole s.home.pointers ≡ o → sole s.home.pointers ≡ Some i
    of_owner body st e None p = absurd (counts s.home RW None st p before.counter)
    of_owner body st e (Some j) p = p ∙ ap Some (sym (owner_gives n x s i rest body j before e st p))

    unasked : (m : ToMemory) → s.home.state ≡ RW → (s.node i).up ≡ m ∷ rest → 1 ≤ digit (is_update m) + digit (is_ackc m) → (o : Option ℕ) → sole s.home.pointers ≡ o → ⊥
    unasked m st e some None p = counts s.home RW None st p before.counter
    unasked m st e some (Some j) p = omega (arith, owned_asks n x s i m rest j before e st p)

    has_one : (st : State) → s.home.state ≡ st → (st ≡ RO → ⊥) → (o : Option ℕ) → sole s.home.pointers ≡ o → IsSome o
    has_one RO st busy o p = absurd (busy refl)
    has_one RW st busy None p = absurd (counts s.home RW None st p before.counter)
    has_one RT st busy None p = absurd (counts s.home RT None st p before.counter)
    has_one WT st busy None p = absurd (counts s.home WT None st p before.counter)
    has_one _ st busy (Some j) p = refl

    read_count : s.home.state ≡ RT → (o : Option ℕ) → sole s.home.pointers ≡ o → s.home.acks ≡ 1
    read_count st None p = absurd (counts s.home RT None st p before.counter)
    read_count st (Some k) p = counts s.home RT (Some k) st p before.counter

    write_count : s.home.state ≡ WT → (o : Option ℕ) → sole s.home.pointers ≡ o → 1 ≤ s.home.acks
    write_count st None p = absurd (counts s.home WT None st p before.counter)
    write_count st (Some k) p = counts s.home WT (Some k) st p before.counter

    by_state : (st : State) (m : ToMemory) → s.home.state ≡ st → (s.node i).up ≡ m ∷ rest → ListedIn st s.home i m
    by_state RO RREQ st e = tt
    by_state RO WREQ st e = tt
    by_state RO (REPM body) st e = absurd (omega (arith, shared_asks n x s i (REPM body) rest before e st))
    by_state RO (UPDATE body) st e = absurd (omega (arith, shared_asks n x s i (UPDATE body) rest before e st))
    by_state RO ACKC st e = absurd (omega (arith, shared_asks n x s i ACKC rest before e st))
    by_state RW RREQ st e = at_owner RREQ st e refl refl refl (sole s.home.pointers) refl
    by_state RW WREQ st e = at_owner WREQ st e refl refl refl (sole s.home.pointers) refl
    by_state RW (REPM body) st e = of_owner body st e (sole s.home.pointers) refl
    by_state RW (UPDATE body) st e = absurd (unasked (UPDATE body) st e (omega arith) (sole s.home.pointers) refl)
    by_state RW ACKC st e = absurd (unasked ACKC st e (omega arith) (sole s.home.pointers) refl)
    by_state RT RREQ st e = tt
    by_state RT WREQ st e = tt
    by_state RT (REPM body) st e = tt
    by_state RT (UPDATE body) st e = has_one RT st (λ f. cc) (sole s.home.pointers) refl
    by_state RT ACKC st e = inr (read_count st (sole s.home.pointers) refl, has_one RT st (λ f. cc) (sole s.home.pointers) refl)
    by_state WT RREQ st e = tt
    by_state WT WREQ st e = tt
    by_state WT (REPM body) st e = tt
    by_state WT (UPDATE body) st e = has_one WT st (λ f. cc) (sole s.home.pointers) refl
    by_state WT ACKC st e = let some = write_count st (sole s.home.pointers) refl in ⊎_elim (λ l. inl l) (λ l. inr (omega arith, has_one WT st (λ f. cc) (sole s.home.pointers) refl)) (cases_lt 1 s.home.acks)

-- what isn't listed changes nothing and sends nothing
module _ (h : Home) (i : ℕ) where
  asked_by : (st : State) (o : Option ℕ) → ¬ IsSomeAnd o (λ owner. i ≢ owner) → recall h i st o ≡ unlisted h
  asked_by st None isnt = refl
  asked_by st (Some j) isnt = is_node _ i j
      (λ same. ap (λ (b : Bool). recall_from h i st j b) (eq-eqb i j same))
      (λ other. absurd (isnt other))

  given_by : (body : Line) (o : Option ℕ) → sole h.pointers ≡ o → ¬ (sole h.pointers ≡ Some i) → give_back h i body o ≡ unlisted h
  given_by body None e isnt = refl
  given_by body (Some j) e isnt = is_node _ i j
      (λ same. absurd (isnt (e ∙ ap Some (sym same))))
      (λ other. ap (λ (b : Bool). give_back_from h body b) (ne_eqb i j other))

  read_ended_by : (body : Line) (o : Option ℕ) → ¬ IsSome o → end_read h body o ≡ unlisted h
  read_ended_by body None isnt = refl
  read_ended_by body (Some k) isnt = absurd (isnt refl)

  write_ended_by : (body : Line) (o : Option ℕ) → ¬ IsSome o → end_write h body o ≡ unlisted h
  write_ended_by body None isnt = refl
  write_ended_by body (Some k) isnt = absurd (isnt refl)

  counted_by : (ended : Home × Sends) (acks : ℕ) → h.acks ≡ acks → (¬ IsSome (sole h.pointers) → ended ≡ unlisted h) → ¬ ((1 < h.acks) ⊎ ((h.acks ≡ 1) × IsSome (sole h.pointers))) → acknowledge h ended acks ≡ unlisted h
  counted_by ended zero e last isnt = refl
  counted_by ended (suc zero) e last isnt = last (λ some. isnt (inr (e, some)))
  counted_by ended (suc (suc left)) e last isnt = absurd (isnt (inl (omega arith)))

  row_unlisted : (st : State) (m : ToMemory) → ¬ ListedIn st h i m → row h i st m ≡ unlisted h
  row_unlisted RO RREQ isnt = absurd (isnt tt)
  row_unlisted RO WREQ isnt = absurd (isnt tt)
  row_unlisted RO (REPM body) isnt = refl
  row_unlisted RO (UPDATE body) isnt = refl
  row_unlisted RO ACKC isnt = refl
  row_unlisted RW RREQ isnt = asked_by RT (sole h.pointers) isnt
  row_unlisted RW WREQ isnt = asked_by WT (sole h.pointers) isnt
  row_unlisted RW (REPM body) isnt = given_by body (sole h.pointers) refl isnt
  row_unlisted RW (UPDATE body) isnt = refl
  row_unlisted RW ACKC isnt = refl
  row_unlisted RT RREQ isnt = absurd (isnt tt)
  row_unlisted RT WREQ isnt = absurd (isnt tt)
  row_unlisted RT (REPM body) isnt = absurd (isnt tt)
  row_unlisted RT (UPDATE body) isnt = read_ended_by body (sole h.pointers) isnt
  row_unlisted RT ACKC isnt = counted_by _ h.acks refl (read_ended_by h.body (sole h.pointers)) isnt
  row_unlisted WT RREQ isnt = absurd (isnt tt)
  row_unlisted WT WREQ isnt = absurd (isnt tt)
  row_unlisted WT (REPM body) isnt = absurd (isnt tt)
  row_unlisted WT (UPDATE body) isnt = write_ended_by body (sole h.pointers) isnt
  row_unlisted WT ACKC isnt = counted_by _ h.acks refl (write_ended_by h.body (sole h.pointers)) isnt

pub act_unlisted : (h : Home) (i : ℕ) (m : ToMemory) → ¬ IsListed h i m → act h i m ≡ unlisted h
act_unlisted h i m isnt = row_unlisted h i h.state m isnt
