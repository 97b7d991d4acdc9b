-- What an event leaves of a processor side is one again.
use Rattle.std.proofs.Common.{◌≡◌, ℕ, ◌<◌, ◌≤◌, Bool, true, false, cond, ◌==◌, Option, Some, None, IsTrue, List, length, refl, sym, ap, ◌∙◌, subst, ◌⊎◌, inl, inr, arith}
use Rattle.std.proofs.lemmas.Bool.{true≢false, eqb-true, eqb-false, cases_lt}
use Rattle.std.proofs.lemmas.Bool.Decides.{nat_tests}
use Rattle.std.proofs.lemmas.List.{length-set, length-map, get_or-map, get_or-set_same, get_or-set_other}
use Rattle.std.proofs.Math.ListN.{get_or-eq_default}
use Rattle.alw_num.specs.declared.states.Mode.{Mode}
use Rattle.alw_num.specs.Maps.{passes_if_some, value_at, with_value, without_value}
use Rattle.alw_num.proofs.MapLaws.{value-with, value-without}
use Rattle.sparc_table.specs.declared.registers.Regs.{Regs}
use Rattle.alw_msg.specs.declared.contexts.Status.{Status}
use Rattle.alw_msg.specs.declared.contexts.Status.TheVariants.{Ready, Waiting, Halted, Trapped}
use Rattle.alw_model.specs.Caches.{Copy, Cache, Transaction, Transactions}
use Rattle.alw_msg.specs.Statuses.{is_ready, waits_on}
use Rattle.alw_model.specs.Contexts.{Slot, no_slot, slot_at, running, turn_order, ran, woken, wake, give_hold}
use Rattle.alw_model.specs.ProcessorSteps.{opened, slots_after}
use Rattle.alw_proc.specs.Openings.{OpeningIsNotOf}
use Rattle.alw_proc.specs.Processors.{HoldsLine}
use Rattle.alw_num.proofs.Lists.{found_passes}

-- ---- the slot that runs

pub runs_ready : (slots : List Slot) (current slot : ℕ) → running slots current ≡ Some slot → is_ready (slot_at slots slot).status ≡ true
runs_ready slots current slot runs = found_passes (λ k. is_ready (slot_at slots k).status) (turn_order current (length slots)) slot runs

pub runs_within : (slots : List Slot) (current slot : ℕ) → running slots current ≡ Some slot → slot < length slots
runs_within slots current slot runs = go (cases_lt slot (length slots))
  where
    go : (slot < length slots) ⊎ (length slots ≤ slot) → slot < length slots
    go (inl l) = l
    go (inr m) =
        let none : slot_at slots slot ≡ no_slot = get_or-eq_default slots no_slot m in
        absurd (true≢false (sym (runs_ready slots current slot runs) ∙ ap (λ (s : Slot). is_ready s.status) none))

ready_waits : (status : Status) (line : ℕ) → is_ready status ≡ true → waits_on line status ≡ true → ⊥
ready_waits Ready line ready waits = true≢false (sym waits)
ready_waits (Waiting waited) line ready waits = true≢false (sym ready)
ready_waits Halted line ready waits = true≢false (sym ready)
ready_waits (Trapped pc tt) line ready waits = true≢false (sym ready)

-- ---- openers wait

abbrev pub Awaits : List Slot → ℕ → Option Transaction → Type 0
Awaits slots line transaction = IsTrue (passes_if_some (λ (t : Transaction). waits_on line (slot_at slots t.opener).status) transaction)

-- a Ready slot has no transaction
pub none_of_ready : (slots : List Slot) (slot line : ℕ) (o : Option Transaction) → is_ready (slot_at slots slot).status ≡ true → Awaits slots line o → OpeningIsNotOf slot o
none_of_ready slots slot line None ready waits = tt
none_of_ready slots slot line (Some t) ready waits = λ same. ready_waits (slot_at slots slot).status line ready (ap (λ n. waits_on line (slot_at slots n).status) (sym same) ∙ waits)

-- another slot runs
pub awaits_ran : (slots : List Slot) (slot line : ℕ) (regs : Regs) (status : Status) (o : Option Transaction) → is_ready (slot_at slots slot).status ≡ true → Awaits slots line o → Awaits (ran slots slot regs status) line o
awaits_ran slots slot line regs status None ready waits = refl
awaits_ran slots slot line regs status (Some t) ready waits =
    ap (λ (s : Slot). waits_on line s.status) (get_or-set_other slots slot t.opener _ no_slot (none_of_ready slots slot line (Some t) ready waits)) ∙ waits

-- the opener of a new transaction waits
pub awaits_opened : (slots : List Slot) (transactions : Transactions) (slot line : ℕ) (mode : Mode) (regs : Regs) (status : Status) → slot < length slots → is_ready (slot_at slots slot).status ≡ true → waits_on line status ≡ true
    → ((l : ℕ) → Awaits slots l (value_at transactions l)) → (o : Option Transaction) (l : ℕ) → Awaits (ran slots slot regs status) l (value_at (opened transactions line mode slot o).0 l)
awaits_opened slots transactions slot line mode regs status within ready waits before (Some t) l = awaits_ran slots slot l regs status (value_at transactions l) ready (before l)
awaits_opened slots transactions slot line mode regs status within ready waits before None l =
    subst (Awaits (ran slots slot regs status) l) (sym (value-with transactions line (record { mode = mode; opener = slot }) l)) (go (l == line) refl)
  where
    go : (b : Bool) → (l == line) ≡ b → Awaits (ran slots slot regs status) l (cond b (Some (record { mode = mode; opener = slot })) (value_at transactions l))
    go true e =
        let same : l ≡ line = eqb-true l line e in
        ap (λ (s : Slot). waits_on l s.status) (get_or-set_same slots slot _ no_slot within) ∙ rw same waits
    go false e = awaits_ran slots slot l regs status (value_at transactions l) ready (before l)

-- ---- a transaction ends

other_stays : (status : Status) (l line : ℕ) → waits_on l status ≡ true → (l == line) ≡ false → waits_on line status ≡ false
other_stays Ready l line waits other = refl
other_stays (Waiting waited) l line waits other = let same : waited.0 ≡ l = eqb-true _ _ waits in rw same other
other_stays Halted l line waits other = refl
other_stays (Trapped pc tt) l line waits other = refl

slot_woken : (slots : List Slot) (line slot : ℕ) → slot_at (wake line slots) slot ≡ woken line (slot_at slots slot)
slot_woken slots line slot = go (cases_lt slot (length slots))
  where
    go : (slot < length slots) ⊎ (length slots ≤ slot) → slot_at (wake line slots) slot ≡ woken line (slot_at slots slot)
    go (inl l) = get_or-map (woken line) slots slot no_slot no_slot l
    go (inr m) =
        let none : slot_at slots slot ≡ no_slot = get_or-eq_default slots no_slot m in
        rw none (get_or-eq_default (wake line slots) no_slot (omega (arith, length-map slots (woken line))))

waits_woken : (slots : List Slot) (l line slot : ℕ) → waits_on l (slot_at slots slot).status ≡ true → (l == line) ≡ false → waits_on l (slot_at (wake line slots) slot).status ≡ true
waits_woken slots l line slot waits other =
    let still = other_stays (slot_at slots slot).status l line waits other in
    ap (λ (s : Slot). waits_on l s.status) (slot_woken slots line slot ∙ ap (λ b. cond b (record (slot_at slots slot) { status = Ready }) (slot_at slots slot)) still) ∙ waits

waits_held : (slots : List Slot) (l line slot at : ℕ) → waits_on l (slot_at slots at).status ≡ true → waits_on l (slot_at (give_hold line slot slots) at).status ≡ true
waits_held slots l line slot at waits = go (at == slot) refl (cases_lt slot (length slots))
  where
    go : (b : Bool) → (at == slot) ≡ b → (slot < length slots) ⊎ (length slots ≤ slot) → waits_on l (slot_at (give_hold line slot slots) at).status ≡ true
    go false e w = ap (λ (s : Slot). waits_on l s.status) (get_or-set_other slots slot at _ no_slot (eqb-false at slot e)) ∙ waits
    go true e (inl within) =
        let same : at ≡ slot = eqb-true at slot e in
        ap (λ (s : Slot). waits_on l s.status) (ap (slot_at (give_hold line slot slots)) same ∙ get_or-set_same slots slot _ no_slot within) ∙ (ap (λ n. waits_on l (slot_at slots n).status) (sym same) ∙ waits)
    go true e (inr beyond) =
        let same : at ≡ slot = eqb-true at slot e in
        let none : slot_at slots at ≡ no_slot = get_or-eq_default slots no_slot (omega arith) in
        absurd (true≢false (sym waits ∙ ap (λ (s : Slot). waits_on l s.status) none))

awaits_after : (slots : List Slot) (l line : ℕ) (came : Bool) (ended o : Option Transaction) → (l == line) ≡ false → Awaits slots l o → Awaits (slots_after slots line came ended) l o
awaits_after slots l line came ended None other waits = refl
awaits_after slots l line came None (Some t) other waits = waits
awaits_after slots l line true (Some e) (Some t) other waits = waits_held (wake line slots) l line e.opener t.opener (waits_woken slots l line t.opener waits other)
awaits_after slots l line false (Some e) (Some t) other waits = waits_woken slots l line t.opener waits other

pub awaits_ended : (slots : List Slot) (transactions : Transactions) (line : ℕ) (came : Bool) (ended : Option Transaction) → ((l : ℕ) → Awaits slots l (value_at transactions l)) → (l : ℕ) → Awaits (slots_after slots line came ended) l (value_at (without_value transactions line) l)
awaits_ended slots transactions line came ended before l = subst (Awaits (slots_after slots line came ended) l) (sym (value-without transactions line l)) (go (l == line) refl)
  where
    go : (b : Bool) → (l == line) ≡ b → Awaits (slots_after slots line came ended) l (cond b None (value_at transactions l))
    go true e = refl
    go false e = awaits_after slots l line came ended (value_at transactions l) e (before l)

pub length_after : (slots : List Slot) (line : ℕ) (came : Bool) (ended : Option Transaction) → length (slots_after slots line came ended) ≡ length slots
length_after slots line came None = refl
length_after slots line true (Some e) = length-set (wake line slots) e.opener _ ∙ length-map slots (woken line)
length_after slots line false (Some e) = length-map slots (woken line)

-- ---- copies are of lines that exist

pub holds_with : (lines : ℕ) (cache : Cache) (set : ℕ) (copy : Copy) → copy.line < lines → ((at : ℕ) → HoldsLine lines (value_at cache at)) → (at : ℕ) → HoldsLine lines (value_at (with_value cache set copy) at)
holds_with lines cache set copy l before at = subst (HoldsLine lines) (sym (value-with cache set copy at)) (go (at == set))
  where
    go : (b : Bool) → HoldsLine lines (cond b (Some copy) (value_at cache at))
    go true = grind (arith, nat_tests)
    go false = before at

pub holds_without : (lines : ℕ) (cache : Cache) (set : ℕ) → ((at : ℕ) → HoldsLine lines (value_at cache at)) → (at : ℕ) → HoldsLine lines (value_at (without_value cache set) at)
holds_without lines cache set before at = subst (HoldsLine lines) (sym (value-without cache set at)) (go (at == set))
  where
    go : (b : Bool) → HoldsLine lines (cond b None (value_at cache at))
    go true = refl
    go false = before at
