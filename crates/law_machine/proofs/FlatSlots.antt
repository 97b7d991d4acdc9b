-- What slots are to the flat machine: a slot that waits, is woken or gets a hold is the same context; and the slot that runs is Ready.
use Rattle.std.proofs.Common.{◌≡◌, ℕ, zero, suc, ◌+◌, ◌%◌, ◌<◌, Bool, true, false, cond, Option, Some, None, List, [], ◌∷◌, length, set, map, find, refl, sym, ap, ◌∙◌, arith}
use Rattle.std.specs.List.{range_with_len}
use Rattle.std.proofs.lemmas.List.{map-set, set-get_or}
use Rattle.law_machine.proofs.Vocabulary.{Regs, Outcome, LineNo, Status, Ready, Waiting, Halted, Trapped, Transaction, is_ready, waits_on, Slot, slot_at, no_slot, woken, wake, running}
use Rattle.law_machine.proofs.Vocabulary.{status_after, slots_after, flat_status, flat_context}
use Rattle.sparc_table.specs.declared.outcomes.Outcome.TheVariants as outcomes

-- a slot that becomes one with the same context leaves the contexts as they are
pub same_context : (slots : List Slot) (slot : ℕ) (next : Slot) → flat_context next ≡ flat_context (slot_at slots slot) → map flat_context (set slots slot next) ≡ map flat_context slots
same_context slots slot next same = map-set flat_context slots slot next ∙ (ap (set (map flat_context slots) slot) same ∙ (sym (map-set flat_context slots slot (slot_at slots slot)) ∙ ap (map flat_context) (set-get_or slots slot no_slot)))

woken_same : (line : ℕ) (slot : Slot) → flat_context (woken line slot) ≡ flat_context slot
woken_same line slot = go slot.status refl
  where
    either : (b : Bool) (waited : LineNo) → slot.status ≡ Waiting waited → flat_context (cond b (record slot { status = Ready }) slot) ≡ flat_context slot
    either true waited e = λ x. record { regs = slot.regs; status = flat_status (sym e x) }
    either false waited e = refl

    go : (status : Status) → slot.status ≡ status → flat_context (cond (waits_on line slot.status) (record slot { status = Ready }) slot) ≡ flat_context slot
    go Ready e = ap (λ st. flat_context (cond (waits_on line st) (record slot { status = Ready }) slot)) e
    go (Waiting waited) e = either (waits_on line slot.status) waited e
    go Halted e = ap (λ st. flat_context (cond (waits_on line st) (record slot { status = Ready }) slot)) e
    go (Trapped pc tt) e = ap (λ st. flat_context (cond (waits_on line st) (record slot { status = Ready }) slot)) e

wake_same : (line : ℕ) (slots : List Slot) → map flat_context (wake line slots) ≡ map flat_context slots
wake_same line [] = refl
wake_same line (slot ∷ rest) = λ x. woken_same line slot x ∷ wake_same line rest x

-- the end of a transaction leaves the contexts as they are
pub after_same : (slots : List Slot) (line : ℕ) (came : Bool) (o : Option Transaction) → map flat_context (slots_after slots line came o) ≡ map flat_context slots
after_same slots line came None = refl
after_same slots line true (Some transaction) = same_context (wake line slots) transaction.opener _ refl ∙ wake_same line slots
after_same slots line false (Some transaction) = wake_same line slots

-- a turn leaves no slot waiting
pub flat_after_turn : (regs : Regs) (outcome : Outcome) → flat_status (status_after regs outcome) ≡ status_after regs outcome
flat_after_turn regs outcomes.Done = refl
flat_after_turn regs (outcomes.Miss line mode) = refl
flat_after_turn regs (outcomes.Out word) = refl
flat_after_turn regs outcomes.Halt = refl
flat_after_turn regs (outcomes.Trap tt) = refl

-- the first that passes a test, passes it, and is one of the list
pub record Chosen (test : ℕ → Bool) (bound : ℕ) (x : ℕ) : Type 0 where
  pub passes : test x ≡ true
  pub below : x < bound

chosen : (test : ℕ → Bool) (current count low n : ℕ) (x : ℕ) → find test (map (λ k. (current + k) % count) (range_with_len low n)) ≡ Some x → 0 < count → Chosen test count x
chosen test current count low zero x e some = absurd (cc)
chosen test current count low (suc n) x e some = go (test ((current + low) % count)) refl (λ f. chosen test current count (low + 1) n x f some) e
  where
    go : (b : Bool) → test ((current + low) % count) ≡ b → (find test (map (λ k. (current + k) % count) (range_with_len (low + 1) n)) ≡ Some x → Chosen test count x)
        → cond b (Some ((current + low) % count)) (find test (map (λ k. (current + k) % count) (range_with_len (low + 1) n))) ≡ Some x → Chosen test count x
    go true is more e = let same : (current + low) % count ≡ x = cc in record { passes = ap test (sym same) ∙ is; below = omega arith }
    go false is more e = more e

-- the slot that runs is Ready, and exists
pub runs_ready : (slots : List Slot) (current slot : ℕ) → running slots current ≡ Some slot → Chosen (λ i. is_ready (slot_at slots i).status) (length slots) slot
runs_ready [] current slot e = absurd (cc)
runs_ready (first ∷ rest) current slot e = chosen (λ i. is_ready (slot_at (first ∷ rest) i).status) current (length (first ∷ rest)) 0 (length (first ∷ rest)) slot e (omega arith)

pub ready_is : (status : Status) → is_ready status ≡ true → status ≡ Ready
ready_is Ready is = refl
ready_is (Waiting line) is = absurd (cc)
ready_is Halted is = absurd (cc)
ready_is (Trapped pc tt) is = absurd (cc)
