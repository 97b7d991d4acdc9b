-- The number of slots with a hold, and what a change does to it.
use Rattle.std.proofs.Common.{◌≡◌, ℕ, zero, suc, ◌+◌, ◌-◌, ◌<◌, ◌≤◌, Bool, true, false, cond, is_some, Option, None, List, [], ◌∷◌, length, map, slice_set, slice_index_or, Fits, w8, refl, ap, arith}
use Rattle.std.proofs.lemmas.List.{length-set}
use Rattle.alw_num.specs.Weights.{digit}
use Rattle.alw_num.proofs.Weigh.{digit_le}
use Rattle.alw_image.specs.declared.parts.Parts.{Parts}
use Rattle.alw_msg.specs.declared.contexts.Status.TheVariants.{Ready}
use Rattle.alw_msg.specs.Statuses.{waits_on}
use Rattle.alw_model.specs.Contexts.{Slot, slot_at, slot_start, slots_start, wake}
use Rattle.std.specs.List.{range_with_len}
use Rattle.alw_ctx.specs.declared.residents.Resident.{Resident}
use Rattle.alw_ctx.specs.Residents.{slot_of, slots_of, holds_of}
use Rattle.alw_ctx.proofs.Slots.{length_slots, slot_read, slots_set}

abbrev holding : Slot → ℕ
holding slot = digit (is_some slot.hold)

pub few_holds : (slots : List Slot) → holds_of slots ≤ length slots
few_holds [] = omega arith
few_holds (slot ∷ slots) = omega (arith, digit_le (is_some slot.hold), few_holds slots)

-- a slot changes
with_slot : (slots : List Slot) (i : ℕ) (slot : Slot) → i < length slots → holds_of (slice_set slots i slot) + holding (slot_at slots i) ≡ holds_of slots + holding slot
with_slot [] i slot l = absurd (omega arith)
with_slot (first ∷ slots) zero slot l = omega arith
with_slot (first ∷ slots) (suc i) slot l = omega (arith, with_slot slots i slot (omega arith))

-- a place changes
with_place : (n : ℕ) (places : List Resident) (i : ℕ) (d place : Resident) → i < n → n ≤ length places
    → holds_of (slots_of n (slice_set places i place)) + holding (slot_of (slice_index_or places i d)) ≡ holds_of (slots_of n places) + holding (slot_of place)
with_place n places i d place l m =
    rw (slots_set n places i place l) (rw (slot_read n places i d l m) at (with_slot (slots_of n places) i (slot_of place) (omega (arith, length_slots n places m))))

-- contexts of so many slots, of which one is the current one, with so many holds
abbrev AreKept : ℕ → List Resident → ℕ → ℕ → Type 0
AreKept n places current holds = (current < n) × (n ≤ 4) × (length places ≡ 4) × (holds ≡ holds_of (slots_of n places))

module _ (n : ℕ) (places : List Resident) (current holds i : ℕ) (d : Resident) (kept : AreKept n places current holds) (here : i < length (slots_of n places)) where
  abbrev was : Slot
  was = slot_of (slice_index_or places i d)

  within : i < n
  within = omega (arith, here, length_slots n places (omega (arith, kept.1, kept.2)))

  -- the holds once a place has changed
  changed : (place : Resident) → holds_of (slots_of n (slice_set places i place)) + holding was ≡ holds + holding (slot_of place)
  changed place = omega (arith, with_place n places i d place within (omega (arith, kept.1, kept.2)), kept.3)

  sized : (place : Resident) → length (slice_set places i place) ≡ 4
  sized place = omega (arith, length-set places i place, kept.2)

  -- a slot's hold is counted, and once the slot has run it isn't
  pub hold_counted : (had : ℕ) → had ≡ holding was → had ≤ holds
  hold_counted had is = omega (arith, changed (record (slice_index_or places i d) { hold = None }), is)

  pub hold_ends : (place : Resident) (had : ℕ) → had ≡ holding was → (slot_of place).hold ≡ None → AreKept n (slice_set places i place) i (holds - had)
  hold_ends place had is free =
      (within, kept.1, sized place, omega (arith, changed place, ap (λ (hold : Option ℕ). digit (is_some hold)) free, is))

  -- a slot gets a hold
  pub hold_begins : (place : Resident) (had : ℕ) → had ≡ holding was → is_some (slot_of place).hold ≡ true → AreKept n (slice_set places i place) current (holds + (1 - had))
  hold_begins place had is held =
      (kept.0, kept.1, sized place, omega (arith, changed place, digit_le (is_some was.hold), ap digit held, is))

pub hold_fits : (n : ℕ) (places : List Resident) (current holds had : ℕ) → AreKept n places current holds → Fits w8 (holds + (1 - had))
hold_fits n places current holds had kept =
    omega (arith, few_holds (slots_of n places), length_slots n places (omega (arith, kept.1, kept.2)), kept.1, kept.3)

-- ---- a transaction ends

held_either_way : (b : Bool) (one other : Slot) → one.hold ≡ other.hold → (cond b one other).hold ≡ other.hold
held_either_way true one other same = same
held_either_way false one other same = refl

pub wake_holds : (line : ℕ) (slots : List Slot) → holds_of (wake line slots) ≡ holds_of slots
wake_holds line [] = refl
wake_holds line (slot ∷ slots) = omega (arith, ap (λ (hold : Option ℕ). digit (is_some hold)) (held_either_way (waits_on line slot.status) (record slot { status = Ready }) slot refl), wake_holds line slots)

-- ---- at the start

free_slots : (f : ℕ → Slot) → ((k : ℕ) → (f k).hold ≡ None) → (ks : List ℕ) → holds_of (map f ks) ≡ 0
free_slots f free [] = refl
free_slots f free (k ∷ ks) = omega (arith, ap (λ (hold : Option ℕ). digit (is_some hold)) (free k), free_slots f free ks)

pub start_holds : (parts : Parts) (node : ℕ) → holds_of (slots_start parts node) ≡ 0
start_holds parts node = free_slots (slot_start parts node) (λ k. refl) (range_with_len 0 parts.contexts)
