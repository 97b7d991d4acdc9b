-- Places as slots: what is read of one, and what a change does.
use Rattle.std.proofs.Common.{◌≡◌, ℕ, ◌+◌, ◌<◌, ◌≤◌, Bool, true, false, None, List, [], ◌∷◌, ◌++◌, length, map, take, slice_set, slice_index_or, refl, sym, ap, ◌∙◌, arith}
use Rattle.std.proofs.lemmas.List.{get_or-take, get_or-map, get_or-set_same, length-take-le, length-map, length-set, map-append, map-set, take_all, take_more_set}
use Rattle.std.proofs.lemmas.List.FromFn.{map-range_with_len_more}
use Rattle.std.specs.List.{range_with_len}
use Rattle.std.proofs.Math.Seq.{take-set-lt, map-set_same}
use Rattle.alw_msg.specs.Statuses.{waits_on}
use Rattle.alw_model.specs.Contexts.{Slot, no_slot, slot_at, ran, woken, wake}
use Rattle.alw_ctx.specs.declared.residents.Resident.{Resident}
use Rattle.sparc_table.specs.declared.registers.Regs.{Regs}
use Rattle.sparc_table.specs.declared.outcomes.Outcome.{Outcome}
use Rattle.alw_ctx.specs.Residents.{NodeContexts, slot_of, slots_of, left_by}

-- the contexts with these slots and this current one
abbrev contexts_of : List Slot → ℕ → NodeContexts
contexts_of slots current = record { slots = slots; current = current }

pub same_contexts : (one other : List Slot) (current : ℕ) → one ≡ other → contexts_of one current ≡ contexts_of other current
same_contexts one other current e = ap (λ (slots : List Slot). contexts_of slots current) e

pub length_slots : (n : ℕ) (places : List Resident) → n ≤ length places → length (slots_of n places) ≡ n
length_slots n places l = length-take-le n (map slot_of places) (omega (arith, length-map places slot_of))

pub slot_read : (n : ℕ) (places : List Resident) (i : ℕ) (d : Resident) → i < n → n ≤ length places → slot_at (slots_of n places) i ≡ slot_of (slice_index_or places i d)
slot_read n places i d l m = get_or-take n (map slot_of places) i no_slot l ∙ get_or-map slot_of places i d no_slot (omega arith)

-- a place changes
pub slots_set : (n : ℕ) (places : List Resident) (i : ℕ) (place : Resident) → i < n → slots_of n (slice_set places i place) ≡ slice_set (slots_of n places) i (slot_of place)
slots_set n places i place l = ap (take n) (map-set slot_of places i place) ∙ take-set-lt n (map slot_of places) i (slot_of place) l

-- ---- a slot takes a turn

slot_written : (n : ℕ) (places : List Resident) (slot : ℕ) (after : Resident) → slot < n → n ≤ length places → slot_at (slots_of n (slice_set places slot after)) slot ≡ slot_of after
slot_written n places slot after l m = ap (λ (slots : List Slot). slot_at slots slot) (slots_set n places slot after l) ∙ get_or-set_same (slots_of n places) slot (slot_of after) no_slot (omega (arith, length_slots n places m))

-- what holds of the registers at a place, before and after, holds of the slot's
pub of_slot : (P : Regs → Regs → Type 0) (n : ℕ) (places : List Resident) (slot : ℕ) (empty after : Resident) → slot < n → n ≤ length places
    → P (slice_index_or places slot empty).regs after.regs → P (slot_at (slots_of n places) slot).regs (slot_at (slots_of n (slice_set places slot after)) slot).regs
of_slot P n places slot empty after l m h =
    let was = ap (λ (s : Slot). s.regs) (slot_read n places slot empty l m) in
    let is = ap (λ (s : Slot). s.regs) (slot_written n places slot after l m) in
    rw (was, is) h

-- the slots once the one at a place has taken a turn
pub turned : (n : ℕ) (places : List Resident) (slot : ℕ) (after : Resident) (outcome : Outcome) → slot < n → n ≤ length places
    → slot_of after ≡ (let s : Slot = record { regs = after.regs; status = left_by after.regs outcome; hold = None } in s)
    → let regs = (slot_at (slots_of n (slice_set places slot after)) slot).regs in
    slots_of n (slice_set places slot after) ≡ ran (slots_of n places) slot regs (left_by regs outcome)
turned n places slot after outcome l m left =
    let is = ap (λ (s : Slot). s.regs) (slot_written n places slot after l m) in
    slots_set n places slot after l ∙ (ap (slice_set (slots_of n places) slot) left ∙ sym (ap (λ (r : Regs). ran (slots_of n places) slot r (left_by r outcome)) is))

-- ---- each slot that waits on a line becomes Ready

-- those below k of the first n have been woken, and nothing else has changed
pub record AreWoken (line k n : ℕ) (before after : List Resident) : Type 0 where
  pub four : length after ≡ 4
  pub awake : take k (slots_of n after) ≡ wake line (take k (slots_of n after))
  pub same : wake line (slots_of n after) ≡ wake line (slots_of n before)

woken_twice : (line : ℕ) (slot : Slot) → woken line (woken line slot) ≡ woken line slot
woken_twice line slot = go (waits_on line slot.status) refl
  where
    go : (b : Bool) → waits_on line slot.status ≡ b → woken line (woken line slot) ≡ woken line slot
    go true e = rw e refl
    go false e = rw (e, e) refl

pub woken_more : (line k n : ℕ) (before after : List Resident) (d place : Resident) → AreWoken line k n before after → k < n → n ≤ 4
    → slot_of place ≡ woken line (slot_of (slice_index_or after k d)) → AreWoken line (k + 1) n before (slice_set after k place)
woken_more line k n before after d place is l m e =
    let fits : n ≤ length after = omega (arith, is.four) in
    let now = slots_of n after in
    let size : k < length now = omega (arith, length_slots n after fits) in
    let here : slot_of place ≡ woken line (slot_at now k) = e ∙ sym (ap (woken line) (slot_read n after k d l fits)) in
    let twice : woken line (slot_of place) ≡ slot_of place = ap (woken line) here ∙ (woken_twice line (slot_at now k) ∙ sym here) in
    let set = slots_set n after k place l in
    record {
      four = length-set after k place ∙ is.four;
      awake = rw (set, take_more_set now k (slot_of place) size, map-append (woken line) (take k now) (slot_of place ∷ [])) (λ i. is.awake i ++ sym twice i ∷ []);
      same = ap (wake line) set ∙ (map-set_same (woken line) now k (slot_of place) no_slot (twice ∙ here) ∙ is.same);
    }

pub all_woken : (line n : ℕ) (before after : List Resident) → AreWoken line n n before after → n ≤ 4 → slots_of n after ≡ wake line (slots_of n before)
all_woken line n before after is m =
    let all = take_all n (slots_of n after) (omega (arith, is.four, length_slots n after (omega (arith, is.four)))) in
    sym all ∙ (is.awake ∙ (ap (wake line) all ∙ is.same))

-- one place more is filled
pub filled_more : (f : ℕ → Slot) (k : ℕ) (places : List Resident) (place : Resident) → k < length places → slots_of k places ≡ map f (range_with_len 0 k) → slot_of place ≡ f k
    → slots_of (k + 1) (slice_set places k place) ≡ map f (range_with_len 0 (k + 1))
filled_more f k places place l before here =
    let more : take (k + 1) (slice_set (map slot_of places) k (slot_of place)) ≡ slots_of k places ++ slot_of place ∷ [] = take_more_set (map slot_of places) k (slot_of place) (omega (arith, length-map places slot_of)) in
    let next : map f (range_with_len 0 (k + 1)) ≡ map f (range_with_len 0 k) ++ f k ∷ [] = map-range_with_len_more f 0 k k (omega arith) in
    ap (take (k + 1)) (map-set slot_of places k place) ∙ (more ∙ (rw (before, here) (sym next)))
