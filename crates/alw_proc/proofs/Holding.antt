-- Where no slot has a hold, nothing is kept back.
use Rattle.std.proofs.Common.{◌≡◌, ℕ, ◌+◌, false, true, not, ◌||◌, ◌==◌, Option, Some, None, is_some, List, [], ◌∷◌, refl, sym, ap, arith}
use Rattle.alw_num.specs.Maps.{passes}
use Rattle.alw_num.specs.Weights.{digit, weigh}
use Rattle.alw_msg.specs.Contents.{RDATA, WDATA, INV, BUSY, Content, ForMemory, ForCache}
use Rattle.alw_model.specs.Caches.{Copy, replaced}
use Rattle.alw_model.specs.Contexts.{Slot, is_held}
use Rattle.alw_model.specs.Sides.{Processor}
use Rattle.alw_proc.specs.Processors.{may_take}

-- how many slots have a hold
abbrev holds : List Slot → ℕ
holds slots = weigh (λ (slot : Slot). digit (is_some slot.hold)) slots

none_held : (slots : List Slot) (line : ℕ) → holds slots ≡ 0 → is_held slots line ≡ false
none_held [] line none = refl
none_held (slot ∷ rest) line none = go slot.hold none (none_held rest line)
  where
    go : (o : Option ℕ) → digit (is_some o) + holds rest ≡ 0 → (holds rest ≡ 0 → is_held rest line ≡ false) → (passes (λ held. held == line) o || is_held rest line) ≡ false
    go None none next = next (omega (arith, none))
    go (Some held) none next = absurd (omega (arith, none))

no_copy_held : (slots : List Slot) (o : Option Copy) → holds slots ≡ 0 → passes (λ (copy : Copy). is_held slots copy.line) o ≡ false
no_copy_held slots None none = refl
no_copy_held slots (Some copy) none = none_held slots copy.line none

pub nothing_kept : (p : Processor) (line : ℕ) (said : Content) → holds p.slots ≡ 0 → true ≡ may_take p line said
nothing_kept p line (ForMemory said) none = refl
nothing_kept p line (ForCache INV) none = ap not (sym (none_held p.slots line none))
nothing_kept p line (ForCache BUSY) none = refl
nothing_kept p line (ForCache (RDATA body)) none = ap not (sym (no_copy_held p.slots (replaced p.sets p.cache line) none))
nothing_kept p line (ForCache (WDATA body)) none = ap not (sym (no_copy_held p.slots (replaced p.sets p.cache line) none))
