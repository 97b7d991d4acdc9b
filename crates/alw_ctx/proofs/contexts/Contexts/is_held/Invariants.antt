-- No slot so far has a hold on the line.
use Rattle.std.proofs.Common.{◌≡◌, ℕ, ◌<◌, false}
use Rattle.alw_model.specs.Contexts.{slot_at}
use Rattle.alw_ctx.specs.Residents.{slots_of}
use Rattle.alw_ctx.proofs.Choices.{holds_on}
use Rattle.alw_ctx.proofs.contexts.Contexts.is_held.Given as goal

abbrev pub invariant-loop-slot : goal.invariant-loop-slot
invariant-loop-slot l = (i : ℕ) → i < l.slot → holds_on l.line.0 (slot_at (slots_of l.self-inside.count l.self-inside.places) i) ≡ false
