-- No slot so far, in the turn's order, is Ready.
use Rattle.std.proofs.Common.{◌≡◌, ℕ, ◌+◌, ◌%◌, ◌<◌, false}
use Rattle.alw_ctx.specs.Residents.{slots_of}
use Rattle.alw_ctx.proofs.Choices.{ready_at}
use Rattle.alw_ctx.proofs.contexts.Contexts.current.Given as goal

abbrev pub invariant-loop-k : goal.invariant-loop-k
invariant-loop-k l = (j : ℕ) → j < l.k → ready_at (slots_of l.self-inside.count l.self-inside.places) ((l.self-inside.current + j) % l.self-inside.count) ≡ false
