use Rattle.std.proofs.Common.{ℕ, ◌<◌, length}
use Rattle.alw_cells.specs.Logs.{logged, Agrees}
use Rattle.alw_cells.proofs.agreement.links_agree.Given as goal

abbrev pub invariant-loop-to : goal.invariant-loop-to
invariant-loop-to l = (from k : ℕ) → from < length l.logs → k < l.to → Agrees (logged l.logs) from k
