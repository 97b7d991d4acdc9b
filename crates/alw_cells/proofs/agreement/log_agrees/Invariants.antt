use Rattle.std.proofs.Common.{ℕ, ◌<◌}
use Rattle.alw_cells.specs.Logs.{logged, Agrees}
use Rattle.alw_cells.proofs.agreement.log_agrees.Given as goal

abbrev pub invariant-loop-from : goal.invariant-loop-from
invariant-loop-from l = (k : ℕ) → k < l.from → Agrees (logged l.logs) k l.to
