use Rattle.std.proofs.Common.{◌≡◌, ◌++◌, length}
use Rattle.alw_model.specs.Threads.{merged}
use Rattle.alw_cells.specs.Logs.{logged}
use Rattle.alw_merge.proofs.merges.merge.Given as goal

-- what was read, and what is left to be read, is all
abbrev pub invariant-loop-entry : goal.invariant-loop-entry
invariant-loop-entry l = l.journal ++ merged l.entries ≡ merged (logged l.logs)

abbrev pub decreases-loop-entry : goal.decreases-loop-entry
decreases-loop-entry l = length (merged l.entries)
