-- What is left to take gives what all give.
use Rattle.std.proofs.Common.{◌≡◌, length}
use Rattle.alw_model.specs.Threads.{merged}
use Rattle.alw_replay.specs.Replays.{taken_on}
use Rattle.alw_merge.proofs.replays.take_each.Given as goal

abbrev pub invariant-loop-entry : goal.invariant-loop-entry
invariant-loop-entry l = taken_on l.machine (merged l.entries) ≡ taken_on l.fn.machine (merged l.fn.entries)

abbrev pub decreases-loop-entry : goal.decreases-loop-entry
decreases-loop-entry l = length (merged l.entries)
