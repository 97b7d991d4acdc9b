use Rattle.std.proofs.Common.{length}
use Rattle.alw_merge.specs.Streams.{left_of}
use Rattle.alw_merge.proofs.Skipping.{IsSkipping}
use Rattle.alw_merge.proofs.streams.skip_to.Given as goal

-- the events so far are below the stamp
abbrev pub invariant-loop-entry : goal.invariant-loop-entry
invariant-loop-entry l = IsSkipping l.stamp l.fn.reading.left l.reading l.entry

abbrev pub decreases-loop-entry : goal.decreases-loop-entry
decreases-loop-entry l = length (left_of l.reading)
