-- The events so far are timed, and their times are kept. No machine's journal has 2^32 entries.
use Rattle.std.proofs.Common.{◌-◌, length}
use Rattle.alw_due.specs.Bests.{AreBests}
use Rattle.alw_due.proofs.Timely.{FinishIsUnderWay}
use Rattle.alw_due.proofs.schedules.finish_by_time.Given as goal

abbrev pub invariant-loop-ended : goal.invariant-loop-ended
invariant-loop-ended l = FinishIsUnderWay l.fn.machine l.fn.keeper l.machine l.keeper × AreBests l.machine l.keeper.costs l.keeper.times.clocks l.bests

abbrev pub decreases-loop-ended : goal.decreases-loop-ended
decreases-loop-ended l = 4294967296 - length l.machine.journal
