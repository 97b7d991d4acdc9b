-- The messages so far are counted.
use Rattle.alw_tally.proofs.Sent.{CountIsUnderWay}
use Rattle.alw_tally.proofs.counting.count_messages.Given as goal

abbrev pub invariant-loop-i : goal.invariant-loop-i
invariant-loop-i l = CountIsUnderWay l.image l.from.0 l.sends l.fn.counts l.i l.counts
