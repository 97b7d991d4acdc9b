-- The slots so far that are woken have ended their misses.
use Rattle.std.proofs.Common.{◌≡◌}
use Rattle.alw_waits.specs.Waits.{ended_below}
use Rattle.alw_waits.proofs.waits.Waits.end_woken.Given as goal

abbrev pub invariant-loop-slot : goal.invariant-loop-slot
invariant-loop-slot l = l.self ≡ ended_below l.image l.woken l.node.0 l.ended l.finish l.slot l.fn.self
