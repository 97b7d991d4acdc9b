-- All that was pushed stays, as what waits goes on.
use Rattle.std.proofs.Common.{◌≡◌, length}
use Rattle.crossbeam_queue.specs.Passes.{view, IsSamePass}
use Rattle.alw_ruled.specs.Order.{MaySend, all_of}
use Rattle.alw_ruled.proofs.links.put_late.Given as goal

abbrev pub invariant-loop-msg : goal.invariant-loop-msg
invariant-loop-msg g l = IsSamePass l.fn.pass l.pass × MaySend (view l.pass) × (all_of (view l.pass) l.late.items ≡ all_of (view l.fn.pass) l.fn.late.items)

abbrev pub decreases-loop-msg : goal.decreases-loop-msg
decreases-loop-msg g l = length l.late.items
