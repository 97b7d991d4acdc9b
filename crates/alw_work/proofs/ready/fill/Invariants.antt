-- The first pass has put in the numbers below this one.
use Rattle.std.proofs.Common.{◌≡◌}
use Rattle.crossbeam_queue.specs.Passes.{view, IsPassOf}
use Rattle.alw_work.specs.Ready.{HasFilled}
use Rattle.alw_work.proofs.ready.fill.Given as goal

abbrev pub invariant-loop-number : goal.invariant-loop-number
invariant-loop-number g l = IsPassOf l.queue l.filler × (l.filler.id ≡ 0) × HasFilled l.number (view l.filler)
