-- So many steps were taken.
use Rattle.std.proofs.Common.{◌≤◌, ◌-◌}
use Rattle.alw_work.specs.Turns.{ActsAlone}
use Rattle.alw_work.proofs.seats.Locked.run.Given as goal

abbrev pub invariant-loop-steps : goal.invariant-loop-steps
invariant-loop-steps g l = record { few : l.steps ≤ l.most; acts : ActsAlone l.steps l.fn.self l.self }

abbrev pub decreases-loop-steps : goal.decreases-loop-steps
decreases-loop-steps g l = l.most - l.steps
