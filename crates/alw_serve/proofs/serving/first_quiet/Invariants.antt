-- The first among the events from this one on is the first of all.
use Rattle.std.proofs.Common.{◌≡◌, drop, find}
use Rattle.law_turns.specs.Orders.{is_quiet}
use Rattle.alw_mesh.specs.Ends.{next_events}
use Rattle.alw_serve.proofs.serving.first_quiet.Given as goal

abbrev pub invariant-loop-k : goal.invariant-loop-k
invariant-loop-k l = find is_quiet (next_events l.fn.machine) ≡ find is_quiet (drop l.k (next_events l.fn.machine))
