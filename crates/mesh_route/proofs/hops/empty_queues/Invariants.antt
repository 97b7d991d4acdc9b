use Rattle.std.proofs.Common.{◌≡◌, ◌≤◌, [], replicate, vec_capacity}
use Rattle.mesh_route.proofs.hops.empty_queues.Given as goal

abbrev pub invariant-loop : goal.invariant-loop
invariant-loop l = (l.queues.items ≡ replicate l.counter []) × (l.count ≤ vec_capacity l.queues)
