use Rattle.std.proofs.Common.{◌≡◌, ◌≤◌, [], replicate, vec_capacity}
use Rattle.alw_waits.proofs.waits.no_requests.Given as goal

abbrev pub invariant-loop : goal.invariant-loop
invariant-loop l = (l.trapped.items ≡ replicate l.counter []) × (l.count ≤ vec_capacity l.trapped)
