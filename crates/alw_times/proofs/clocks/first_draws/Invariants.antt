-- The draws so far, and room for the rest.
use Rattle.std.proofs.Common.{◌≡◌, ◌≤◌, map, vec_capacity}
use Rattle.std.specs.List.{range_with_len}
use Rattle.alw_times.specs.Times.{first_draw}
use Rattle.alw_times.proofs.clocks.first_draws.Given as goal

abbrev pub invariant-loop-node : goal.invariant-loop-node
invariant-loop-node l = record {
  states : l.draws.items ≡ map (first_draw l.costs) (range_with_len 0 l.node);
  room : l.nodes ≤ vec_capacity l.draws;
}
