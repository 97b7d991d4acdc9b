-- The context stands behind the list so many times.
use Rattle.std.proofs.Common.{◌≡◌, ◌++◌, replicate}
use Rattle.alw_outcomes.proofs.explored.push_times.Given as goal

abbrev pub invariant-loop : goal.invariant-loop
invariant-loop l = l.turns.items ≡ l.fn.turns.items ++ replicate l.counter l.context
