-- What was found stays as it was.
use Rattle.std.proofs.Common.{◌≡◌}
use Rattle.alw_outcomes.specs.Explored.{found_in, IsStored}
use Rattle.alw_outcomes.proofs.explored.first_alone.Given as goal

abbrev pub invariant-loop-context : goal.invariant-loop-context
invariant-loop-context l = record {
  hint : l.found.classes.items ≡ l.fn.found.classes.items;
  memories : l.found.memories.items ≡ l.fn.found.memories.items;
  same : found_in l.found ≡ found_in l.fn.found;
  stored : IsStored l.image l.found;
}
