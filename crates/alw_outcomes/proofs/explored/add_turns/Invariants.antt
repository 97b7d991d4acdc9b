-- What was found is still found, and what the contexts so far lead to.
use Rattle.std.proofs.Common.{◌≡◌, ℕ, ◌<◌, ◌≤◌, max, length}
use Rattle.alw_outcomes.specs.Explored.{found_in, GoesTo, HasTurn, IsStored}
use Rattle.alw_outcomes.proofs.explored.add_turns.Given as goal

abbrev pub invariant-loop-context : goal.invariant-loop-context
invariant-loop-context l = record {
  goes : GoesTo l.image (found_in l.fn.found) (found_in l.found);
  hint : l.found.classes.items ≡ l.fn.found.classes.items;
  stored : IsStored l.image l.found;
  few : length l.found.memories.items ≤ max l.most (length l.fn.found.memories.items);
  turns : (context : ℕ) → context < l.context → HasTurn l.image l.found.classes.items (found_in l.found) l.at context;
}
