-- So many places have been gone on from.
use Rattle.std.proofs.Common.{◌≡◌, ◌≤◌, max, length}
use Rattle.alw_outcomes.specs.Explored.{found_in, IsStored}
use Rattle.alw_outcomes.proofs.Steps.{IsExploredTo}
use Rattle.alw_outcomes.proofs.explored.expand_all.Given as goal

abbrev pub invariant-loop-next : goal.invariant-loop-next
invariant-loop-next l = record {
  explored : IsExploredTo l.image l.found.classes.items (found_in l.found) l.next;
  hint : l.found.classes.items ≡ l.fn.found.classes.items;
  stored : IsStored l.image l.found;
  few : length l.found.memories.items ≤ max l.most (length l.fn.found.memories.items);
}
