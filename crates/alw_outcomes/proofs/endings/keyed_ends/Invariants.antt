-- The places so far.
use Rattle.std.proofs.Common.{◌≡◌, take}
use Rattle.alw_outcomes.specs.Explored.{found_in}
use Rattle.alw_outcomes.specs.Keys.{end_key, numbers_of, AreKeyed}
use Rattle.alw_outcomes.proofs.endings.keyed_ends.Given as goal

abbrev pub invariant-loop-at : goal.invariant-loop-at
invariant-loop-at l = record {
  numbers : numbers_of l.keyed.items ≡ take l.at-index l.found.halted.items;
  keys : AreKeyed (end_key (found_in l.found)) l.keyed.items;
}
