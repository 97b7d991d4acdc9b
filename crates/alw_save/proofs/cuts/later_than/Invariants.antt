-- What is kept so far, and what is left to look at, give the whole.
use Rattle.std.proofs.Common.{◌≡◌, ◌≤◌, ◌++◌, drop, length}
use Rattle.law_order.specs.Orders.{later_than}
use Rattle.alw_save.proofs.cuts.later_than.Given as goal

abbrev pub invariant-loop-entry : goal.invariant-loop-entry
invariant-loop-entry l = record {
  all : l.rest ++ later_than l.at (drop l.entry-index l.entries) ≡ later_than l.at l.entries;
  few : length l.rest ≤ l.entry-index;
}
