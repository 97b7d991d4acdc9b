-- What is kept so far, and what is left to look at, give the whole.
use Rattle.std.proofs.Common.{◌≡◌, ◌≤◌, ◌++◌, drop, length}
use Rattle.law_order.specs.Orders.{kept_by}
use Rattle.alw_save.proofs.cuts.kept_by.Given as goal

abbrev pub invariant-loop-entry : goal.invariant-loop-entry
invariant-loop-entry l = record {
  all : l.kept ++ kept_by l.at (drop l.entry-index l.entries) ≡ kept_by l.at l.entries;
  few : length l.kept ≤ l.entry-index;
}
