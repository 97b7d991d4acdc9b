use Rattle.std.proofs.Common.{◌≡◌, ◌+◌}
use Rattle.alw_cells.specs.Records.{StampsAreBelow}
use Rattle.alw_trials.proofs.merges.log_of.Given as goal

abbrev pub invariant-loop-entry : goal.invariant-loop-entry
invariant-loop-entry l = record {
  number : l.log.number ≡ l.node.0;
  last : StampsAreBelow (l.last + 1) l.log.entries;
}
