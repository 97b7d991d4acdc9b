-- The transactions of the nodes so far, at most one of each.
use Rattle.std.proofs.Common.{◌≡◌, ◌≤◌, length}
use Rattle.std.specs.List.{flat_map, range_with_len}
use Rattle.alw_mesh.specs.Histories.{state_of}
use Rattle.alw_laws.specs.Shown.{transactions_of}
use Rattle.alw_laws.proofs.showing.transactions.Given as goal

abbrev pub invariant-loop-n : goal.invariant-loop-n
invariant-loop-n l = record {
  gathered : l.transactions ≡ flat_map (transactions_of (state_of l.machine) l.line.0) (range_with_len 0 l.n);
  few : length l.transactions ≤ l.n;
}
