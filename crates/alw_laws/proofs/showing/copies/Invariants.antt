-- The copies of the nodes so far, at most one of each.
use Rattle.std.proofs.Common.{◌≡◌, ◌≤◌, length}
use Rattle.std.specs.List.{flat_map, range_with_len}
use Rattle.alw_mesh.specs.Histories.{state_of}
use Rattle.alw_laws.specs.Shown.{copies_of}
use Rattle.alw_laws.proofs.showing.copies.Given as goal

abbrev pub invariant-loop-n : goal.invariant-loop-n
invariant-loop-n l = record {
  gathered : l.copies ≡ flat_map (copies_of l.machine.parameters (state_of l.machine) l.line.0) (range_with_len 0 l.n);
  few : length l.copies ≤ l.n;
}
