-- The cells so far are those of the numbers so far, and there is room for the rest.
use Rattle.std.proofs.Common.{◌≡◌, ◌≤◌, length, vec_capacity}
use Rattle.alw_work.specs.Seats.{EachAt, StandsAt, CellsAreAlone}
use Rattle.alw_work.proofs.cells.start_all.Given as goal

abbrev pub invariant-loop-n : goal.invariant-loop-n
invariant-loop-n l = record {
  count : length l.cells.items ≡ l.n;
  room : l.count ≤ vec_capacity l.cells;
  each : EachAt (StandsAt l.image l.params) l.cells.items;
  alone : CellsAreAlone l.cells.items;
}
