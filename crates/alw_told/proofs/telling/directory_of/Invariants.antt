-- The listed entries of the lines so far, at most one of each.
use Rattle.std.proofs.Common.{◌≡◌, ◌≤◌, length}
use Rattle.alw_told.specs.Lines.{entries_below}
use Rattle.alw_told.proofs.telling.directory_of.Given as goal

abbrev pub invariant-loop-line : goal.invariant-loop-line
invariant-loop-line l = record { lines : l.lines ≡ entries_below l.machine l.line; few : length l.lines ≤ l.line }
