-- The words of the lines so far, at most four of each.
use Rattle.std.proofs.Common.{◌≡◌, ◌≤◌, ◌*◌, length}
use Rattle.alw_told.specs.Lines.{words_below}
use Rattle.alw_told.proofs.telling.memory_of.Given as goal

abbrev pub invariant-loop-line : goal.invariant-loop-line
invariant-loop-line l = record { words : l.words ≡ words_below l.machine l.line; few : length l.words ≤ 4 * l.line }
