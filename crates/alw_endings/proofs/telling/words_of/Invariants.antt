-- The words of the lines so far, at most four of each.
use Rattle.std.proofs.Common.{◌≡◌, ◌≤◌, ◌*◌, length}
use Rattle.std.specs.Prelude.{slice_index_or}
use Rattle.alw_image.specs.Images.{zero_line}
use Rattle.alw_model.specs.Counts.{listed_words}
use Rattle.alw_outcomes.specs.Explored.{place_in}
use Rattle.alw_endings.proofs.telling.words_of.Given as goal

abbrev pub invariant-loop-line : goal.invariant-loop-line
invariant-loop-line l = record {
  words : l.words ≡ listed_words (λ line. slice_index_or (place_in l.found l.at).flat.memory line zero_line) l.line;
  few : length l.words ≤ 4 * l.line;
}
