-- What is written so far, and what is left to write, is the whole.
use Rattle.std.proofs.Common.{◌≡◌, ◌++◌, drop}
use Rattle.std.specs.List.{flat_map}
use Rattle.alw_report.specs.Reports.{word_line}
use Rattle.alw_report.proofs.lists.put_word_lines.Given as goal

abbrev pub invariant-loop-word : goal.invariant-loop-word
invariant-loop-word l = l.text ++ flat_map word_line (drop l.word-index l.words) ≡ l.fn.text ++ flat_map word_line l.words
