-- What is written so far, and what is left to write, is the whole.
use Rattle.std.proofs.Common.{◌≡◌, ◌++◌, drop}
use Rattle.std.specs.List.{flat_map}
use Rattle.alw_save.specs.Lines.{spaced_word}
use Rattle.alw_save.proofs.contexts.put_words.Given as goal

abbrev pub invariant-loop-word : goal.invariant-loop-word
invariant-loop-word l = l.text ++ flat_map spaced_word (drop l.word-index l.words) ≡ l.fn.text ++ flat_map spaced_word l.words
