-- What is put so far, and what is left to put, is the whole.
use Rattle.std.proofs.Common.{◌≡◌, ◌++◌, drop, map}
use Rattle.alw_endings.proofs.telling.put_words.Given as goal

abbrev pub invariant-loop-word : goal.invariant-loop-word
invariant-loop-word l = l.prints ++ map (λ word. (l.context, word)) (drop l.word-index l.words) ≡ l.fn.prints ++ map (λ word. (l.context, word)) l.words
