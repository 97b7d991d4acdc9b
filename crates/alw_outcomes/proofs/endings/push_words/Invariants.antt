-- The words so far.
use Rattle.std.proofs.Common.{◌≡◌, ◌++◌, suc, map, take}
use Rattle.alw_outcomes.proofs.endings.push_words.Given as goal

abbrev pub invariant-loop-word : goal.invariant-loop-word
invariant-loop-word l = l.key.items ≡ l.fn.key.items ++ map suc (take l.word-index l.words)
