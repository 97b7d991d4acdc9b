-- What is left gives what the whole gives.
use Rattle.std.proofs.Common.{◌≡◌, drop}
use Rattle.alw_outcomes.specs.Digests.{mixed_all}
use Rattle.alw_outcomes.proofs.digests.mixed_all.Given as goal

abbrev pub invariant-loop-word : goal.invariant-loop-word
invariant-loop-word l = mixed_all l.digest (drop l.word-index l.words) ≡ mixed_all l.fn.digest l.words
