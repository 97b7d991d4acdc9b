-- What is left gives what the whole gives.
use Rattle.std.proofs.Common.{◌≡◌, drop}
use Rattle.alw_outcomes.specs.Digests.{weighed}
use Rattle.alw_outcomes.proofs.digests.weighed.Given as goal

abbrev pub invariant-loop-word : goal.invariant-loop-word
invariant-loop-word l = weighed l.digest l.factor (drop l.word-index l.words) ≡ weighed l.fn.digest 2654435761 l.words
