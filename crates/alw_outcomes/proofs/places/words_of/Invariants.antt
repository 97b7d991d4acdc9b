-- What is left of the list, and the words that were read, last one first.
use Rattle.alw_outcomes.proofs.Spelling.{IsReadTo}
use Rattle.alw_outcomes.proofs.places.words_of.Given as goal

abbrev pub invariant-loop-rest : goal.invariant-loop-rest
invariant-loop-rest l = IsReadTo l.links l.list l.rest l.words.items

abbrev pub decreases-loop-rest : goal.decreases-loop-rest
decreases-loop-rest l = l.rest
