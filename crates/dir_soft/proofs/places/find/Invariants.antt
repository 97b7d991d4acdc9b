-- What is behind the walk isn't the line's, and each step leaves one place less.
use Rattle.std.proofs.Common.{ℕ, List}
use Rattle.dir_soft.specs.Chains.{IsPath}
use Rattle.dir_soft.proofs.Walks.{IsWalk, left_from}
use Rattle.dir_soft.proofs.places.find.Given as goal

abbrev pub invariant-loop-at : goal.invariant-loop-at
invariant-loop-at l = (chain : List ℕ) → IsPath l.places l.first chain → IsWalk l.places l.line l.before l.at chain

abbrev pub decreases-loop-at : goal.decreases-loop-at
decreases-loop-at l = left_from l.places l.at
