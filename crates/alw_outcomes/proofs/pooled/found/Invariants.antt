-- No member from here on is the one that is looked for.
use Rattle.alw_outcomes.proofs.Indexing.{IsSought}
use Rattle.alw_outcomes.proofs.pooled.found.Given as goal

abbrev pub invariant-loop-rest : goal.invariant-loop-rest
invariant-loop-rest g l = IsSought l.pool l.table l.digest l.member l.rest

abbrev pub decreases-loop-rest : goal.decreases-loop-rest
decreases-loop-rest g l = l.rest
