-- No row from here on is the one that is looked for.
use Rattle.alw_outcomes.specs.Explored.{rows_in}
use Rattle.alw_outcomes.proofs.Indexing.{IsSought}
use Rattle.alw_outcomes.proofs.explored.find_row.Given as goal

abbrev pub invariant-loop-rest : goal.invariant-loop-rest
invariant-loop-rest l = IsSought (rows_in l.found) l.found.by_row l.digest (record { memory = l.memory; contexts = l.row }) l.rest

abbrev pub decreases-loop-rest : goal.decreases-loop-rest
decreases-loop-rest l = l.rest
