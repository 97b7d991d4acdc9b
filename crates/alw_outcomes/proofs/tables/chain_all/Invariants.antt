-- The marks so far are on their chains.
use Rattle.alw_outcomes.proofs.Chaining.{ChainingIsUnderWay}
use Rattle.alw_outcomes.proofs.tables.chain_all.Given as goal

abbrev pub invariant-loop-at : goal.invariant-loop-at
invariant-loop-at l = ChainingIsUnderWay l.heads.items l.marks.items l.fn.marks.items l.at
