-- Messages have come, and the ends are tied to the log.
use Rattle.alw_work.specs.Ties.{IsSameButCome, AreTiedIns}
use Rattle.alw_work.proofs.moves.fetch.Given as goal

abbrev pub invariant-loop : goal.invariant-loop
invariant-loop g l = record { same : IsSameButCome l.fn.cell l.cell; tied : AreTiedIns l.links l.nodes l.number.0 l.cell l.ins.items }
