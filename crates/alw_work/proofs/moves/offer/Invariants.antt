-- Messages were given out, and the ends are tied to the log.
use Rattle.alw_work.specs.Ties.{IsSameButGiven, AreTiedOuts}
use Rattle.alw_work.proofs.moves.offer.Given as goal

abbrev pub invariant-loop : goal.invariant-loop
invariant-loop g l = record { same : IsSameButGiven l.fn.cell l.cell; tied : AreTiedOuts l.links l.nodes l.number.0 l.cell l.outs.items }
