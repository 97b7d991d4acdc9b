-- The ends are tied to the log, by the number of nodes that the type names.
use Rattle.std.proofs.Common.{subst}
use Rattle.alw_work.specs.Ties.{AreTiedOuts, AreTiedIns}
use Rattle.alw_work.proofs.seats.Locked.open.Goals as goal

pub returns-clause-outs : goal.returns-clause-outs
returns-clause-outs g c =
    let s = c.self.inside in
    subst (λ n. AreTiedOuts g.I.Naming.links n s.number.0 s.cell s.outs.items) c.self.invariant.0 c.self.invariant.2

pub returns-clause-ins : goal.returns-clause-ins
returns-clause-ins g c =
    let s = c.self.inside in
    subst (λ n. AreTiedIns g.I.Naming.links n s.number.0 s.cell s.ins.items) c.self.invariant.0 c.self.invariant.3
