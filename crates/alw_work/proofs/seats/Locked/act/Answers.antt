-- The ends stay tied when the node steps.
use Rattle.alw_work.proofs.Turning.{held_step}
use Rattle.alw_work.proofs.seats.Locked.act.Goals as goal

pub invariant_of-self : goal.invariant_of-self
invariant_of-self g c =
    let s = c.self.inside in
    held_step g.I.Naming.image g.I.Naming.parameters g.I.Naming.links s.nodes s.number.0 s.cell c.step.new.cell s.outs.items s.ins.items s.trapped
    c.step.new.trapped
    c.self.invariant c.step.ensures.same c.step.ensures.marked c.step.ensures.works
