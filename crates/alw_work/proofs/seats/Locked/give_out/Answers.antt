-- The sender's ends stay tied when messages are given out.
use Rattle.std.proofs.Common.{List, sym, subst}
use Rattle.alw_ruled.specs.Ends.{LinkName}
use Rattle.alw_work.specs.Ties.{AreTiedOuts}
use Rattle.alw_work.proofs.Turning.{held_offer}
use Rattle.alw_work.proofs.seats.Locked.give_out.Goals as goal

pub offer-self-inside-requires : goal.offer-self-inside-requires
offer-self-inside-requires g c =
    let s = c.self.inside in
    subst (λ (ls : List LinkName). AreTiedOuts ls s.nodes s.number.0 s.cell s.outs.items) (sym c.requires) c.self.invariant.2

pub invariant_of-self : goal.invariant_of-self
invariant_of-self g c =
    let s = c.self.inside in
    let offer = c.offer-self-inside in
    let given = subst (λ (ls : List LinkName). AreTiedOuts ls s.nodes s.number.0 offer.new.cell offer.new.outs.items) c.requires offer.ensures.tied in
    held_offer g.I.Naming.image g.I.Naming.parameters g.I.Naming.links s.nodes s.number.0 s.cell offer.new.cell s.outs.items s.ins.items s.trapped
    offer.new.outs.items
    c.self.invariant offer.ensures.same given
