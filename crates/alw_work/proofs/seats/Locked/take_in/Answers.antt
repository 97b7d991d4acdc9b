-- The receiver's ends stay tied when messages come.
use Rattle.std.proofs.Common.{List, sym, subst}
use Rattle.alw_ruled.specs.Ends.{LinkName}
use Rattle.alw_work.specs.Ties.{AreTiedIns}
use Rattle.alw_work.proofs.Turning.{held_fetch}
use Rattle.alw_work.proofs.seats.Locked.take_in.Goals as goal

pub fetch-requires-clause-tied : goal.fetch-requires-clause-tied
fetch-requires-clause-tied g c =
    let s = c.self.inside in
    subst (λ (ls : List LinkName). AreTiedIns ls s.nodes s.number.0 s.cell s.ins.items) (sym c.requires) c.self.invariant.3

pub invariant_of-self : goal.invariant_of-self
invariant_of-self g c =
    let s = c.self.inside in
    let come = subst (λ (ls : List LinkName). AreTiedIns ls s.nodes s.number.0 c.fetch.new.cell c.fetch.new.ins.items) c.requires c.fetch.ensures.tied in
    held_fetch g.I.Naming.image g.I.Naming.parameters g.I.Naming.links s.nodes s.number.0 s.cell c.fetch.new.cell s.outs.items s.ins.items s.trapped
    c.fetch.new.ins.items
    c.self.invariant c.fetch.ensures.same come
