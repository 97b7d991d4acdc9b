-- The slot's place gets the transaction.
use Rattle.std.proofs.Common.{arith}
use Rattle.std.proofs.lemmas.List.{length-set}
use Rattle.alw_proc.proofs.OpeningMaps.{opens}
use Rattle.alw_proc.proofs.openings.Openings.open.Goals as goal

pub invariant_of-self : goal.invariant_of-self
invariant_of-self c =
    let line = rw (← c.self.view_is) at c.requires.line in
    let free = rw (← c.self.view_is) at c.requires.free in
    (rw length-set c.self.invariant.0, (opens c.self.inside.slots c.args.slot _ (omega (arith, c.self.invariant.0)) c.self.invariant.1 line free).single)

pub returns : goal.returns
returns c =
    let line = rw (← c.self.view_is) at c.requires.line in
    let free = rw (← c.self.view_is) at c.requires.free in
    rw (← c.self.view_is) ((opens c.self.inside.slots c.args.slot _ (omega (arith, c.self.invariant.0)) c.self.invariant.1 line free).map_is)
