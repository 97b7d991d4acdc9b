-- Holds stay.
use Rattle.std.proofs.Common.{sym, ap, ◌∙◌}
use Rattle.alw_ctx.specs.Residents.{slots_of, holds_of}
use Rattle.alw_ctx.proofs.Slots.{same_contexts}
use Rattle.alw_ctx.proofs.Holds.{wake_holds}
use Rattle.alw_ctx.proofs.contexts.Contexts.wake.Goals as goal

pub returns : goal.returns
returns c = rw (← c.self.view_is) (same_contexts _ _ _ c.wake.ensures.slots)

pub invariant_of-self : goal.invariant_of-self
invariant_of-self c =
    let inside = c.self.inside in
    let same = ap holds_of c.wake.ensures.slots ∙ wake_holds c.args.line.0 (slots_of inside.count inside.places) in
    (c.self.invariant.0, c.self.invariant.1, c.wake.ensures.places, c.self.invariant.3 ∙ sym same)
