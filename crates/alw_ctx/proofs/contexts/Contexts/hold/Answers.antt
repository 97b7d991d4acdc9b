-- One hold more, where the slot had none.
use Rattle.std.proofs.Common.{◌<◌, length, refl}
use Rattle.alw_ctx.specs.Residents.{slots_of}
use Rattle.alw_ctx.proofs.Holds.{hold_begins, hold_fits}
use Rattle.alw_ctx.proofs.contexts.Contexts.hold.Goals as goal

pub overflow_add-self : goal.overflow_add-self
overflow_add-self c = hold_fits _ _ _ _ c.holds.result c.self.invariant

pub invariant_of-self : goal.invariant_of-self
invariant_of-self c =
    let here : c.args.slot < length (slots_of c.self.inside.count c.self.inside.places) = rw (← c.self.view_is) at c.requires in
    hold_begins _ _ _ _ _ _ c.self.invariant here _ c.holds.result c.holds.ensures.count refl
