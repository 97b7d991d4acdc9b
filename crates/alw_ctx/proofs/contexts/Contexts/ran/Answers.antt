-- The slot's place changes.
use Rattle.std.proofs.Common.{length, ◌<◌, refl, rules, arith}
use Rattle.alw_ctx.specs.Residents.{slots_of}
use Rattle.alw_ctx.proofs.Slots.{length_slots, slots_set, same_contexts}
use Rattle.alw_ctx.proofs.Holds.{hold_counted, hold_ends}
use Rattle.alw_ctx.proofs.contexts.Contexts.ran.Goals as goal

pub returns : goal.returns
returns c =
    let inside = c.self.inside in
    let size = length_slots inside.count inside.places (omega (arith, c.self.invariant.1, c.self.invariant.2)) in
    let within : c.args.slot < length (slots_of inside.count inside.places) = rw (← c.self.view_is) at c.requires in
    rw (← c.self.view_is) (same_contexts _ _ _ (slots_set inside.count inside.places c.args.slot _ (omega arith)))

pub overflow_sub-self : goal.overflow_sub-self
overflow_sub-self c =
    let here : c.args.slot < length (slots_of c.self.inside.count c.self.inside.places) = rw (← c.self.view_is) at c.requires in
    hold_counted _ _ _ _ _ _ c.self.invariant here c.holds.result c.holds.ensures.count

pub invariant_of-self : goal.invariant_of-self
invariant_of-self c =
    let here : c.args.slot < length (slots_of c.self.inside.count c.self.inside.places) = rw (← c.self.view_is) at c.requires in
    hold_ends _ _ _ _ _ _ c.self.invariant here _ c.holds.result c.holds.ensures.count refl
