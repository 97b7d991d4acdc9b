-- A slot has a hold on the line, or none has.
use Rattle.std.proofs.Common.{◌≡◌, false, ap, sym, ◌∙◌, arith}
use borrow.Author.Count.{below_more}
use Rattle.alw_model.specs.Contexts.{slot_at}
use Rattle.alw_ctx.specs.Residents.{slots_of}
use Rattle.alw_ctx.proofs.Slots.{length_slots, slot_read}
use Rattle.alw_ctx.proofs.Choices.{holds_on, held_by, held_by_none}
use Rattle.alw_ctx.proofs.contexts.Contexts.is_held.Goals as goal

pub returns-then-holds_on : goal.returns-then-holds_on
returns-then-holds_on c =
    let inside = c.self.inside in
    let size = length_slots inside.count inside.places (omega (arith, c.self.invariant.1, c.self.invariant.2)) in
    let here = ap (holds_on c.args.line.0) (slot_read inside.count inside.places c.loop-slot.slot _ c.loop-slot-test.true (omega (arith, c.self.invariant.1, c.self.invariant.2))) ∙ sym c.if-holds_on.ensures in
    rw (← c.self.view_is) (held_by (slots_of inside.count inside.places) c.args.line.0 c.loop-slot.slot (omega (arith, c.loop-slot-test.true)) here)

pub loop-slot-preserved : goal.loop-slot-preserved
loop-slot-preserved c =
    let inside = c.self.inside in
    let here = ap (holds_on c.args.line.0) (slot_read inside.count inside.places c.loop-slot.slot _ c.loop-slot-test.true (omega (arith, c.self.invariant.1, c.self.invariant.2))) ∙ sym c.if-holds_on.ensures in
    below_more (λ i. holds_on c.args.line.0 (slot_at (slots_of inside.count inside.places) i) ≡ false) c.loop-slot.slot c.loop-slot.invariant here

pub returns : goal.returns
returns c =
    let inside = c.self.inside in
    let size = length_slots inside.count inside.places (omega (arith, c.self.invariant.1, c.self.invariant.2)) in
    rw (← c.self.view_is) (held_by_none (slots_of inside.count inside.places) c.args.line.0 inside.count size (λ i l. c.loop-slot.invariant i (omega (arith, c.loop-slot-test.false))))
