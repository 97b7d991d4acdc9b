-- A slot hasn't halted, or all have.
use Rattle.std.proofs.Common.{ap, sym, ◌∙◌, arith}
use Rattle.alw_ctx.specs.Residents.{slots_of}
use Rattle.alw_ctx.proofs.Slots.{length_slots, slot_read}
use Rattle.alw_ctx.proofs.Choices.{halted_in, live_by, halted_more, halted_by}
use Rattle.alw_ctx.proofs.contexts.Contexts.have_halted.Goals as goal

pub returns-then-not-has_halted : goal.returns-then-not-has_halted
returns-then-not-has_halted c =
    let inside = c.self.inside in
    let size = length_slots inside.count inside.places (omega (arith, c.self.invariant.1, c.self.invariant.2)) in
    let here = ap halted_in (slot_read inside.count inside.places c.loop-slot.slot _ c.loop-slot-test.true (omega (arith, c.self.invariant.1, c.self.invariant.2))) ∙ sym c.if-not-has_halted.ensures in
    rw (← c.self.view_is) (live_by (slots_of inside.count inside.places) c.loop-slot.slot (omega (arith, c.loop-slot-test.true)) here)

pub loop-slot-preserved : goal.loop-slot-preserved
loop-slot-preserved c =
    let inside = c.self.inside in
    let size = length_slots inside.count inside.places (omega (arith, c.self.invariant.1, c.self.invariant.2)) in
    let here = ap halted_in (slot_read inside.count inside.places c.loop-slot.slot _ c.loop-slot-test.true (omega (arith, c.self.invariant.1, c.self.invariant.2))) ∙ sym c.if-not-has_halted.ensures in
    halted_more (slots_of inside.count inside.places) c.loop-slot.slot (omega (arith, c.loop-slot-test.true)) c.loop-slot.invariant here

pub returns : goal.returns
returns c =
    let inside = c.self.inside in
    let size = length_slots inside.count inside.places (omega (arith, c.self.invariant.1, c.self.invariant.2)) in
    rw (← c.self.view_is) (halted_by (slots_of inside.count inside.places) c.loop-slot.slot (omega (arith, c.loop-slot-test.false)) c.loop-slot.invariant)
