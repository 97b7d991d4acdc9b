-- The first Ready slot in the turn's order, or none.
use Rattle.std.proofs.Common.{◌≡◌, ◌+◌, ◌%◌, true, false, ap, sym, ◌∙◌, arith}
use borrow.Author.Count.{below_more}
use Rattle.alw_msg.specs.Statuses.{is_ready}
use Rattle.alw_model.specs.Contexts.{Slot}
use Rattle.alw_ctx.specs.Residents.{slots_of}
use Rattle.alw_ctx.proofs.Slots.{length_slots, slot_read}
use Rattle.alw_ctx.proofs.Choices.{ready_at, first_is, runs, runs_first, runs_none}
use Rattle.alw_ctx.proofs.contexts.Contexts.current.Goals as goal

pub returns-then-is_ready : goal.returns-then-is_ready
returns-then-is_ready c =
    let inside = c.self.inside in
    let size = length_slots inside.count inside.places (omega (arith, c.self.invariant.1, c.self.invariant.2)) in
    let ready : ready_at (slots_of inside.count inside.places) inside.current ≡ true = ap (λ (s : Slot). is_ready s.status) (slot_read inside.count inside.places inside.current _ c.self.invariant.0 (omega (arith, c.self.invariant.1, c.self.invariant.2))) ∙ sym c.if-is_ready.ensures in
    rw (← c.self.view_is) (runs_first (slots_of inside.count inside.places) inside.current inside.count size c.self.invariant.0 ready)

pub loop-k-init : goal.loop-k-init
loop-k-init c =
    let inside = c.self.inside in
    let ready : ready_at (slots_of inside.count inside.places) inside.current ≡ false = ap (λ (s : Slot). is_ready s.status) (slot_read inside.count inside.places inside.current _ c.self.invariant.0 (omega (arith, c.self.invariant.1, c.self.invariant.2))) ∙ sym c.if-is_ready.ensures in
    first_is (slots_of inside.count inside.places) inside.current inside.count false c.self.invariant.0 ready

pub returns-then-is_ready-2 : goal.returns-then-is_ready-2
returns-then-is_ready-2 c =
    let inside = c.self.inside in
    let size = length_slots inside.count inside.places (omega (arith, c.self.invariant.1, c.self.invariant.2)) in
    let ready : ready_at (slots_of inside.count inside.places) c.wrapped-slot.result ≡ true = ap (λ (s : Slot). is_ready s.status) (slot_read inside.count inside.places c.wrapped-slot.result _ (omega (arith, c.wrapped-slot.ensures, c.self.invariant.0)) (omega (arith, c.self.invariant.1, c.self.invariant.2))) ∙ sym c.if-is_ready-2.ensures in
    let here = ap (ready_at (slots_of inside.count inside.places)) (sym c.wrapped-slot.ensures) ∙ ready in
    rw (← c.self.view_is, c.wrapped-slot.ensures) (runs (slots_of inside.count inside.places) inside.current inside.count c.loop-k.k size c.loop-k-test.true c.loop-k.invariant here)

pub loop-k-preserved : goal.loop-k-preserved
loop-k-preserved c =
    let inside = c.self.inside in
    let ready : ready_at (slots_of inside.count inside.places) c.wrapped-slot.result ≡ false = ap (λ (s : Slot). is_ready s.status) (slot_read inside.count inside.places c.wrapped-slot.result _ (omega (arith, c.wrapped-slot.ensures, c.self.invariant.0)) (omega (arith, c.self.invariant.1, c.self.invariant.2))) ∙ sym c.if-is_ready-2.ensures in
    let here = ap (ready_at (slots_of inside.count inside.places)) (sym c.wrapped-slot.ensures) ∙ ready in
    below_more (λ j. ready_at (slots_of inside.count inside.places) ((inside.current + j) % inside.count) ≡ false) c.loop-k.k c.loop-k.invariant here

pub returns : goal.returns
returns c =
    let inside = c.self.inside in
    let size = length_slots inside.count inside.places (omega (arith, c.self.invariant.1, c.self.invariant.2)) in
    rw (← c.self.view_is) (runs_none (slots_of inside.count inside.places) inside.current inside.count size (λ j l. c.loop-k.invariant j (omega (arith, c.loop-k-test.false))))
