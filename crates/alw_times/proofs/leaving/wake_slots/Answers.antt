-- One slot more.
use Rattle.std.proofs.Common.{◌≡◌, ◌*◌, ℕ, sym, ap, ◌∙◌, arith}
use Rattle.alw_num.specs.Maps.{passes}
use Rattle.alw_times.specs.Times.{Waking, is_busy, woken_slot, woken_below}
use Rattle.alw_times.proofs.Walks.{woken_more}
use Rattle.alw_times.proofs.leaving.wake_slots.Goals as goal

pub loop-slot-preserved : goal.loop-slot-preserved
loop-slot-preserved c =
    let costs = c.args.costs.now in
    let refused = passes is_busy c.args.happened.now.taken in
    let flags = c.args.happened.now.woken in
    let first = c.args.node.0 * c.args.image.now.contexts in
    let before : Waking = record { state = c.args.draws.state; wakes = c.args.wakes.now.items } in (
      c.wake_slot-left.ensures.woken ∙ (ap (woken_slot costs refused flags first c.args.finish c.loop-slot.slot) c.loop-slot.invariant.0
          ∙ sym (woken_more costs refused flags first c.args.finish c.loop-slot.slot before)),
      λ most late all. c.wake_slot-left.ensures.within most late (c.loop-slot.invariant.1 most late all),
    )

pub returns-clause-woken : goal.returns-clause-woken
returns-clause-woken c =
    let at : c.loop-slot.slot ≡ c.args.image.now.contexts = omega (arith, c.loop-slot-test.false, c.loop-slot.auto.slot-end, c.contexts-slot-end.ensures.contexts) in
    let before : Waking = record { state = c.args.draws.state; wakes = c.args.wakes.now.items } in
    c.loop-slot.invariant.0
    ∙ ap (λ (k : ℕ). woken_below c.args.costs.now (passes is_busy c.args.happened.now.taken) c.args.happened.now.woken (c.args.node.0 * c.args.image.now.contexts) c.args.finish k before) at
