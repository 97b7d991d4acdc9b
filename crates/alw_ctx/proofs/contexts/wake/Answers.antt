-- One context more.
use Rattle.std.proofs.Common.{◌≡◌, arith}
use Rattle.alw_ctx.proofs.Slots.{woken_more, all_woken}
use Rattle.alw_ctx.proofs.contexts.wake.Goals as goal

pub loop-slot-preserved : goal.loop-slot-preserved
loop-slot-preserved c =
    woken_more c.args.line.0 c.loop-slot.slot c.args.count c.args.places.now c.loop-slot.places _ c.wake.new.self c.loop-slot.invariant (omega arith) c.requires.count c.wake.ensures

pub returns-clause-slots : goal.returns-clause-slots
returns-clause-slots c =
    let end : c.loop-slot.slot ≡ c.args.count = omega arith in
    all_woken c.args.line.0 c.args.count c.args.places.now c.loop-slot.places (rw end at c.loop-slot.invariant) c.requires.count
