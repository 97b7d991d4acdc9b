-- One slot more.
use Rattle.std.proofs.Common.{◌≤◌, ◌<◌, length, refl, ◌∙◌, arith}
use Rattle.alw_mesh.proofs.Remains.{live_more, trapped_more, live_all, trapped_all, one_remains}
use Rattle.alw_mesh.proofs.joining.remains_in.Goals as goal

pub loop-slot-init : goal.loop-slot-init
loop-slot-init c = record { live = refl; trapped = refl; few_live = omega arith; few_trapped = omega arith }

pub loop-slot-preserved : goal.loop-slot-preserved
loop-slot-preserved c =
    let here : c.loop-slot.slot < length c.args.node.now.state.slots = omega (arith, c.loop-slot-test.true, c.count-slot-end.ensures.count) in
    record {
      live = live_more c.args.node.now.state c.loop-slot.slot c.status-status.result c.loop-slot.live c.live_by-live.result here c.status-status.ensures c.loop-slot.invariant.live c.live_by-live.ensures.one;
      trapped = trapped_more c.args.node.now.state c.loop-slot.slot c.status-status.result c.loop-slot.trapped c.trapped_by-trapped.result here c.status-status.ensures c.loop-slot.invariant.trapped c.trapped_by-trapped.ensures.one;
      few_live = omega (arith, c.loop-slot.invariant.few_live, c.live_by-live.ensures.most);
      few_trapped = omega (arith, c.loop-slot.invariant.few_trapped, c.trapped_by-trapped.ensures.most);
    }

pub overflow_add-live : goal.overflow_add-live
overflow_add-live c = omega (arith, c.loop-slot.invariant.few_live, c.live_by-live.ensures.most, c.loop-slot-test.true, c.count-slot-end.ensures.most)

pub overflow_add-trapped : goal.overflow_add-trapped
overflow_add-trapped c = omega (arith, c.loop-slot.invariant.few_trapped, c.trapped_by-trapped.ensures.most, c.loop-slot-test.true, c.count-slot-end.ensures.most)

pub returns-clause-remains : goal.returns-clause-remains
returns-clause-remains c =
    let past : length c.args.node.now.state.slots ≤ c.loop-slot.slot = omega (arith, c.loop-slot-test.false, c.count-slot-end.ensures.count) in
    one_remains c.args.node.now.state c.loop-slot.live c.loop-slot.trapped c.packets.result (c.loop-slot.invariant.live ∙ live_all c.args.node.now.state c.loop-slot.slot past)
    (c.loop-slot.invariant.trapped ∙ trapped_all c.args.node.now.state c.loop-slot.slot past) c.packets.ensures.count

pub returns-clause-live : goal.returns-clause-live
returns-clause-live c = omega (arith, c.loop-slot.invariant.few_live, c.loop-slot.auto.slot-end, c.count-slot-end.ensures.most)

pub returns-clause-trapped : goal.returns-clause-trapped
returns-clause-trapped c = omega (arith, c.loop-slot.invariant.few_trapped, c.loop-slot.auto.slot-end, c.count-slot-end.ensures.most)
