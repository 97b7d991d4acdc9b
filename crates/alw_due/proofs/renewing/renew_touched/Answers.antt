-- Its own node, and one more that it sent to.
use Rattle.std.proofs.Common.{arith}
use Rattle.alw_image.specs.Images.{node_count}
use Rattle.alw_mesh.specs.Histories.{last_sends}
use Rattle.alw_due.proofs.Renewed.{below_at, own_renewed, send_compared, sends_compared}
use Rattle.alw_due.proofs.renewing.renew_touched.Goals as goal

pub loop-i-init : goal.loop-i-init
loop-i-init c =
    let h = c.args.machine.now in
    rw c.last_sent-sent.ensures
    (own_renewed h c.args.costs.now c.args.clocks.now c.args.node.0 (last_sends h) c.args.bests.now c.renew.new.bests c.requires.here c.requires.but c.renew.ensures)

pub renew_sent-requires-clause-to : goal.renew_sent-requires-clause-to
renew_sent-requires-clause-to c =
    below_at (node_count c.args.machine.now.image) c.last_sent-sent.result.now.messages c.loop-i.i (c.at.result.0.0, c.at.result.1) (rw c.last_sent-sent.ensures c.requires.sends) c.at.ensures

pub loop-i-preserved : goal.loop-i-preserved
loop-i-preserved c =
    send_compared c.args.machine.now c.args.costs.now c.args.clocks.now c.args.node.0 c.last_sent-sent.result.now.messages c.loop-i.i (c.at.result.0.0, c.at.result.1)
    c.loop-i.bests c.renew_sent.new.bests
    (below_at (node_count c.args.machine.now.image) c.last_sent-sent.result.now.messages c.loop-i.i (c.at.result.0.0, c.at.result.1) (rw c.last_sent-sent.ensures c.requires.sends) c.at.ensures)
    c.loop-i.invariant c.at.ensures c.renew_sent.ensures

pub returns : goal.returns
returns c =
    sends_compared c.args.machine.now c.args.costs.now c.args.clocks.now c.args.node.0 c.last_sent-sent.result.now.messages c.loop-i.i c.loop-i.bests
    (omega (arith, c.loop-i-test.false, c.len-i-end.ensures)) c.loop-i.invariant
