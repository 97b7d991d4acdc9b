-- One node more.
use Rattle.std.proofs.Common.{arith}
use Rattle.alw_due.proofs.Renewed.{one_renewed}
use Rattle.alw_due.proofs.renewing.renew_all.Goals as goal

pub loop-n-preserved : goal.loop-n-preserved
loop-n-preserved c =
    one_renewed c.args.machine.now c.args.costs.now c.args.clocks.now c.loop-n.n c.loop-n.bests c.renew.new.bests (omega (arith, c.loop-n-test.true, c.nodes-n-end.ensures.nodes))
    c.loop-n.invariant c.renew.ensures
