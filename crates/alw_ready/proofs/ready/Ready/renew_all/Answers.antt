use Rattle.std.proofs.Common.{arith}
use Rattle.alw_ready.proofs.Renewing.{fit_more}
use Rattle.alw_ready.proofs.ready.Ready.renew_all.Goals as goal

pub loop-at-preserved : goal.loop-at-preserved
loop-at-preserved g c =
    let v = c.args.view.now in
    rw c.set.ensures (fit_more (g.V.View.image v) (g.V.View.parameters v) (g.V.View.state v) c.loop-at.at c.loop-at.self c.row_of.result c.loop-at.invariant (omega arith) c.row_of.ensures)
