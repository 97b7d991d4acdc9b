use Rattle.std.proofs.Common.{length, arith}
use Rattle.alw_ready.proofs.Renewing.{below_at, left_more}
use Rattle.alw_ready.proofs.ready.Ready.renew_sent.Goals as goal

pub look-requires-clause-here : goal.look-requires-clause-here
look-requires-clause-here g c = omega (arith, c.loop-i.invariant.counted, below_at (length c.args.self.now) c.args.sends.now.messages c.loop-i.i c.at.result.0.0 c.at.result.1 c.requires.below c.at.ensures)

pub loop-i-preserved : goal.loop-i-preserved
loop-i-preserved g c =
    let v = c.args.view.now in
    let below = below_at (length c.args.self.now) c.args.sends.now.messages c.loop-i.i c.at.result.0.0 c.at.result.1 c.requires.below c.at.ensures in
    left_more (g.V.View.image v) (g.V.View.parameters v) (g.V.View.state v) c.args.from.0 c.args.sends.now.messages c.args.self.now c.loop-i.self c.look.new.self c.loop-i.i c.at.result.0.0 c.at.result.1
    c.loop-i.invariant c.at.ensures (omega arith) c.look.ensures
