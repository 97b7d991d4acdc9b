-- One message more is out.
use Rattle.std.proofs.Common.{◌≤◌, arith}
use Rattle.alw_times.proofs.Walks.{out_more}
use Rattle.alw_times.proofs.leaving.send_all.Goals as goal

pub loop-i-preserved : goal.loop-i-preserved
loop-i-preserved c =
    let few : c.loop-i.i ≤ 256 = omega (arith, c.loop-i-test.true, c.loop-i.auto.i-end, c.len-i-end.ensures, c.free-few.ensures.left, c.free-few.ensures.most) in
    out_more c.args.image.now c.args.costs.now c.args.leave c.args.from.0 c.args.port c.args.arrivals.now.items c.args.sends.now.messages c.loop-i.i c.loop-i.free c.in_ok-free.free
    c.loop-i.arrivals.items c.send_one.new.arrivals.items (c.at.result.0.0, c.at.result.1) c.loop-i.invariant c.at.ensures few c.in_ok-free.ensures.sent c.in_ok-free.ensures.port
    c.in_ok-free.ensures.within
