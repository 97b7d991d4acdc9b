use Rattle.std.proofs.Common.{sym, ◌∙◌, arith}
use Rattle.alw_links.proofs.Places.{with_all_more}
use Rattle.alw_links.proofs.links.Links.send_all.Goals as goal

pub loop-i-preserved : goal.loop-i-preserved
loop-i-preserved c =
    let more = with_all_more c.loop-i.self.nodes c.loop-i.self.links c.args.from.0 c.args.sends.now.messages c.loop-i.i (c.at.result.0.0, c.at.result.1)
    (omega arith) c.at.ensures in
    rw c.send.ensures (record { nodes = c.loop-i.invariant.nodes; room = omega arith; links = sym more ∙ c.loop-i.invariant.links })
