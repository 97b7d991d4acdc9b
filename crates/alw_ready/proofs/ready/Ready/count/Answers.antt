use Rattle.std.proofs.Common.{◌∙◌}
use Rattle.alw_ready.proofs.RowEvents.{total_is}
use Rattle.alw_ready.proofs.ready.Ready.count.Goals as goal

pub returns : goal.returns
returns c = c.total.ensures ∙ total_is c.self.inside.rows.items c.self.inside.tally c.self.invariant.0 c.args.self.now c.self.view_is
