use Rattle.alw_ready.proofs.RowEvents.{set_counted}
use Rattle.alw_ready.proofs.ready.Ready.set.Goals as goal

pub invariant_of-self : goal.invariant_of-self
invariant_of-self c = (set_counted c.self.inside.rows.items c.self.inside.tally c.self.invariant.0 c.from-place.result c.count.result c.args.row c.set.new.self c.set.ensures c.count.ensures, c.self.invariant.1)
