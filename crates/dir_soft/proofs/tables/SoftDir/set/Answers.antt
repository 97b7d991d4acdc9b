-- Where no line has a set, this one has none.
use Rattle.dir_soft.proofs.Pools.{none_used}
use Rattle.dir_soft.proofs.tables.SoftDir.set.Goals as goal

pub returns-then-self-eq0 : goal.returns-then-self-eq0
returns-then-self-eq0 c = rw (← c.self.view_is) (none_used _ _ _ _ _ c.self.invariant.0 c.args.line.0 _ c.if-self-eq0.true c.empty.ensures)
