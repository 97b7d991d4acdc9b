-- The number that the pass holds goes to the back, where there is room.
use Rattle.alw_work.proofs.Fairness.{gives, has_room}
use Rattle.alw_work.proofs.ready.Ready.give.Goals as goal

pub push_as-requires-clause-rule : goal.push_as-requires-clause-rule
push_as-requires-clause-rule g c = rw (c.pass.invariant.1, c.in-Some.is) (gives g.I.Counting.nodes _ _ _, has_room g.I.Counting.nodes _ _)
