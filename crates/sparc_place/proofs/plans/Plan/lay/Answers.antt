use Rattle.sparc_place.proofs.Walks.{by_step}
use Rattle.sparc_place.proofs.plans.Plan.lay.Goals as goal

pub returns-in-Ok-take : goal.returns-in-Ok-take
returns-in-Ok-take c = by_step _ _ _ c.args.line.now c.in-Some.statement c.in-Ok.step c.args.number c.placed-place.result c.in-Some.is c.in-Ok.ensures c.in-Ok-define_label.ensures c.in-Ok-take.ensures c.placed-place.ensures
