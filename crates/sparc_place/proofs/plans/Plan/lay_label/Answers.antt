use Rattle.std.proofs.Common.{sym}
use Rattle.sparc_place.proofs.Walks.{by_label}
use Rattle.sparc_place.proofs.plans.Plan.lay_label.Goals as goal

pub returns-in-Ok : goal.returns-in-Ok
returns-in-Ok c = by_label _ _ c.args.line.now c.args.number c.place-place.result c.requires (sym c.if-label_again.ensures) c.in-Ok.ensures c.place-place.ensures
