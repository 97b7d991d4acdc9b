-- Both tests hold, or one doesn't.
use Rattle.std.proofs.Common.{true, false, refl, sym, ◌∙◌}
use Rattle.alw_laws.proofs.Totals.{meets_by}
use Rattle.alw_laws.proofs.views.LineView.meets.Goals as goal

pub returns-then-fits : goal.returns-then-fits
returns-then-fits c = meets_by c.args.nodes c.args.self.now true c.shows_each_once.result (sym c.if-fits.true ∙ c.fits.ensures) c.shows_each_once.ensures

pub returns-else-fits : goal.returns-else-fits
returns-else-fits c = rw c.if-fits.false (meets_by c.args.nodes c.args.self.now false _ (sym c.if-fits.false ∙ c.fits.ensures) refl)
