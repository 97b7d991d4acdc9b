-- The next node's carriers stand behind the others.
use Rattle.std.proofs.Common.{ap, sym, ◌∙◌}
use Rattle.alw_laws.specs.Traffic.{carried_by}
use Rattle.alw_laws.specs.Views.{line_in}
use Rattle.alw_laws.proofs.Totals.{carriers_more}
use Rattle.alw_laws.proofs.views.LineView.carriers.Goals as goal

pub loop-number-preserved : goal.loop-number-preserved
loop-number-preserved c =
    let more = c.and-all.ensures _ _ c.loop-number.invariant (rw c.of.ensures at c.carried.ensures) in
    more ∙ ap carried_by (sym (carriers_more c.loop-number.number (line_in c.args.self.now)))
