-- The nodes that were passed are accounted for.
use Rattle.std.proofs.Common.{◌≡◌}
use Rattle.alw_model.specs.Lines.{carriers}
use Rattle.alw_laws.specs.Traffic.{carried_by}
use Rattle.alw_laws.specs.Views.{line_in}
use Rattle.alw_laws.proofs.views.LineView.carriers.Given as goal

abbrev pub invariant-loop-number : goal.invariant-loop-number
invariant-loop-number l = l.all ≡ carried_by (carriers l.number (line_in l.self))
