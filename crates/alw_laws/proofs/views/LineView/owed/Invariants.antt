-- The nodes that were passed are accounted for.
use Rattle.std.proofs.Common.{◌≡◌, ◌*◌, ◌^◌, ◌≤◌}
use Rattle.alw_num.specs.Weights.{sum_below}
use Rattle.alw_model.specs.LineInvariant.{owes}
use Rattle.alw_laws.specs.Views.{line_in}
use Rattle.alw_laws.proofs.views.LineView.owed.Given as goal

abbrev pub invariant-loop-number : goal.invariant-loop-number
invariant-loop-number l = (l.owed ≡ sum_below l.number (λ i. owes ((line_in l.self).node i))) × (l.owed ≤ l.number * 2 ^ 42)
