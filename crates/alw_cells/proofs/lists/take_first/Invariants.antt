use Rattle.std.proofs.Common.{◌≡◌}
use Rattle.alw_cells.proofs.Receivers.{NoneBefore}
use Rattle.alw_cells.proofs.lists.take_first.Given as goal

abbrev pub invariant-loop-at : goal.invariant-loop-at
invariant-loop-at l = record {
  same : l.pending ≡ l.fn.pending;
  none : NoneBefore l.to.0 l.fn.pending.items l.at;
}
