-- The entries so far were taken and told.
use Rattle.std.proofs.Common.{◌≡◌}
use Rattle.alw_mesh.proofs.Joined.{took}
use Rattle.alw_mesh.proofs.walks.tell_all.Given as goal

abbrev pub invariant-loop-entry : goal.invariant-loop-entry
invariant-loop-entry g l =
    let h = l.fn.second in
    (l.second ≡ took h.image h.parameters l.journal l.entry-index) × g.W.Watch.told l.fn.watch l.second l.watch
