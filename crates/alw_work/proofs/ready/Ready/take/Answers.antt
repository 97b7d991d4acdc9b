-- The number at the front goes to a pass that holds none.
use Rattle.std.proofs.Common.{ap, ◌∙◌}
use Rattle.alw_work.proofs.Fairness.{takes}
use Rattle.alw_work.proofs.ready.Ready.take.Goals as goal

pub pop_as-requires-clause-rule : goal.pop_as-requires-clause-rule
pop_as-requires-clause-rule g c =
    let nodes = g.I.Counting.nodes in
    let empty = ap (λ holder. holder.node) c.pass.view_is ∙ c.requires.empty in
    (rw (c.pass.invariant.1, empty) (takes nodes _), λ _ _ _ _. tt)
