-- An empty queue keeps the rule, and is filled.
use Rattle.std.proofs.Common.{sym, ◌∙◌}
use Rattle.alw_work.proofs.Fairness.{begins, filled_is}
use Rattle.alw_work.proofs.ready.Ready.start.Goals as goal

pub ruled-requires-clause-rule : goal.ruled-requires-clause-rule
ruled-requires-clause-rule g c = begins g.I.Counting.nodes

pub returns : goal.returns
returns g c =
    let count = filled_is _ _ c.fill.ensures.filled in
    let queue = c.fill.ensures.queue.0 in
    λ x. record { queue = queue x; count = (count ∙ sym c.requires.counted) x }
