-- A machine that hasn't begun.
use Rattle.std.proofs.Common.{◌∙◌}
use Rattle.alw_mesh.proofs.Journals.{heads_fit_first, machine_begins}
use Rattle.alw_mesh.proofs.machines.Machine.begin.Goals as goal

pub renew_all-requires-clause-fit : goal.renew_all-requires-clause-fit
renew_all-requires-clause-fit c = heads_fit_first c.args.image.now c.args.params.now c.in_ok-mesh.ensures c.nodes.ensures.allowed c.limit-allowed.ensures.allowed

pub invariant_of-result : goal.invariant_of-result
invariant_of-result c =
    let count = c.from-nodes.ensures ∙ c.nodes.ensures.count in
    rw c.empty.ensures
    (machine_begins c.args.image.now c.args.params.now c.in_ok-mesh.ensures c.nodes.ensures.allowed c.limit-allowed.ensures.allowed (c.in_ok-sent.ensures.room ∙ count) c.in_ok-sent.ensures.empty c.start-2.ensures c.renew_all.ensures)
