-- What a joined machine keeps is of its journal.
use Rattle.std.proofs.Common.{◌∙◌, arith}
use Rattle.alw_mesh.proofs.OneNode.{few_nodes}
use Rattle.alw_mesh.proofs.Journals.{heads_fit_at}
use Rattle.alw_mesh.proofs.Joined.{machine_joins}
use Rattle.alw_mesh.proofs.machines.Machine.of.Goals as goal

pub blank-requires : goal.blank-requires
blank-requires c = omega (arith, few_nodes c.args.mesh.image c.requires.run.image, c.from-count.ensures, c.count.ensures)

pub renew_all-requires-clause-few : goal.renew_all-requires-clause-few
renew_all-requires-clause-few c = few_nodes c.args.mesh.image c.requires.run.image

pub renew_all-requires-clause-fit : goal.renew_all-requires-clause-fit
renew_all-requires-clause-fit c =
    let run = c.requires.run in
    heads_fit_at c.args.mesh.image run.image c.args.mesh.parameters run.parameters c.args.journal run.legal c.args.mesh.machine c.requires.state_is

pub invariant_of-result : goal.invariant_of-result
invariant_of-result c =
    machine_joins {grid = c.args.mesh} {sent = c.in_ok-sent.sent} {tally = c.args.tally} {ready = c.renew_all.new.self} c.args.journal c.len.result c.requires c.len.ensures
    (c.in_ok-sent.ensures.room ∙ (c.from-count.ensures ∙ c.count.ensures)) c.in_ok-sent.ensures.empty c.renew_all.ensures
