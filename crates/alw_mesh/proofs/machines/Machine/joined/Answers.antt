-- The parts of a joined machine are of its journal.
use Rattle.std.proofs.Common.{◌∙◌}
use Rattle.std.proofs.lemmas.Result.{IfOk-weaker}
use Rattle.alw_mesh.specs.Histories.{History, joined_of}
use Rattle.alw_mesh.specs.Keeping.{machine_of}
use Rattle.alw_mesh.proofs.Joined.{joined_aimed, run_joined, within_joined, told_joined, parts_joined}
use Rattle.alw_mesh.proofs.machines.Machine.joined.Goals as goal

pub joined-requires-clause-aimed : goal.joined-requires-clause-aimed
joined-requires-clause-aimed c = joined_aimed c.args.image.now c.args.params.now c.args.parts.journal c.requires.legal (machine_of c.args.parts.nodes c.args.parts.links.links) c.requires.state_is

pub trap_of-requires-clause-machine : goal.trap_of-requires-clause-machine
trap_of-requires-clause-machine c = c.in_ok-mesh.ensures.machine_is ∙ c.requires.state_is

pub of-tally-requires : goal.of-tally-requires
of-tally-requires c =
    let run = run_joined c.args.image.now c.args.params.now c.args.parts.journal c.nodes-exists.ensures.allowed c.limit-allowed.ensures.allowed c.requires.legal in
    within_joined c.args.image.now c.args.params.now c.args.parts.journal run c.args.parts.turns c.args.parts.prints c.args.parts.counts c.in_ok-trap.trap c.requires.turns_are c.requires.prints_are
    c.requires.counts_are c.in_ok-trap.ensures

pub of-requires : goal.of-requires
of-requires c =
    let run = run_joined c.args.image.now c.args.params.now c.args.parts.journal c.nodes-exists.ensures.allowed c.limit-allowed.ensures.allowed c.requires.legal in
    let told = told_joined c.args.image.now c.args.params.now c.args.parts.journal run c.args.parts.turns c.args.parts.prints c.args.parts.counts c.in_ok-trap.trap c.requires.turns_are c.requires.prints_are
    c.requires.counts_are c.in_ok-trap.ensures in
    parts_joined c.args.image.now c.args.params.now c.args.parts.journal (machine_of c.args.parts.nodes c.args.parts.links.links) c.in_ok-mesh.ensures run c.requires.state_is (c.of-tally.ensures ∙ told)

pub returns : goal.returns
returns c =
    IfOk-weaker c.of.result _ _ (λ (machine : History) is. is ∙ (λ i. joined_of (c.in_ok-mesh.ensures.image_is i) (c.in_ok-mesh.ensures.parameters_are i) c.args.parts.journal)) c.of.ensures
