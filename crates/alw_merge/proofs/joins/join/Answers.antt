-- The machine that workers leave is that of what was walked.
use Rattle.std.proofs.Common.{refl, ap, ◌∙◌}
use Rattle.std.proofs.lemmas.Result.{IfOk-weaker}
use Rattle.alw_mesh.specs.Histories.{joined_of}
use Rattle.alw_merge.proofs.Joining.{as_many, are_read}
use Rattle.alw_merge.proofs.joins.join.Goals as goal

pub walk-requires-clause-counted : goal.walk-requires-clause-counted
walk-requires-clause-counted c = as_many c.args.image.now c.args.params.now c.args.worked c.requires

pub walk-requires-clause-read : goal.walk-requires-clause-read
walk-requires-clause-read c = are_read c.args.image.now c.args.params.now c.args.worked c.requires

pub machine_of-requires : goal.machine_of-requires
machine_of-requires c = (c.args.worked, c.requires, refl, c.in_ok-walked.ensures.journal, c.in_ok-walked.ensures.walked)

pub returns : goal.returns
returns c = IfOk-weaker c.machine_of.result _ _ (λ machine is. is ∙ ap (joined_of c.args.image.now c.args.params.now) c.in_ok-walked.ensures.journal) c.machine_of.ensures
