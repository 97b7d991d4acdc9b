-- The machine that workers leave is that of what was walked.
use Rattle.std.proofs.Common.{refl, ap, ◌∙◌}
use Rattle.std.proofs.lemmas.Result.{IfOk-weaker}
use Rattle.alw_mesh.specs.Histories.{joined_of}
use Rattle.alw_merge.proofs.Joining.{as_many, are_read}
use Rattle.alw_merge.proofs.joins.join_by.Goals as goal

pub walk_by-requires-clause-counted : goal.walk_by-requires-clause-counted
walk_by-requires-clause-counted g c = λ _ _. as_many c.args.image.now c.args.params.now c.args.worked c.requires

pub walk_by-requires-clause-read : goal.walk_by-requires-clause-read
walk_by-requires-clause-read g c = λ _ _. are_read c.args.image.now c.args.params.now c.args.worked c.requires

pub machine_of-requires : goal.machine_of-requires
machine_of-requires g c = (c.args.worked, c.requires, refl, c.in_ok-walked.ensures.journal, c.in_ok-walked.ensures.walked)

pub returns : goal.returns
returns g c = IfOk-weaker c.machine_of.result _ _ (λ machine is. is ∙ ap (joined_of c.args.image.now c.args.params.now) c.in_ok-walked.ensures.journal) c.machine_of.ensures
