-- No context has trapped, so that no turn was a trapping one.
use Rattle.std.proofs.Common.{sym, ap, ◌∙◌}
use Rattle.alw_model.specs.Machine.{any_trapped}
use Rattle.alw_mesh.proofs.Trapped.{none_trapped}
use Rattle.alw_mesh.proofs.joins.trap_of.Goals as goal

pub returns-else-any_trapped : goal.returns-else-any_trapped
returns-else-any_trapped c =
    none_trapped c.args.image.now c.args.params.now c.args.journal.now c.requires.legal (ap any_trapped (sym c.requires.machine) ∙ (sym c.any_trapped.ensures ∙ c.if-any_trapped.false))
