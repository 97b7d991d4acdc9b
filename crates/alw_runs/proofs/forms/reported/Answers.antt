use Rattle.alw_runs.proofs.Formed.{told_report}
use Rattle.alw_runs.proofs.forms.reported.Goals as goal

pub returns : goal.returns
returns c =
    told_report c.args.machine c.args.ended c.output_with.result c.in_ok-tell.field-0 c.in_ok-text.text c.output_with.ensures c.in_ok-text.ensures c.in_ok-tell.ensures
