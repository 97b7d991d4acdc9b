use Rattle.alw_runs.proofs.Formed.{told_summary}
use Rattle.alw_runs.proofs.forms.summarized.Goals as goal

pub returns : goal.returns
returns c =
    told_summary c.args.machine c.args.ended c.output_with.result c.tell_head.result c.in_ok-text.text c.output_with.ensures c.in_ok-text.ensures c.tell_head.ensures
