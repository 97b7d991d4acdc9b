use Rattle.alw_runs.proofs.Formed.{same_end}
use Rattle.alw_runs.proofs.forms.output_with.Goals as goal

pub returns : goal.returns
returns c =
    let parts = c.into_parts-journal.ensures in
    same_end c.args.machine c.args.ended _ c.ending_of.ensures _ parts.image _ parts.journal c.args.text
