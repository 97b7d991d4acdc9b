use Rattle.alw_runs.proofs.Formed.{told_trace}
use Rattle.alw_runs.proofs.forms.traced.Goals as goal

pub returns : goal.returns
returns c =
    let parts = c.into_parts-image.ensures in
    told_trace c.args.machine c.args.ended _ c.ending_of.ensures _ parts.image _ parts.journal _ _ parts.parameters c.in_ok-text.ensures
