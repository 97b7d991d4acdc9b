use Rattle.std.proofs.Common.{refl}
use Rattle.alw_runs.proofs.Formed.{told_claim}
use Rattle.alw_runs.proofs.forms.claimed.Goals as goal

pub returns : goal.returns
returns c =
    let parts = c.into_parts-image.ensures in
    told_claim c.args.machine c.args.ended _ c.ending_of.ensures _ parts.image _ parts.journal _ _ refl parts.turns parts.prints
    c.in_ok-memory.ensures c.in_ok-text.ensures
