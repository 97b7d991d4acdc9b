use Rattle.alw_due.proofs.Ascending.{all_ascend}
use Rattle.alw_due.proofs.laws.starts_never_decrease.Goals as goal

pub returns : goal.returns
returns c = all_ascend
