use Rattle.std.proofs.Common.{◌≡◌}
use Rattle.alw_least.proofs.Standing.{none_stand, all_none}
use Rattle.alw_least.proofs.days.Days.none.Goals as goal

pub invariant_of-result : goal.invariant_of-result
invariant_of-result c = all_none 256 c.empty.result c.empty-2.result c.empty.ensures c.empty-2.ensures

pub returns : goal.returns
returns c = none_stand 256 c.empty.result c.empty.ensures
