-- By its definition.
use Rattle.std.proofs.Common.{refl}
use Rattle.alw_outcomes.specs.Digests.{mixed}
use Rattle.alw_outcomes.proofs.digests.mixed.Goals as goal

pub returns : goal.returns
unfolding mixed
returns c = refl
