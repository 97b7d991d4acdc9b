-- The half below or above has the one.
use Rattle.alw_num.proofs.Ranks.{goes_low, goes_high}
use Rattle.alw_num.proofs.node_sets.Part.half.Goals as goal

pub returns-then-self-ones-clause-part : goal.returns-then-self-ones-clause-part
returns-then-self-ones-clause-part c = λ word k part. goes_low word k _ _ _ _ part c.if-self-ones.true

pub returns-else-self-ones-clause-part : goal.returns-else-self-ones-clause-part
returns-else-self-ones-clause-part c = λ word k part. goes_high word k _ _ _ _ part c.if-self-ones.false
