use Rattle.std.proofs.Common.{ℕ}
use Rattle.alw_least.proofs.Dating.{one_number}
use Rattle.alw_least.proofs.leasts.Leasts.all.Goals as goal

pub date-requires-clause-after : goal.date-requires-clause-after
date-requires-clause-after c = λ k within. one_number 256 c.args.number k within

pub invariant_of-result : goal.invariant_of-result
invariant_of-result c = record { none_before = λ k within. one_number 256 c.args.number k within; dated = c.date.ensures }
