use Rattle.std.proofs.Common.{◌≡◌, ◌≤◌, length, vec_capacity}
use Rattle.alw_ready.specs.Rows.{AreDivisors}
use Rattle.alw_ready.proofs.ready.divisors.Given as goal

abbrev pub invariant-loop-count : goal.invariant-loop-count
invariant-loop-count l = AreDivisors l.divisors.items × (length l.divisors.items ≡ l.count) × (l.most ≤ vec_capacity l.divisors)
