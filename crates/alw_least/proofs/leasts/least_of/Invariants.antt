use Rattle.std.proofs.Common.{◌≡◌, ℕ, ◌<◌, ◌≤◌, slice_index}
use Rattle.alw_least.specs.Leasts.{IsLeastBelow}
use Rattle.alw_least.proofs.leasts.least_of.Given as goal

-- it is the least of those so far
abbrev pub invariant-loop-place : goal.invariant-loop-place
invariant-loop-place l = IsLeastBelow l.numbers l.place l.least
