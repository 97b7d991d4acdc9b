use Rattle.std.proofs.Common.{◌≡◌, ℕ}
use Rattle.alw_least.specs.Leasts.{AreDated}
use Rattle.alw_least.proofs.leasts.date.Given as goal

-- the places so far stand on their days
abbrev pub invariant-loop-place : goal.invariant-loop-place
invariant-loop-place l = AreDated l.numbers l.first l.place l.days
