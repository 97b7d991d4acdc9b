-- No slot so far has opened a transaction on the line.
use Rattle.std.proofs.Common.{◌≡◌, ℕ, ◌<◌, false}
use Rattle.alw_num.specs.Maps.{passes}
use Rattle.alw_proc.specs.Openings.{is_of, opened_at}
use Rattle.alw_proc.proofs.openings.find.Given as goal

abbrev pub invariant-loop-slot : goal.invariant-loop-slot
invariant-loop-slot l = (k : ℕ) → k < l.slot → passes (is_of l.line.0) (opened_at l.slots k) ≡ false
