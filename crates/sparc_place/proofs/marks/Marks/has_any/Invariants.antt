use Rattle.std.proofs.Common.{◌≡◌, ◌+◌, false}
use Rattle.sparc_place.specs.Marks.{is_marked, any_below}
use Rattle.sparc_place.proofs.marks.Marks.has_any.Given as goal

abbrev pub invariant-loop-i : goal.invariant-loop-i
invariant-loop-i l = any_below l.i (λ i. is_marked l.self (l.from + i)) ≡ false
