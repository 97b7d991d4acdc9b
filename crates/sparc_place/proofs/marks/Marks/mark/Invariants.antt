use Rattle.std.proofs.Common.{◌≡◌, ◌≤◌, ℕ, length, max}
use Rattle.sparc_place.specs.Marks.{is_marked}
use Rattle.sparc_place.specs.Places.{with_range}
use Rattle.sparc_place.proofs.marks.Marks.mark.Given as goal

abbrev pub invariant-loop-n : goal.invariant-loop-n
invariant-loop-n l = record {
  marked : (n : ℕ) → is_marked l.self-inside.marks.items n ≡ with_range l.from l.n (is_marked l.fn.self) n;
  room : l.to ≤ length l.self-inside.marks.items;
  stop : l.n ≤ max l.from l.to;
}
