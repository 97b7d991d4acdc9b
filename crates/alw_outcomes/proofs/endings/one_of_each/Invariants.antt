-- One of each different key so far.
use Rattle.std.proofs.Common.{ℕ, List}
use Rattle.alw_outcomes.specs.Keys.{AreKeyed, SortIsUnderWay}
use Rattle.alw_outcomes.proofs.endings.one_of_each.Given as goal

abbrev pub invariant-loop-i : goal.invariant-loop-i
invariant-loop-i l = (key : ℕ → List ℕ) → AreKeyed key l.keyed.items → SortIsUnderWay key l.keyed.items l.i l.kept.items
