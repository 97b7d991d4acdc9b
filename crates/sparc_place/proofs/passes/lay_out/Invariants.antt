use Rattle.std.proofs.Common.{◌≡◌, ◌+◌, ◌++◌, drop, length}
use Rattle.sparc_place.specs.Places.{nothing_laid, places, places_of}
use Rattle.sparc_place.specs.Plans.{layout_of}
use Rattle.sparc_place.proofs.passes.lay_out.Given as goal

abbrev pub invariant-loop-i : goal.invariant-loop-i
invariant-loop-i l = record {
  wanted : places 1 nothing_laid l.lines ≡ places (l.i + 1) (layout_of l.plan) (drop l.i l.lines);
  listed : places_of nothing_laid l.lines ≡ l.all ++ places_of (layout_of l.plan) (drop l.i l.lines);
  count : length l.all ≡ l.i;
}
