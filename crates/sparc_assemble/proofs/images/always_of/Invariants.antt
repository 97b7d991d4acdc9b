use Rattle.std.proofs.Common.{◌≡◌, ◌≤◌, length}
use Rattle.sparc_place.specs.Plans.{layout_of}
use Rattle.sparc_assemble.specs.Assembly.{gathered, always_at}
use Rattle.sparc_assemble.proofs.images.always_of.Given as goal

abbrev pub invariant-loop-number : goal.invariant-loop-number
invariant-loop-number l = record {
  found : l.lines ≡ gathered (always_at (layout_of l.plan).always) l.number;
  count : length l.lines ≤ l.number;
}
