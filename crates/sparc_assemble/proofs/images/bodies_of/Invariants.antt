use Rattle.std.proofs.Common.{◌≡◌, ◌≤◌, length, slice_index}
use Rattle.sparc_assemble.specs.Assembly.{gathered, data_line}
use Rattle.sparc_assemble.proofs.images.bodies_of.Given as goal

abbrev pub invariant-loop-number : goal.invariant-loop-number
invariant-loop-number l = record {
  found : l.bodies ≡ gathered (data_line (slice_index l.memory)) l.number;
  count : length l.bodies ≤ l.number;
}
