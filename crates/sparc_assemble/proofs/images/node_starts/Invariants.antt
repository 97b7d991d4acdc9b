use Rattle.std.proofs.Common.{◌≡◌, ◌≤◌, ◌+◌, ◌++◌, length}
use Rattle.sparc_assemble.specs.Assembly.{gathered, start_at}
use Rattle.sparc_assemble.specs.Fillings.{address_if}
use Rattle.sparc_assemble.proofs.images.node_starts.Given as goal

abbrev pub invariant-loop-slot : goal.invariant-loop-slot
invariant-loop-slot l = record {
  found : l.starts ≡ l.fn.starts ++ gathered (start_at (address_if l.given l.addresses) l.node) l.slot;
  count : length l.starts ≤ length l.fn.starts + l.slot;
}
