use Rattle.std.proofs.Common.{◌≡◌, ◌≤◌, ◌*◌, length}
use Rattle.sparc_assemble.specs.Assembly.{starts_of}
use Rattle.sparc_assemble.specs.Fillings.{address_if}
use Rattle.sparc_assemble.proofs.images.starts_of.Given as goal

abbrev pub invariant-loop-node : goal.invariant-loop-node
invariant-loop-node l = record {
  found : l.starts ≡ starts_of (address_if l.given l.addresses) l.node l.slots;
  count : length l.starts ≤ 4 * l.node;
}
