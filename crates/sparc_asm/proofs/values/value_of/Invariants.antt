use Rattle.std.proofs.Common.{◌≡◌, ◌*◌, ◌≤◌, drop}
use Rattle.sparc_asm.specs.Names.{value_in}
use Rattle.sparc_asm.specs.Values.{value_of}
use Rattle.sparc_asm.proofs.Sums.{onto}
use Rattle.sparc_asm.proofs.values.value_of.Given as goal

abbrev pub invariant-loop-i : goal.invariant-loop-i
invariant-loop-i l = record {
  value : value_of (value_in l.names) l.here l.expression ≡ onto l.sum (value_of (value_in l.names) l.here (drop l.i l.expression));
  plus : l.sum.plus ≤ 4294967295 * l.i;
  minus : l.sum.minus ≤ 4294967295 * l.i;
}
