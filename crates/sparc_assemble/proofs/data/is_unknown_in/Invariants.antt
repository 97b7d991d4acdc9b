use Rattle.std.proofs.Common.{◌≡◌, drop}
use Rattle.sparc_asm.specs.Names.{value_in}
use Rattle.sparc_assemble.specs.Data.{is_unknown_in}
use Rattle.sparc_assemble.proofs.data.is_unknown_in.Given as goal

abbrev pub invariant-loop-i : goal.invariant-loop-i
invariant-loop-i l = is_unknown_in (value_in l.names) l.here l.values ≡ is_unknown_in (value_in l.names) l.here (drop l.i l.values)
