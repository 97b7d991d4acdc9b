use Rattle.std.proofs.Common.{◌≡◌, ◌++◌, drop, map, length}
use Rattle.std.specs.List.{list_any}
use Rattle.sparc_asm.specs.Names.{value_in}
use Rattle.sparc_asm.specs.Values.{value_of}
use Rattle.sparc_assemble.specs.Assembly.{is_outside, datum, modulus_of}
use Rattle.sparc_assemble.specs.Data.{is_unknown_in}
use Rattle.sparc_assemble.proofs.data.data_values.Given as goal

abbrev pub invariant-loop-i : goal.invariant-loop-i
invariant-loop-i l = record {
  unknown : is_unknown_in (value_in l.names) l.here l.values ≡ is_unknown_in (value_in l.names) l.here (drop l.i l.values);
  outside : list_any (λ e. is_outside l.width (value_of (value_in l.names) l.here e)) l.values ≡ list_any (λ e. is_outside l.width (value_of (value_in l.names) l.here e)) (drop l.i l.values);
  found : map (datum (value_in l.names) l.here (modulus_of l.width)) l.values ≡ l.all ++ map (datum (value_in l.names) l.here (modulus_of l.width)) (drop l.i l.values);
  count : length l.all ≡ l.i;
}
