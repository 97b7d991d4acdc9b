use Rattle.std.proofs.Common.{◌≡◌, ◌+◌, ◌≤◌, drop, length, Ok}
use Rattle.sparc_asm.specs.Names.{value_in}
use Rattle.sparc_place.specs.Places.{Layout, places, places_of}
use Rattle.sparc_place.specs.Plans.{layout_of}
use Rattle.sparc_assemble.specs.Assembly.{nothing_filled, values_fault, all_filled}
use Rattle.sparc_assemble.specs.Fillings.{filled_of}
use Rattle.sparc_assemble.proofs.fillings.fill_in.Given as goal

abbrev pub invariant-loop-i : goal.invariant-loop-i
invariant-loop-i l = record {
  before : Layout;
  laid : places (l.i + 1) before (drop l.i l.lines) ≡ Ok (layout_of l.laid.plan);
  placed : drop l.i l.laid.places ≡ places_of before (drop l.i l.lines);
  count : length l.filling.words ≡ before.code;
  few : length l.filling.words ≤ 65536;
  fault : values_fault (value_in l.laid.plan.names) l.laid.plan.cursor.code 1 l.laid.places l.lines ≡ values_fault (value_in l.laid.plan.names) l.laid.plan.cursor.code (l.i + 1) (drop l.i l.laid.places) (drop l.i l.lines);
  filled : all_filled (value_in l.laid.plan.names) 1 l.laid.places l.lines nothing_filled ≡ all_filled (value_in l.laid.plan.names) (l.i + 1) (drop l.i l.laid.places) (drop l.i l.lines) (filled_of l.filling);
}
