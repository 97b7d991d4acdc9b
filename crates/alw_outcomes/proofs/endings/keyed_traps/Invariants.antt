-- The turns so far.
use Rattle.std.proofs.Common.{◌≡◌}
use Rattle.std.specs.List.{range_with_len}
use Rattle.alw_outcomes.specs.Keys.{trap_key, numbers_of, AreKeyed}
use Rattle.alw_outcomes.proofs.endings.keyed_traps.Given as goal

abbrev pub invariant-loop-i : goal.invariant-loop-i
invariant-loop-i l = record {
  numbers : numbers_of l.keyed.items ≡ range_with_len 0 l.i;
  keys : AreKeyed (trap_key l.trapped) l.keyed.items;
}
