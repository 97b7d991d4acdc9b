-- The stretches that have ended, then the one under way with what is left of the turns, are those of the whole.
use Rattle.std.proofs.Common.{◌≡◌, ◌≤◌, ◌+◌, ◌++◌, length, drop}
use Rattle.alw_msg.specs.Stretches.{in_front, stretches}
use Rattle.alw_msg.proofs.turns.stretches.Given as goal

abbrev pub invariant-loop-next : goal.invariant-loop-next
invariant-loop-next l = record {
  left : l.list ++ in_front l.context l.count (stretches (drop l.next-index l.rest)) ≡ stretches l.turns;
  few : length l.list ≤ l.next-index;
  short : l.count ≤ l.next-index + 1;
}
