-- Marks are marks.
use Rattle.std.proofs.Common.{◌≡◌, length}
use Rattle.alw_outcomes.specs.Explored.{found_in}
use Rattle.alw_outcomes.specs.Marks.{AreMarks, KeepsFound}
use Rattle.alw_outcomes.proofs.stuck.stuck_of.Given as goal

abbrev pub invariant-loop-pass : goal.invariant-loop-pass
invariant-loop-pass l = record {
  stays : KeepsFound l.image l.fn.found l.found;
  marks : AreMarks l.image (found_in l.fn.found) l.marks.items;
  long : length l.marks.items ≡ l.count;
}
