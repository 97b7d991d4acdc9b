-- The places so far lead to unmarked places alone.
use Rattle.alw_outcomes.specs.Explored.{found_in}
use Rattle.alw_outcomes.specs.Marks.{AreStaying, KeepsFound}
use Rattle.alw_outcomes.proofs.stuck.have_exit.Given as goal

abbrev pub invariant-loop-at : goal.invariant-loop-at
invariant-loop-at l = record {
  stays : KeepsFound l.image l.fn.found l.found;
  staying : AreStaying l.image l.fn.found.classes.items (found_in l.fn.found) l.marks l.at;
}
