-- The turns so far stay, if none is open.
use Rattle.std.proofs.Common.{◌≡◌, ℕ, ◌<◌, false}
use Rattle.alw_outcomes.specs.Explored.{found_in}
use Rattle.alw_outcomes.specs.Marks.{KeepsFound, StaysAlongAt}
use Rattle.alw_outcomes.proofs.stuck.look_at.Given as goal

abbrev pub invariant-loop-context : goal.invariant-loop-context
invariant-loop-context l = record {
  stays : KeepsFound l.image l.fn.found l.found;
  along : l.is_open ≡ false → (context : ℕ) → context < l.context → StaysAlongAt l.image l.fn.found.classes.items (found_in l.fn.found) l.marks l.at context;
}
