-- The contexts so far have halted.
use Rattle.std.proofs.Common.{◌≡◌, true, take}
use Rattle.alw_outcomes.specs.Explored.{halted_in}
use Rattle.alw_outcomes.proofs.explored.have_halted.Given as goal

abbrev pub invariant-loop-seat : goal.invariant-loop-seat
invariant-loop-seat l = halted_in l.seats (take l.seat-index l.row) ≡ true
