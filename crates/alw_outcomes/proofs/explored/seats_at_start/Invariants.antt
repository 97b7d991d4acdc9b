-- The contexts so far.
use Rattle.alw_outcomes.specs.Digests.{seat_digest}
use Rattle.alw_outcomes.specs.Pools.{IsIndexed}
use Rattle.alw_outcomes.specs.Explored.{AreAtStart}
use Rattle.alw_outcomes.proofs.explored.seats_at_start.Given as goal

abbrev pub invariant-loop-number : goal.invariant-loop-number
invariant-loop-number l = record {
  contexts : AreAtStart l.image l.seats.items l.rows.items l.number;
  indexed : IsIndexed seat_digest l.seats.items l.table;
}
