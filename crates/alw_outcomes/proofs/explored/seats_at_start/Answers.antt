-- One context more.
use Rattle.alw_outcomes.proofs.Storing.{start_more}
use Rattle.alw_outcomes.proofs.explored.seats_at_start.Goals as goal

pub loop-number-preserved : goal.loop-number-preserved
loop-number-preserved c = record {
  contexts =
      start_more c.args.image.now c.loop-number.seats.items c.number_in.new.pool.items c.loop-number.rows.items c.push.new.self.items c.loop-number.number c.in_ok-at.at c.seat_at_start-seat.result
      c.loop-number.invariant.contexts c.in_ok-at.ensures.number c.seat_at_start-seat.ensures.context c.seat_at_start-seat.ensures.list c.in_ok-push.ensures.items;
  indexed = c.in_ok-at.ensures.indexed;
}
