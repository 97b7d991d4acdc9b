-- The links say what they said, and there is memory for the places that are still to come.
use Rattle.std.proofs.Common.{◌≡◌, ◌≤◌, ◌+◌, length, vec_capacity}
use Rattle.alw_links.specs.Chains.{links_of, no_place, IsPoolOf}
use Rattle.alw_links.proofs.pools.widen.Given as goal

abbrev pub invariant-loop : goal.invariant-loop
invariant-loop l = record {
  pool : IsPoolOf l.pool.places.items l.links.items l.pool.spare l.pool.room (links_of l.fn.pool.places.items l.links.items);
  room : l.pool.room ≡ l.fn.pool.room + l.counter;
  within : l.counter ≤ l.more;
  fits : length l.pool.places.items + l.more ≤ no_place + l.counter;
  memory : length l.pool.places.items + l.more ≤ vec_capacity l.pool.places + l.counter;
}
