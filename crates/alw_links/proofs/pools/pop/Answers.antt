-- The first place of the link goes to the front of the spare chain, and what is behind it stays.
use Rattle.std.proofs.Common.{arith}
use Rattle.alw_links.proofs.Moves.{room_below, takes_front, takes_more, takes}
use Rattle.alw_links.proofs.pools.pop.Goals as goal

pub overflow_add-pool : goal.overflow_add-pool
overflow_add-pool c = omega (arith, c.requires.pool.few, room_below _ _ _ _ c.requires.pool c.args.at c.requires.at c.index-ends.result.now c.index-ends.ensures c.requires.some)

pub returns-clause-pool : goal.returns-clause-pool
returns-clause-pool c =
    takes _ _ _ _ c.requires.pool c.args.at c.requires.at c.index-ends.result.now c.index-place.result.now c.index_mut-2.result.now c.end.result c.index-ends.ensures c.requires.some
    c.index-place.ensures c.index_mut-2.ensures.value c.end.ensures

pub returns-clause-message : goal.returns-clause-message
returns-clause-message c = takes_front _ _ _ _ c.requires.pool c.args.at c.requires.at c.index-ends.result.now c.index-place.result.now c.index-ends.ensures c.requires.some c.index-place.ensures

pub returns-clause-more : goal.returns-clause-more
returns-clause-more c = takes_more _ _ _ _ c.requires.pool c.args.at c.requires.at c.index-ends.result.now c.index-place.result.now c.index-ends.ensures c.requires.some c.index-place.ensures
