-- A new place goes to the front of the spare chain.
use Rattle.std.proofs.Common.{refl, ◌∙◌, arith}
use Rattle.alw_links.proofs.Moves.{wider, one_longer}
use Rattle.alw_links.proofs.pools.widen.Goals as goal

pub loop-preserved : goal.loop-preserved
loop-preserved c =
    let long = one_longer _ _ _ c.push_reserved.ensures.items in
    record {
      pool = wider _ _ _ _ _ _ _ _ c.loop.invariant.pool (omega (arith, c.loop.invariant.fits)) refl c.push_reserved.ensures.items (c.len-in-loop.ensures ∙ c.loop.pool.places.ok.0);
      room = omega (arith, c.loop.invariant.room);
      within = omega arith;
      fits = omega (arith, c.loop.invariant.fits, long);
      memory = omega (arith, c.loop.invariant.memory, c.push_reserved.ensures.capacity, long);
    }
