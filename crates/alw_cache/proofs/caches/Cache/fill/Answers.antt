-- The line's set gets the copy.
use Rattle.std.proofs.Common.{refl, arith}
use Rattle.alw_cache.proofs.PlaceMaps.{same_copies, map_filled}
use Rattle.alw_cache.proofs.caches.Cache.fill.Goals as goal

pub returns-clause-cache : goal.returns-clause-cache
returns-clause-cache c = rw (← c.self.view_is, c.remainder-set.ensures)
    (same_copies _ _ _ (map_filled c.self.inside.places.items _ _ _ (omega (arith, c.self.invariant.0, c.self.invariant.1)) refl))
