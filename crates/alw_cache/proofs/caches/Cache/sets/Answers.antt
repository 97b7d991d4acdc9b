-- Each place has a line of its set, or no copy.
use Rattle.alw_cache.proofs.PlaceMaps.{are_placed}
use Rattle.alw_cache.proofs.caches.Cache.sets.Goals as goal

pub returns-clause-placed : goal.returns-clause-placed
returns-clause-placed c = rw (← c.self.view_is) (are_placed c.self.inside.sets c.self.inside.places.items c.self.invariant.2)
