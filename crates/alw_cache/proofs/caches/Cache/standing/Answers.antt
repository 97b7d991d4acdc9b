-- What the set's place holds.
use Rattle.std.proofs.Common.{ap, ◌∙◌, arith}
use Rattle.std.specs.Option.{option_map}
use Rattle.alw_cache.specs.Places.{evicted_of}
use Rattle.alw_cache.proofs.PlaceMaps.{held_read}
use Rattle.alw_cache.proofs.caches.Cache.standing.Goals as goal

pub returns-clause-copy : goal.returns-clause-copy
returns-clause-copy c =
    let set = rw (← c.self.view_is) at c.requires in
    rw (← c.self.view_is) (c.copy.ensures ∙ ap (option_map evicted_of) (held_read c.self.inside.places.items c.args.set c.index.result.now (omega (arith, set, c.self.invariant.1)) c.index.ensures))
