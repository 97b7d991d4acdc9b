-- The line's place keeps its line and its mode.
use Rattle.std.proofs.Common.{◌<◌, ◌%◌, length, arith}
use Rattle.alw_cache.proofs.PlaceMaps.{same_copies, map_filled, held_written}
use Rattle.alw_cache.proofs.caches.Cache.write.Goals as goal

pub returns : goal.returns
returns c =
    let set : c.args.line.0 % c.self.inside.sets < length c.self.inside.places.items = omega (arith, c.self.invariant.0, c.self.invariant.1) in
    let can = rw (← c.self.view_is) at c.requires in
    let read = rw c.remainder-set.ensures at c.index_mut.ensures.value in
    rw (← c.self.view_is, c.remainder-set.ensures) (same_copies _ _ _ (map_filled c.self.inside.places.items _ _ _ set (held_written c.self.inside.places.items c.self.inside.sets c.args.line.0 c.index_mut.result.now c.args.body set read can)))
