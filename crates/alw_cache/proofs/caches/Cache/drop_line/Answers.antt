-- The line's set is emptied.
use Rattle.std.proofs.Common.{refl, sym, ◌∙◌, arith}
use Rattle.alw_model.specs.Caches.{copy_at}
use Rattle.alw_cache.specs.Places.{map_from}
use Rattle.alw_cache.proofs.PlaceMaps.{same_copies, map_emptied, dropped}
use Rattle.alw_cache.proofs.caches.Cache.drop_line.Goals as goal

pub returns-clause-cache : goal.returns-clause-cache
returns-clause-cache c =
    let cache = map_from 0 c.self.inside.places.items in
    let was = rw (← c.self.view_is) at (sym c.in_ok-copy.was ∙ c.copy.ensures) in
    rw (← c.self.view_is, c.remainder-set.ensures) (same_copies _ _ _ (map_emptied c.self.inside.places.items _ _ (omega (arith, c.self.invariant.0, c.self.invariant.1)) refl
    ∙ sym (dropped c.self.inside.sets cache c.args.line.0 (copy_at c.self.inside.sets cache c.args.line.0) c.in_ok-copy.copy was)))
