-- Each set holds nothing.
use Rattle.std.proofs.Common.{ap, ◌∙◌}
use Rattle.alw_cache.specs.Places.{map_from}
use Rattle.alw_cache.proofs.PlaceMaps.{same_copies, empty_from}
use Rattle.alw_cache.proofs.caches.Cache.room.Goals as goal

pub returns : goal.returns
returns c = rw c.of.ensures (same_copies c.args.sets _ _ (ap (map_from 0) (c.in_ok-places.ensures.items_if_clones_equal (λ y h. h)) ∙ empty_from c.args.sets 0))
