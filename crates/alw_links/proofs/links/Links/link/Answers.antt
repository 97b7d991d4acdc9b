use Rattle.std.proofs.Common.{◌<◌, length, ap, arith}
use Rattle.alw_links.specs.Traffic.{Traffic}
use Rattle.alw_links.proofs.Keeping.{place_within}
use Rattle.alw_links.proofs.Moves.{walked}
use Rattle.alw_links.proofs.links.Links.link.Goals as goal

pub start-requires : goal.start-requires
start-requires c =
    let size = ap (λ (t : Traffic). t.nodes) c.self.view_is in
    let fits : c.place.result < length c.self.inside.links.items = rw c.place.ensures (place_within _ _ _ _ _ _ c.args.from.0 c.args.to.0 c.self.invariant (omega arith) (omega arith)) in
    rw c.deref.ensures.value (walked _ _ _ _ c.self.invariant.pool c.place.result fits c.index.result.now c.index.ensures)
