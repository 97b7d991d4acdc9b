use Rattle.std.proofs.Common.{ap, arith}
use Rattle.alw_links.specs.Traffic.{Traffic, in_flight}
use Rattle.alw_links.proofs.Walks.{in_flight_is}
use Rattle.alw_links.proofs.links.Links.len.Goals as goal

pub returns : goal.returns
returns c =
    let all = in_flight_is _ _ _ _ c.self.invariant.pool in
    omega (arith, all, c.len.ensures, c.from.ensures, c.self.inside.pool.places.ok.0, ap (λ (t : Traffic). in_flight t.links) c.self.view_is)
