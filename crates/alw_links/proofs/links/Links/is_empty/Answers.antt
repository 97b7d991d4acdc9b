use Rattle.std.proofs.Common.{not, ap, sym, ◌∙◌}
use Rattle.std.specs.List.{list_any}
use Rattle.alw_msg.specs.Lists.{is_nonempty}
use Rattle.alw_links.specs.Traffic.{Traffic}
use Rattle.alw_links.specs.Chains.{links_of}
use Rattle.alw_links.proofs.Places.{in_flight-none}
use Rattle.alw_links.proofs.Walks.{in_flight_is, none_beside}
use Rattle.alw_links.proofs.links.Links.is_empty.Goals as goal

pub returns : goal.returns
returns c =
    let all = in_flight_is _ _ _ _ c.self.invariant.pool ∙ sym (c.len.ensures ∙ c.self.inside.pool.places.ok.0) in
    none_beside _ _ _ all ∙ (in_flight-none (links_of c.self.inside.pool.places.items c.self.inside.links.items) ∙ ap (λ (t : Traffic). not (list_any is_nonempty t.links)) c.self.view_is)
