use Rattle.std.proofs.Common.{◌<◌, length, ap, sym, ◌∙◌, arith}
use Rattle.alw_msg.specs.Lists.{front}
use Rattle.alw_links.specs.Traffic.{Traffic, link_in}
use Rattle.alw_links.proofs.Keeping.{place_within}
use Rattle.alw_links.proofs.Walks.{none_first, first_within, front_is}
use Rattle.alw_links.proofs.links.Links.head.Goals as goal

pub index-requires-else-first : goal.index-requires-else-first
index-requires-else-first c =
    let size = ap (λ (t : Traffic). t.nodes) c.self.view_is in
    let fits : c.place.result < length c.self.inside.links.items = rw c.place.ensures (place_within _ _ _ _ _ _ c.args.from.0 c.args.to.0 c.self.invariant (omega arith) (omega arith)) in
    omega (arith, first_within _ _ _ _ c.self.invariant.pool c.place.result fits c.index.result.now c.index.ensures c.if-first.false)

pub returns-then-first : goal.returns-then-first
returns-then-first c =
    let size = ap (λ (t : Traffic). t.nodes) c.self.view_is in
    let fits : c.place.result < length c.self.inside.links.items = rw c.place.ensures (place_within _ _ _ _ _ _ c.args.from.0 c.args.to.0 c.self.invariant (omega arith) (omega arith)) in
    let none = none_first _ _ _ _ c.self.invariant.pool c.place.result fits c.index.result.now c.index.ensures c.if-first.true in
    sym (ap front (rw c.place.ensures at none)) ∙ ap (λ (t : Traffic). front (link_in t c.args.from.0 c.args.to.0)) c.self.view_is

pub returns-else-first : goal.returns-else-first
returns-else-first c =
    let size = ap (λ (t : Traffic). t.nodes) c.self.view_is in
    let fits : c.place.result < length c.self.inside.links.items = rw c.place.ensures (place_within _ _ _ _ _ _ c.args.from.0 c.args.to.0 c.self.invariant (omega arith) (omega arith)) in
    let first = front_is _ _ _ _ c.self.invariant.pool c.place.result fits c.index.result.now c.index.ensures c.index-else-first.result.now c.if-first.false c.index-else-first.ensures in
    sym (rw c.place.ensures at first) ∙ ap (λ (t : Traffic). front (link_in t c.args.from.0 c.args.to.0)) c.self.view_is
