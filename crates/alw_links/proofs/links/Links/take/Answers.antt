use Rattle.std.proofs.Common.{◌<◌, cond, length, ap, sym, ◌∙◌, arith}
use Rattle.std.proofs.lemmas.List.{get_or_read}
use Rattle.alw_num.specs.NodeSets.{drop_node, nodes_of}
use Rattle.alw_num.specs.declared.node_sets.NodeSet.{NodeSet}
use Rattle.alw_links.specs.Traffic.{Traffic, after_take}
use Rattle.alw_links.specs.Chains.{links_of}
use Rattle.alw_links.specs.Keeping.{nobody}
use Rattle.alw_links.proofs.Places.{taken_none}
use Rattle.alw_links.proofs.Keeping.{place_within, takes}
use Rattle.alw_links.proofs.Moves.{some_first}
use Rattle.alw_links.proofs.Walks.{none_first}
use Rattle.alw_links.proofs.links.Links.take.Goals as goal

pub returns-then-index-clause-links : goal.returns-then-index-clause-links
returns-then-index-clause-links c =
    let size = ap (λ (t : Traffic). t.nodes) c.self.view_is in
    let fits : c.place-at.result < length c.self.inside.links.items = rw c.place-at.ensures (place_within _ _ _ _ _ _ c.args.from.0 c.args.to.0 c.self.invariant (omega arith) (omega arith)) in
    let none = none_first _ _ _ _ c.self.invariant.pool c.place-at.result fits c.index.result.now c.index.ensures c.if-index.true in
    sym c.self.view_is ∙ (taken_none c.self.inside.nodes c.self.inside.pool.room (links_of c.self.inside.pool.places.items c.self.inside.links.items) c.args.from.0 c.args.to.0 (rw c.place-at.ensures at none)
    ∙ ap (λ (t : Traffic). after_take t c.args.from.0 c.args.to.0) c.self.view_is)

pub pop-more-requires-clause-some : goal.pop-more-requires-clause-some
pop-more-requires-clause-some c =
    let size = ap (λ (t : Traffic). t.nodes) c.self.view_is in
    let fits : c.place-at.result < length c.self.inside.links.items = rw c.place-at.ensures (place_within _ _ _ _ _ _ c.args.from.0 c.args.to.0 c.self.invariant (omega arith) (omega arith)) in
    some_first _ _ _ _ c.self.invariant.pool c.place-at.result fits c.index.result.now c.index.ensures c.if-index.false

pub invariant_of-self : goal.invariant_of-self
invariant_of-self c =
    let size = ap (λ (t : Traffic). t.nodes) c.self.view_is in
    let from : c.args.from.0 < c.self.inside.nodes = omega arith in
    let to : c.args.to.0 < c.self.inside.nodes = omega arith in
    let fits : c.place-at.result < length c.self.inside.links.items = rw c.place-at.ensures (place_within _ _ _ _ _ _ c.args.from.0 c.args.to.0 c.self.invariant from to) in
    let some = some_first _ _ _ _ c.self.invariant.pool c.place-at.result fits c.index.result.now c.index.ensures c.if-index.false in
    let read = get_or_read c.self.inside.senders.items c.args.to.0 c.index_mut.result.now (omega arith) c.index_mut.ensures.value nobody in
    let told = c.leave.ensures ∙ ap (λ (s : NodeSet). cond c.pop-more.result.1 (nodes_of s) (drop_node (nodes_of s) c.args.from.0)) read in
    takes _ _ _ _ _ _ _ _ c.self.invariant from to _ _ _ _ _ _ (rw c.place-at.ensures at c.pop-more.ensures.pool) (rw c.place-at.ensures at some) (rw c.place-at.ensures at c.pop-more.ensures.more) told
