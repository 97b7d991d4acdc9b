use Rattle.std.proofs.Common.{◌<◌, cond, ap, ◌∙◌, arith}
use Rattle.std.proofs.lemmas.List.{get_or_read}
use Rattle.alw_num.specs.NodeSets.{add_node, nodes_of}
use Rattle.alw_num.specs.declared.node_sets.NodeSet.{NodeSet}
use Rattle.alw_links.specs.Traffic.{Traffic}
use Rattle.alw_links.specs.Keeping.{nobody}
use Rattle.alw_links.proofs.Keeping.{sends}
use Rattle.alw_links.proofs.links.Links.send.Goals as goal

pub invariant_of-self : goal.invariant_of-self
invariant_of-self c =
    let size = ap (λ (t : Traffic). t.nodes) c.self.view_is in
    let from : c.args.from.0 < c.self.inside.nodes = omega arith in
    let to : c.args.to.0 < c.self.inside.nodes = omega arith in
    let read = get_or_read c.self.inside.senders.items c.args.to.0 c.index_mut.result.now (omega arith) c.index_mut.ensures.value nobody in
    let told = c.enter.ensures ∙ ap (λ (s : NodeSet). cond c.push-first.result (add_node (nodes_of s) c.args.from.0) (nodes_of s)) read in
    sends _ _ _ _ _ _ _ _ c.self.invariant from to c.args.msg _ _ _ _ _ _ (rw c.place-at.ensures at c.push-first.ensures.pool) (rw c.place-at.ensures at c.push-first.ensures.first) told
