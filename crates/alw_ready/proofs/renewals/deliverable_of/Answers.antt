use Rattle.std.proofs.Common.{refl}
use Rattle.alw_num.specs.NodeSets.{nodes_of, members, drop_node}
use Rattle.alw_num.proofs.Sets.{has_front}
use Rattle.alw_msg.specs.Lists.{is_nonempty}
use Rattle.alw_image.specs.Images.{node_count}
use Rattle.alw_model.specs.Machine.{link_at}
use Rattle.alw_ready.specs.Rows.{delivery}
use Rattle.alw_ready.specs.Fits.{may_happen}
use Rattle.alw_ready.proofs.Renewing.{found_none, found_more, found_all, all_below, fewer_below}
use Rattle.alw_ready.proofs.renewals.deliverable_of.Goals as goal

pub loop-from-init : goal.loop-from-init
loop-from-init g c =
    let v = c.args.view.now in (
      found_none (g.V.View.image v) (g.V.View.parameters v) (g.V.View.state v) c.args.to.0 (nodes_of c.empty-found.result) (nodes_of c.args.senders) c.empty-found.ensures c.requires.senders,
      all_below (node_count (g.V.View.image v)) (nodes_of c.args.senders) (λ from. is_nonempty (link_at (g.V.View.image v) (g.V.View.state v) from c.args.to.0)) c.requires.senders,
    )

pub looked_at-found-requires-clause-from : goal.looked_at-found-requires-clause-from
looked_at-found-requires-clause-from g c = c.loop-from.invariant.1 c.in-Some.from.0 (has_front (nodes_of c.loop-from.rest) c.in-Some.from.0 (members (drop_node (nodes_of c.loop-from.rest) c.in-Some.from.0)) c.in-Some.ensures.lowest)

pub loop-from-preserved : goal.loop-from-preserved
loop-from-preserved g c =
    let v = c.args.view.now in (
      found_more (λ from. may_happen (g.V.View.image v) (g.V.View.parameters v) (g.V.View.state v) (delivery from c.args.to.0)) (nodes_of c.loop-from.found) (nodes_of c.looked_at-found.result) (nodes_of c.loop-from.rest) (nodes_of c.without-rest.result) c.in-Some.from.0
          c.loop-from.invariant.0 c.without-rest.ensures c.looked_at-found.ensures,
      fewer_below (node_count (g.V.View.image v)) (nodes_of c.loop-from.rest) (nodes_of c.without-rest.result) c.in-Some.from.0 c.loop-from.invariant.1 c.without-rest.ensures,
    )

pub returns : goal.returns
returns g c =
    let v = c.args.view.now in
    found_all (λ from. may_happen (g.V.View.image v) (g.V.View.parameters v) (g.V.View.state v) (delivery from c.args.to.0)) (nodes_of c.loop-from.found) (nodes_of c.loop-from.rest) c.loop-from.invariant.0 (c.in_default.ensures.none.0 refl)
