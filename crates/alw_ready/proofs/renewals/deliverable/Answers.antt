use Rattle.std.proofs.Common.{refl}
use Rattle.alw_num.specs.NodeSets.{nodes_of}
use Rattle.alw_ready.specs.Rows.{delivery}
use Rattle.alw_ready.specs.Fits.{may_happen}
use Rattle.alw_ready.proofs.Renewing.{found_none, found_all}
use Rattle.alw_ready.proofs.renewals.deliverable.Goals as goal

pub returns-then-is_empty : goal.returns-then-is_empty
returns-then-is_empty g c =
    let v = c.args.view.now in
    let none = c.if-is_empty.ensures.0 refl in
    found_all (λ from. may_happen (g.V.View.image v) (g.V.View.parameters v) (g.V.View.state v) (delivery from c.args.to.0)) (nodes_of c.senders-senders.result) (nodes_of c.senders-senders.result)
    (found_none (g.V.View.image v) (g.V.View.parameters v) (g.V.View.state v) c.args.to.0 (nodes_of c.senders-senders.result) (nodes_of c.senders-senders.result) none c.senders-senders.ensures) none
