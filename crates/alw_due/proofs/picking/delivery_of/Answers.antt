-- What comes of the first sender.
use Rattle.alw_num.specs.NodeSets.{nodes_of}
use Rattle.alw_due.proofs.Deliveries.{first_delivery}
use Rattle.alw_due.proofs.picking.delivery_of.Goals as goal

pub returns : goal.returns
returns c =
    first_delivery c.args.machine.now c.args.costs.now c.args.clocks.now c.args.to.0 (nodes_of c.args.senders) c.requires.senders c.in_ok-from.from.0 c.due_of.result
    c.in_ok-from.ensures c.due_of.ensures
