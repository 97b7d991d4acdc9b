-- The first of three kinds, or an instruction alone.
use Rattle.std.proofs.Common.{rules, ◌≡◌, true, false}
use Rattle.alw_num.specs.NodeSets.{no_nodes, nodes_of}
use Rattle.alw_due.proofs.OfNode.{of_all, instr_alone}
use Rattle.alw_due.proofs.picking.best_of.Goals as goal

pub returns : goal.returns
returns c =
    rw (c.earlier-2.ensures, c.earlier.ensures)
    (of_all c.args.machine.now c.args.costs.now c.args.clocks.now c.args.node.0 c.handler_of-handler.result c.delivery_of-delivery.result c.instr_of-instr.result
    c.handler_of-handler.ensures c.delivery_of-delivery.ensures c.instr_of-instr.ensures)

pub returns-then-is_empty : goal.returns-then-is_empty
returns-then-is_empty c =
    let row = c.row-row.result in
    let timely : row.in_time ≡ true = search rules in
    let idle : row.handle ≡ false = search rules in
    let silent : nodes_of row.senders ≡ no_nodes = search rules in
    instr_alone c.args.machine.now c.args.costs.now c.args.clocks.now c.args.node.0 row c.instr_of.result c.row-row.ensures timely idle silent c.instr_of.ensures
