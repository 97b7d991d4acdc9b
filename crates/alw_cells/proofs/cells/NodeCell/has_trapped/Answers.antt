use Rattle.std.proofs.Common.{length, sym, ap, arith}
use Rattle.alw_cells.specs.Cells.{Cell}
use Rattle.alw_cells.proofs.Choosing.{none_trapped}
use Rattle.alw_cells.proofs.cells.NodeCell.has_trapped.Goals as goal

pub returns : goal.returns
returns c = sym (none_trapped c.args.self.now.node.state.slots (λ k l. c.loop-slot.invariant k (omega (arith, l, c.loop-slot-test.false, c.count-slot-end.ensures.count, ap (λ (v : Cell). length v.node.state.slots) c.self.view_is))))
