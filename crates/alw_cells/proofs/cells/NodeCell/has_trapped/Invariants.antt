use Rattle.std.proofs.Common.{◌≡◌, ◌<◌, ℕ, false}
use Rattle.alw_msg.specs.Statuses.{has_trapped}
use Rattle.alw_model.specs.Contexts.{slot_at}
use Rattle.alw_cells.proofs.cells.NodeCell.has_trapped.Given as goal

abbrev pub invariant-loop-slot : goal.invariant-loop-slot
invariant-loop-slot l = (k : ℕ) → k < l.slot → has_trapped (slot_at l.fn.self.node.state.slots k).status ≡ false
