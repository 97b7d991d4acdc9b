use Rattle.std.proofs.Common.{◌↔◌, length}
use Rattle.alw_model.specs.Threads.{took_from, sent_to, IsFront}
use Rattle.alw_cells.proofs.logs.Log.took_front.Given as goal

-- what is left agrees where all agrees
abbrev pub invariant-loop-entry : goal.invariant-loop-entry
invariant-loop-entry l = IsFront (took_from l.from l.self.entries) (sent_to l.to l.sender.entries) ↔ IsFront (took_from l.from l.taken.left) l.sent

abbrev pub decreases-loop-entry : goal.decreases-loop-entry
decreases-loop-entry l = length l.taken.left
