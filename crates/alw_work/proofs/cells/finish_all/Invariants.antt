-- The cells below this place are spent, and the others are as they were.
use Rattle.alw_work.proofs.Finishing.{AreFinishedTo}
use Rattle.alw_work.proofs.cells.finish_all.Given as goal

abbrev pub invariant-loop-n : goal.invariant-loop-n
invariant-loop-n l = AreFinishedTo l.n l.fn.cells.items l.cells.items
