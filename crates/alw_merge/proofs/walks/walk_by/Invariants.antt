use Rattle.alw_model.specs.Threads.{merged}
use Rattle.alw_cells.specs.Logs.{logged}
use Rattle.alw_merge.proofs.Spanned.{AreUnderWay}
use Rattle.alw_merge.proofs.walks.walk_by.Given as goal

-- the spans so far have been walked, and the others are left
abbrev pub invariant-loop-span : goal.invariant-loop-span
invariant-loop-span g l = AreUnderWay l.image l.params (merged (logged l.logs)) l.count l.width l.yielded l.span-iterator.rest.items l.walked
