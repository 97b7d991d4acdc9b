-- The lists so far are empty, and there are no more than nodes.
use Rattle.std.proofs.Common.{◌≡◌, ◌≤◌, ◌-◌, [], length}
use Rattle.std.specs.Global.{Vec}
use Rattle.alw_work.specs.declared.ends.In.{In}
use Rattle.alw_work.specs.Seats.{EachAt}
use Rattle.alw_work.proofs.laying.columns.Given as goal

abbrev pub invariant-loop-alloc : goal.invariant-loop-alloc
invariant-loop-alloc l = record { few : length l.ins.items ≤ l.nodes; empty : EachAt (λ k (column : Vec In). column.items ≡ []) l.ins.items }

abbrev pub decreases-loop-alloc : goal.decreases-loop-alloc
decreases-loop-alloc l = l.nodes - length l.ins.items
