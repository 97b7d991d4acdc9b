-- Lines are read, and so many are left.
use Rattle.std.proofs.Common.{◌-◌, ◌≤◌, length}
use Rattle.alw_trace.specs.Lists.{IsLineOf, line_of}
use Rattle.alw_trace.proofs.LineReads.{LinesSoFar}
use Rattle.alw_trace.proofs.claim_lines.pairs_at.Given as goal

abbrev pub invariant-loop-kind : goal.invariant-loop-kind
invariant-loop-kind l = LinesSoFar (IsLineOf l.kind) (line_of l.kind) l.text l.pairs.items l.rest × (length l.pairs.items ≤ l.count)

abbrev pub decreases-loop-kind : goal.decreases-loop-kind
decreases-loop-kind l = l.count - length l.pairs.items
