-- Lines are read, and so many are left.
use Rattle.std.proofs.Common.{◌-◌, ◌≤◌, length, map}
use Rattle.alw_trace.specs.Texts.{entry_line}
use Rattle.alw_trace.specs.Lines.{IsEntry}
use Rattle.alw_trace.specs.Raw.{entry_of}
use Rattle.alw_trace.proofs.LineReads.{LinesSoFar}
use Rattle.alw_trace.proofs.trace_lines.lines_at.Given as goal

abbrev pub invariant-loop-rest : goal.invariant-loop-rest
invariant-loop-rest l = LinesSoFar IsEntry entry_line l.text (map entry_of l.entries.items) l.rest × (length l.entries.items ≤ l.count)

abbrev pub decreases-loop-rest : goal.decreases-loop-rest
decreases-loop-rest l = l.count - length l.entries.items
