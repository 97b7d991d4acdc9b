-- Entries in range so far.
use Rattle.std.proofs.Common.{drop}
use Rattle.alw_trace.proofs.InRange.{JournalSoFar}
use Rattle.alw_trace.proofs.ranges.journal_of.Given as goal

abbrev pub invariant-loop-entry : goal.invariant-loop-entry
invariant-loop-entry l = JournalSoFar l.nodes l.sets l.first l.entries (drop l.entry-index l.entries) l.journal
