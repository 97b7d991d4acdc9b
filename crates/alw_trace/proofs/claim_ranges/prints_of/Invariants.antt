-- Prints in range so far.
use Rattle.std.proofs.Common.{drop}
use Rattle.alw_trace.proofs.InClaim.{PrintsSoFar}
use Rattle.alw_trace.proofs.claim_ranges.prints_of.Given as goal

abbrev pub invariant-loop-context : goal.invariant-loop-context
invariant-loop-context l = PrintsSoFar l.contexts l.at l.lines (drop l.context-index l.lines) l.prints l.line
