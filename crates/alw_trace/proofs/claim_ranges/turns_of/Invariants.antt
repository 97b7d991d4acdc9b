-- Runs in range so far.
use Rattle.std.proofs.Common.{drop}
use Rattle.alw_trace.proofs.InClaim.{RunsSoFar}
use Rattle.alw_trace.proofs.claim_ranges.turns_of.Given as goal

abbrev pub invariant-loop-run : goal.invariant-loop-run
invariant-loop-run l = RunsSoFar l.contexts l.at l.runs (drop l.run-index l.runs) l.turns l.before l.line
