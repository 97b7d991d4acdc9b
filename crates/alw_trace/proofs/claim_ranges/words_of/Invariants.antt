-- Words in range so far.
use Rattle.std.proofs.Common.{drop}
use Rattle.alw_trace.proofs.InClaim.{WordsSoFar}
use Rattle.alw_trace.proofs.claim_ranges.words_of.Given as goal

abbrev pub invariant-loop-word : goal.invariant-loop-word
invariant-loop-word l = WordsSoFar l.shared l.at l.lines (drop l.word-index l.lines) l.words l.before l.line
