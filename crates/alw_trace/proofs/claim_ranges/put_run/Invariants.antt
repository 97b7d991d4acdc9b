-- So many turns are put.
use Rattle.std.proofs.Common.{◌≡◌, ◌++◌, replicate}
use Rattle.alw_trace.proofs.claim_ranges.put_run.Given as goal

abbrev pub invariant-loop-turn : goal.invariant-loop-turn
invariant-loop-turn l = l.turns ≡ l.fn.turns ++ replicate l._turn l.context
