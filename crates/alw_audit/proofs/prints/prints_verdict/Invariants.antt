-- No print so far differs.
use Rattle.std.proofs.Common.{◌≡◌, drop}
use Rattle.alw_audit.specs.Verdicts.{pairs_verdict}
use Rattle.alw_audit.proofs.prints.prints_verdict.Given as goal

abbrev pub invariant-loop-k : goal.invariant-loop-k
invariant-loop-k l = pairs_verdict l.k (drop l.k l.claimed) (drop l.k l.real) ≡ pairs_verdict 0 l.claimed l.real
