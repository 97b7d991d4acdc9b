-- No number so far has the digest.
use Rattle.std.proofs.Common.{length}
use Rattle.alw_outcomes.specs.Tables.{digests_of}
use Rattle.alw_outcomes.proofs.Chaining.{IsAlong}
use Rattle.alw_outcomes.proofs.tables.along.Given as goal

abbrev pub invariant-loop-rest : goal.invariant-loop-rest
invariant-loop-rest l = IsAlong (digests_of l.marks) (length l.heads) l.digest l.from l.rest

abbrev pub decreases-loop-rest : goal.decreases-loop-rest
decreases-loop-rest l = l.rest
