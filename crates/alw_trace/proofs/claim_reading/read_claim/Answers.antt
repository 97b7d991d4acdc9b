use Rattle.alw_trace.proofs.ClaimAnswers.{answers, typed}
use Rattle.alw_trace.proofs.claim_reading.read_claim.Goals as goal

pub returns-clause-read : goal.returns-clause-read
returns-clause-read c = answers _ _ _ c.in_ok-lines.ensures.ok c.claim_of.ensures.ok c.claim_of.ensures.err

pub returns-clause-types : goal.returns-clause-types
returns-clause-types c = typed _ _ _ c.in_ok-lines.ensures.ok c.claim_of.ensures.ok
