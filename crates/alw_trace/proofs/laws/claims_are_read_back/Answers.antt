use Rattle.alw_trace.proofs.OneClaim.{no_claim_fault}
use Rattle.alw_trace.proofs.OneFault.{one_claim_fault}
use Rattle.alw_trace.proofs.laws.claims_are_read_back.Goals as goal

pub returns-clause-formed : goal.returns-clause-formed
returns-clause-formed c = no_claim_fault

pub returns-clause-fault : goal.returns-clause-fault
returns-clause-fault c = one_claim_fault
