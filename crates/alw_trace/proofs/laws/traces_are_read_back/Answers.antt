use Rattle.alw_trace.proofs.OneFault.{one_trace_fault}
use Rattle.alw_trace.proofs.OneTrace.{no_trace_fault}
use Rattle.alw_trace.proofs.laws.traces_are_read_back.Goals as goal

pub returns-clause-formed : goal.returns-clause-formed
returns-clause-formed c = no_trace_fault

pub returns-clause-fault : goal.returns-clause-fault
returns-clause-fault c = one_trace_fault
