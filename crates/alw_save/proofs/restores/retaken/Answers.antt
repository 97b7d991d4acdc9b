-- The trace that is taken is the one with this evict.
use Rattle.std.proofs.Common.{subst}
use Rattle.alw_trace.specs.declared.values.Trace.{Trace}
use Rattle.alw_save.specs.Cuts.{LeavesAll}
use Rattle.alw_save.proofs.restores.retaken.Goals as goal

pub returns : goal.returns
returns c = subst (λ (t : Trace). LeavesAll t c.machine_of.result) c.with_evict.ensures c.machine_of.ensures
