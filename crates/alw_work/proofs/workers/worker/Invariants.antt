-- The pass is the queue's, and holds no number.
use Rattle.std.proofs.Common.{◌≡◌, None}
use Rattle.alw_work.proofs.workers.worker.Given as goal

abbrev pub invariant-loop : goal.invariant-loop
invariant-loop g l = record { queue : l.pass.queue ≡ l.ready; empty : l.pass.node ≡ None }
