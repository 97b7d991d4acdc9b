use Rattle.std.proofs.Common.{◌≡◌, false, take}
use Rattle.std.specs.List.{list_any}
use Rattle.alw_msg.specs.Lists.{is_nonempty}
use Rattle.mesh_route.proofs.hops.Hops.empty.Given as goal

abbrev pub invariant-loop-queue : goal.invariant-loop-queue
invariant-loop-queue l = list_any is_nonempty (take l.queue-index l.self.queues) ≡ false
