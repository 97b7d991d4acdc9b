use Rattle.std.proofs.Common.{◌≡◌, true, not, length, sym, ap, ◌∙◌, arith}
use Rattle.std.specs.List.{list_any}
use Rattle.std.proofs.lemmas.List.{take_all}
use Rattle.alw_msg.specs.Lists.{is_nonempty}
use Rattle.mesh_route.specs.Meshes.{Mesh}
use Rattle.mesh_route.specs.Deliveries.{is_idle}
use Rattle.mesh_route.proofs.Runs.{delivers}
use Rattle.mesh_route.proofs.hops.Hops.empty.Goals as goal

pub returns-clause-delivered : goal.returns-clause-delivered
returns-clause-delivered c =
    let size = ap (λ (m : Mesh). length m.queues) c.self.view_is in
    let read = ap length c.deref-queue-items.ensures.value in
    let whole = take_all c.loop-queue.queue-index c.args.self.now.queues (omega arith) in
    let none : is_idle c.args.self.now ≡ true = ap not (sym (ap (list_any is_nonempty) whole) ∙ c.loop-queue.invariant) in
    λ idle acts is. delivers acts c.args.self.now is none
