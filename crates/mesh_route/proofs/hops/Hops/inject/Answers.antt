use Rattle.std.proofs.Common.{[], ◌<◌, length, sym, subst}
use Rattle.std.proofs.lemmas.List.{get_or_read}
use Rattle.mesh_route.specs.declared.ports.Port.TheVariants.{Local}
use Rattle.mesh_route.specs.Meshes.{Mesh, count_of}
use Rattle.mesh_route.proofs.QueuePlaces.{place_below}
use Rattle.mesh_route.proofs.Moves.{injected}
use Rattle.mesh_route.proofs.hops.Hops.inject.Goals as goal

pub invariant_of-self-2 : goal.invariant_of-self-2
invariant_of-self-2 c =
    let from = subst (λ (m : Mesh). c.args.from.0 < count_of m) (sym c.self.view_is) c.requires.from in
    let to = subst (λ (m : Mesh). c.args.to.0 < count_of m) (sym c.self.view_is) c.requires.to in
    let few = subst (λ (m : Mesh). m.injected < 4294967295) (sym c.self.view_is) c.requires.few in
    let fits : c.queue_place-place.result < length c.self.inside.queues.items = rw (c.queue_place-place.ensures, c.self.invariant.carried.queues_are)
    (place_below c.args.from.0 _ Local from) in
    let read = get_or_read c.self.inside.queues.items c.queue_place-place.result c.index_mut.result.now fits c.index_mut.ensures.value [] in
    rw (c.in_ok-push.ensures.ok, read, c.queue_place-place.ensures) (injected _ _ c.self.invariant from to few)
