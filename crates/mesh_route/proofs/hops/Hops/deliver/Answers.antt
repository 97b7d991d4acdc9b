use Rattle.std.proofs.Common.{[], arith}
use Rattle.std.proofs.lemmas.List.{get_or_read}
use Rattle.mesh_route.proofs.Moves.{queue_fits, pair_fits, arrivals_few, arrived}
use Rattle.mesh_route.proofs.hops.Hops.deliver.Goals as goal

pub index_mut-requires-2 : goal.index_mut-requires-2
index_mut-requires-2 c =
    let pair = rw (c.from.ensures, c.from-2.ensures) at c.pair_place-pair.ensures in
    let fits = pair_fits _ c.self.invariant _ c.self.view_is _ _ _ c.requires.head c.requires.last _ pair in
    omega (arith, fits)

pub arrive-requires : goal.arrive-requires
arrive-requires c =
    let pair = rw (c.from.ensures, c.from-2.ensures) at c.pair_place-pair.ensures in
    arrivals_few _ c.self.invariant _ c.self.view_is _ _ _ c.requires.head c.requires.last _ pair _ c.index_mut-2.ensures.value

pub invariant_of-self-2 : goal.invariant_of-self-2
invariant_of-self-2 c =
    let pair = rw (c.from.ensures, c.from-2.ensures) at c.pair_place-pair.ensures in
    let in_queues = queue_fits _ c.self.invariant _ c.self.view_is _ _ _ c.requires.head _ c.queue_place-queue.ensures in
    let in_arrivals = pair_fits _ c.self.invariant _ c.self.view_is _ _ _ c.requires.head c.requires.last _ pair in
    let queue = get_or_read c.self.inside.queues.items c.queue_place-queue.result c.index_mut.result.now in_queues c.index_mut.ensures.value [] in
    let list = get_or_read c.self.inside.arrivals.items c.pair_place-pair.result c.index_mut-2.result.now in_arrivals c.index_mut-2.ensures.value [] in
    rw (c.in_ok-arrive.ensures.queue, c.in_ok-arrive.ensures.list, queue, list, c.queue_place-queue.ensures, pair)
    (arrived _ c.self.invariant _ c.self.view_is _ _ _ c.requires.head c.requires.last)
