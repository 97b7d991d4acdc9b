use Rattle.std.proofs.Common.{arith}
use Rattle.std.proofs.lemmas.List.{get_or_read}
use Rattle.mesh_route.proofs.Moves.{next_fits, places_differ, wire_fits, crossings_few, passed}
use Rattle.mesh_route.proofs.hops.Hops.forward.Goals as goal

pub pass-requires-clause-to : goal.pass-requires-clause-to
pass-requires-clause-to c =
    next_fits _ c.self.invariant _ c.self.view_is _ _ _ c.requires.head _ c.requires.next _ c.port_from.result c.queue_place-to.ensures

pub pass-requires-clause-apart : goal.pass-requires-clause-apart
pass-requires-clause-apart c =
    rw (c.queue_place-from.ensures, c.queue_place-to.ensures)
    (places_differ _ c.self.invariant _ c.self.view_is _ _ _ c.requires.head _ c.requires.next c.port_from.result)

pub index_mut-requires : goal.index_mut-requires
index_mut-requires c =
    let wire = rw (c.from.ensures, c.from-2.ensures) at c.pair_place-wire.ensures in
    let fits = wire_fits _ c.self.invariant _ c.self.view_is _ _ _ c.requires.head _ c.requires.next _ wire in
    omega (arith, fits)

pub overflow_add-index_mut : goal.overflow_add-index_mut
overflow_add-index_mut c =
    let wire = rw (c.from.ensures, c.from-2.ensures) at c.pair_place-wire.ensures in
    let few = crossings_few _ c.self.invariant _ c.self.view_is _ _ _ c.requires.head _ c.requires.next _ wire _ c.index_mut.ensures.value in
    omega (arith, few)

pub invariant_of-self-2 : goal.invariant_of-self-2
invariant_of-self-2 c =
    let wire = rw (c.from.ensures, c.from-2.ensures) at c.pair_place-wire.ensures in
    let fits = wire_fits _ c.self.invariant _ c.self.view_is _ _ _ c.requires.head _ c.requires.next _ wire in
    let read = get_or_read c.self.inside.crossings.items c.pair_place-wire.result c.index_mut.result.now fits c.index_mut.ensures.value 0 in
    rw (
      c.in_ok-pass.ensures.ok,
      read,
      wire,
      c.queue_place-from.ensures,
      c.queue_place-to.ensures,
      c.port_from.ensures,
    )
    (passed _ c.self.invariant _ c.self.view_is _ _ _ c.requires.head _ c.requires.next)
