-- The parts of a delivery are put together.
use Rattle.std.proofs.Common.{◌≤◌, true, false, deque_capacity, refl, arith}
use Rattle.alw_memory.proofs.Entries.{home_line}
use Rattle.alw_memory.proofs.Events.{few, delivery_has_room, packet_has_room, with_line, delivery}
use Rattle.alw_memory.proofs.memories.Memory.deliver.Goals as goal

pub deliver-acted-requires-clause-few : goal.deliver-acted-requires-clause-few
deliver-acted-requires-clause-few c =
    few c.self.inside _ c.self.view_is c.self.invariant c.args.msg.now.line.0 _ c.place-place.ensures.place _ c.index_mut.ensures.value c.requires.home

pub deliver-acted-requires-clause-room : goal.deliver-acted-requires-clause-room
deliver-acted-requires-clause-room c =
    delivery_has_room c.self.inside _ c.self.view_is c.self.invariant c.args.msg.now _ c.place-place.ensures.place _ c.index_mut.ensures.value c.requires.home
    c.requires.from _ c.requires.begun

pub push_back_reserved-requires : goal.push_back_reserved-requires
push_back_reserved-requires c =
    let room = packet_has_room c.self.inside _ c.self.view_is c.self.invariant c.args.msg.now _ c.place-place.ensures.place _ c.index_mut.ensures.value
    c.requires.home c.requires.from _ c.requires.begun c.requires.free in
    omega (arith, room, c.self.inside.packets.ok.0)

pub invariant_of-self : goal.invariant_of-self
invariant_of-self c =
    (delivery c.self.inside _ c.self.view_is c.self.invariant c.args.msg.now _ c.place-place.ensures.place _ c.index_mut.ensures.value c.requires.home c.requires.from _
    c.requires.begun
    _ c.deliver-acted.new.entry _ false _ refl refl refl refl refl c.self.invariant.room c.requires.to_memory c.requires.free c.deliver-acted.ensures
    c.if-not-has_trapped.ensures).kept

pub returns-then-not-has_trapped : goal.returns-then-not-has_trapped
returns-then-not-has_trapped c =
    let after = with_line c.self.inside c.place-place.result (home_line c.deliver-acted.new.entry c.index_mut.result.now.always) in
    (delivery c.self.inside _ c.self.view_is c.self.invariant c.args.msg.now _ c.place-place.ensures.place _ c.index_mut.ensures.value c.requires.home c.requires.from _
    c.requires.begun
    after c.deliver-acted.new.entry _ false _ refl refl refl refl refl c.self.invariant.room c.requires.to_memory c.requires.free c.deliver-acted.ensures
    c.if-not-has_trapped.ensures).steps

pub invariant_of-self-2 : goal.invariant_of-self-2
invariant_of-self-2 c =
    let room : c.self.inside.per_node ≤ deque_capacity c.push_back_reserved.new.self =
    omega (arith, c.self.invariant.room, c.push_back_reserved.ensures.capacity) in
    (delivery c.self.inside _ c.self.view_is c.self.invariant c.args.msg.now _ c.place-place.ensures.place _ c.index_mut.ensures.value c.requires.home c.requires.from _
    c.requires.begun
    _ c.deliver-acted.new.entry _ true _ refl refl refl refl c.push_back_reserved.ensures.items room
    c.requires.to_memory c.requires.free c.deliver-acted.ensures c.if-not-has_trapped.ensures).kept

pub returns : goal.returns
returns c =
    let room : c.self.inside.per_node ≤ deque_capacity c.push_back_reserved.new.self =
    omega (arith, c.self.invariant.room, c.push_back_reserved.ensures.capacity) in
    let line = with_line c.self.inside c.place-place.result (home_line c.deliver-acted.new.entry c.index_mut.result.now.always) in
    (delivery c.self.inside _ c.self.view_is c.self.invariant c.args.msg.now _ c.place-place.ensures.place _ c.index_mut.ensures.value c.requires.home c.requires.from _
    c.requires.begun
    (record line { packets = c.push_back_reserved.new.self }) c.deliver-acted.new.entry _ true _ refl refl refl refl c.push_back_reserved.ensures.items room
    c.requires.to_memory c.requires.free c.deliver-acted.ensures c.if-not-has_trapped.ensures).steps
