-- The handler's parts are put together.
use Rattle.std.proofs.Common.{◌-◌, ◌≤◌, deque_capacity, refl, arith}
use Rattle.alw_memory.proofs.Entries.{home_line}
use Rattle.alw_memory.proofs.Events.{front_is, front_place, is_progress, set_has_room, handler_has_room, with_line, handling}
use Rattle.alw_memory.proofs.memories.Memory.handle.Goals as goal

pub overflow_sub-place : goal.overflow_sub-place
overflow_sub-place c = (front_place c.self.inside _ c.self.view_is c.self.invariant c.in-Some.packet _ c.in-Some.ensures.items).0

pub index_mut-home-requires : goal.index_mut-home-requires
index_mut-home-requires c =
    let place = front_place c.self.inside _ c.self.view_is c.self.invariant c.in-Some.packet _ c.in-Some.ensures.items in
    omega (arith, place.1, c.self.inside.homes.ok.0)

pub handle-requires-clause-progress : goal.handle-requires-clause-progress
handle-requires-clause-progress c =
    is_progress c.self.inside _ c.self.view_is c.self.invariant c.in-Some.packet _ c.in-Some.ensures.items _ c.index_mut-home.ensures.value

pub handle-requires-clause-to_memory : goal.handle-requires-clause-to_memory
handle-requires-clause-to_memory c = (front_is c.self.inside _ c.self.view_is c.self.invariant c.in-Some.packet _ c.in-Some.ensures.items).to_memory

pub handle-requires-clause-free : goal.handle-requires-clause-free
handle-requires-clause-free c =
    set_has_room c.self.inside _ c.self.view_is c.self.invariant c.in-Some.packet _ c.in-Some.ensures.items _ c.index_mut-home.ensures.value

pub handle-requires-clause-room : goal.handle-requires-clause-room
handle-requires-clause-room c =
    handler_has_room c.self.inside _ c.self.view_is c.self.invariant c.in-Some.packet _ c.in-Some.ensures.items _
    c.index_mut-home.ensures.value _ c.requires.begun

pub invariant_of-self-2 : goal.invariant_of-self-2
invariant_of-self-2 c =
    let room : c.self.inside.per_node ≤ deque_capacity c.pop_front.new.self = omega (arith, c.self.invariant.room, c.in-Some.ensures.capacity) in
    (handling c.self.inside _ c.self.view_is c.self.invariant c.in-Some.packet _ c.in-Some.ensures.items _ c.index_mut-home.ensures.value _
    c.requires.begun
    _ c.handle.new.entry _ refl refl refl refl room c.handle.ensures).kept

pub returns : goal.returns
returns c =
    let room : c.self.inside.per_node ≤ deque_capacity c.pop_front.new.self = omega (arith, c.self.invariant.room, c.in-Some.ensures.capacity) in
    let line = with_line c.self.inside (c.in-Some.packet.line.0 - c.self.inside.first) (home_line c.handle.new.entry c.index_mut-home.result.now.always) in
    (handling c.self.inside _ c.self.view_is c.self.invariant c.in-Some.packet _ c.in-Some.ensures.items _ c.index_mut-home.ensures.value _
    c.requires.begun
    (record line { soft = c.handle.new.soft; packets = c.pop_front.new.self }) c.handle.new.entry _ refl refl refl refl room c.handle.ensures).steps
