-- The node joins at the line's place, or the line gets one.
use Rattle.std.proofs.Common.{arith}
use Rattle.dir_soft.proofs.Pools.{chain_is, IsLookUp, finds, misses, bucket-lt, joins, same_table}
use Rattle.dir_soft.proofs.Moves.{opens_at, free_is, all_used, has_room, loose_within}
use Rattle.dir_soft.proofs.tables.SoftDir.add.Goals as goal

pub find-requires : goal.find-requires
find-requires c = rw (c.deref.ensures.value) (chain_is _ _ _ _ _ _ c.index.result.now c.self.invariant.0 (omega (arith, bucket-lt c.args.line.0 c.self.inside.buckets c.self.invariant.0.some)) c.index.ensures)

pub invariant_of-self : goal.invariant_of-self
invariant_of-self c =
    let look : IsLookUp c.self.inside.places.items c.index.result.now c.args.line.0 c.in-Some.spot = rw (← c.deref.ensures.value) (record { found = c.in-Some.ensures.found; line_is = c.in-Some.ensures.line; within = c.in-Some.ensures.within }) in
    let at = finds _ _ _ _ _ c.self.invariant.0 c.args.line.0 c.index.result.now c.in-Some.spot c.index-place.result.now c.index.ensures look c.index-place.ensures in
    let made = joins _ _ _ _ _ c.self.invariant.0 c.args.line.0 c.args.node.0 c.in-Some.spot c.index-place.result.now c.with.result at c.with.ensures c.index-place.ensures in
    (made.table_is, c.self.invariant.1)

pub returns-in-Some : goal.returns-in-Some
returns-in-Some c =
    let look : IsLookUp c.self.inside.places.items c.index.result.now c.args.line.0 c.in-Some.spot = rw (← c.deref.ensures.value) (record { found = c.in-Some.ensures.found; line_is = c.in-Some.ensures.line; within = c.in-Some.ensures.within }) in
    let at = finds _ _ _ _ _ c.self.invariant.0 c.args.line.0 c.index.result.now c.in-Some.spot c.index-place.result.now c.index.ensures look c.index-place.ensures in
    let made = joins _ _ _ _ _ c.self.invariant.0 c.args.line.0 c.args.node.0 c.in-Some.spot c.index-place.result.now c.with.result at c.with.ensures c.index-place.ensures in
    rw (← c.self.view_is) (same_table _ _ _ _ made.map_is)

pub free_place-at-requires-clause-first : goal.free_place-at-requires-clause-first
free_place-at-requires-clause-first c = λ open_end. (free_is _ _ _ _ _ c.self.invariant.0 open_end).within

pub free_place-at-requires-clause-room : goal.free_place-at-requires-clause-room
free_place-at-requires-clause-room c = λ ended.
    let none = misses _ _ _ _ _ c.self.invariant.0 c.args.line.0 c.index.result.now c.index.ensures (rw c.deref.ensures.value at c.in-None.ensures.none) in
    let room = has_room _ _ _ _ _ c.self.invariant.0 c.args.line.0 none (rw (← c.self.view_is) at c.requires.room) in
    omega (arith, all_used _ _ _ _ _ c.self.invariant.0 ended, room, c.self.invariant.1)

pub link-requires-clause-at : goal.link-requires-clause-at
link-requires-clause-at c = loose_within _ _ _ _ _ c.self.invariant.0 _ _ _ c.free_place-at.ensures.place

pub overflow_add-self : goal.overflow_add-self
overflow_add-self c =
    let none = misses _ _ _ _ _ c.self.invariant.0 c.args.line.0 c.index.result.now c.index.ensures (rw c.deref.ensures.value at c.in-None.ensures.none) in
    let room = has_room _ _ _ _ _ c.self.invariant.0 c.args.line.0 none (rw (← c.self.view_is) at c.requires.room) in
    omega (arith, room, c.self.invariant.0.few)

pub invariant_of-self-in-None : goal.invariant_of-self-in-None
invariant_of-self-in-None c =
    let none = misses _ _ _ _ _ c.self.invariant.0 c.args.line.0 c.index.result.now c.index.ensures (rw c.deref.ensures.value at c.in-None.ensures.none) in
    let room = has_room _ _ _ _ _ c.self.invariant.0 c.args.line.0 none (rw (← c.self.view_is) at c.requires.room) in
    let made = opens_at _ _ _ _ _ c.self.invariant.0 c.args.line.0 c.args.node.0 _ c.with-nodes.result _ _ _ room none c.empty.ensures c.with-nodes.ensures c.free_place-at.ensures.place in
    rw (c.link.ensures.heads, c.link.ensures.places) (made.table_is, omega (arith, c.self.invariant.1, c.free_place-at.ensures.memory, c.link.ensures.memory))

pub returns-in-None : goal.returns-in-None
returns-in-None c =
    let none = misses _ _ _ _ _ c.self.invariant.0 c.args.line.0 c.index.result.now c.index.ensures (rw c.deref.ensures.value at c.in-None.ensures.none) in
    let room = has_room _ _ _ _ _ c.self.invariant.0 c.args.line.0 none (rw (← c.self.view_is) at c.requires.room) in
    let made = opens_at _ _ _ _ _ c.self.invariant.0 c.args.line.0 c.args.node.0 _ c.with-nodes.result _ _ _ room none c.empty.ensures c.with-nodes.ensures c.free_place-at.ensures.place in
    rw (← c.self.view_is, c.link.ensures.places) (same_table _ _ _ _ made.map_is)
