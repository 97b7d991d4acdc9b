-- The line's place becomes free, or there is none.
use Rattle.std.proofs.Common.{◌%◌, sym, arith}
use Rattle.dir_soft.specs.Pools.{contents}
use Rattle.dir_soft.proofs.Entries.{without_none}
use Rattle.dir_soft.proofs.Pools.{chain_is, IsLookUp, finds, misses, bucket-lt, set_seen, set_missing, same_table}
use Rattle.dir_soft.proofs.Moves.{before_within, leaves, long_unlinked, some_used}
use Rattle.dir_soft.proofs.tables.SoftDir.take.Goals as goal

pub find-requires : goal.find-requires
find-requires c = rw (c.deref.ensures.value) (chain_is _ _ _ _ _ _ c.index.result.now c.self.invariant.0 (omega (arith, bucket-lt c.args.line.0 c.self.inside.buckets c.self.invariant.0.some)) c.index.ensures)

pub unlink-requires-clause-before : goal.unlink-requires-clause-before
unlink-requires-clause-before c =
    let look : IsLookUp c.self.inside.places.items c.index.result.now c.args.line.0 c.in-Some.spot = rw (← c.deref.ensures.value) (record { found = c.in-Some.ensures.found; line_is = c.in-Some.ensures.line; within = c.in-Some.ensures.within }) in
    let at = finds _ _ _ _ _ c.self.invariant.0 c.args.line.0 c.index.result.now c.in-Some.spot c.index-in-Some.result.now c.index.ensures look c.index-in-Some.ensures in
    before_within _ _ _ c.in-Some.spot (c.self.invariant.0.linked.paths _ at.bucket) at.on

pub link-requires-clause-at : goal.link-requires-clause-at
link-requires-clause-at c =
    let long = long_unlinked (c.args.line.0 % c.self.inside.buckets) c.self.inside.heads.items c.self.inside.places.items c.in-Some.spot.at c.in-Some.spot.before (c.unlink.new.heads.items, c.unlink.new.places.items) c.unlink.ensures.chains in
    omega (arith, long.1, rw c.deref.ensures.value at c.in-Some.ensures.within)

pub overflow_sub-self : goal.overflow_sub-self
overflow_sub-self c =
    let look : IsLookUp c.self.inside.places.items c.index.result.now c.args.line.0 c.in-Some.spot = rw (← c.deref.ensures.value) (record { found = c.in-Some.ensures.found; line_is = c.in-Some.ensures.line; within = c.in-Some.ensures.within }) in
    let at = finds _ _ _ _ _ c.self.invariant.0 c.args.line.0 c.index.result.now c.in-Some.spot c.index-in-Some.result.now c.index.ensures look c.index-in-Some.ensures in
    some_used _ _ _ _ _ c.self.invariant.0 c.args.line.0 c.in-Some.spot c.index-in-Some.result.now at

pub invariant_of-self : goal.invariant_of-self
invariant_of-self c =
    let look : IsLookUp c.self.inside.places.items c.index.result.now c.args.line.0 c.in-Some.spot = rw (← c.deref.ensures.value) (record { found = c.in-Some.ensures.found; line_is = c.in-Some.ensures.line; within = c.in-Some.ensures.within }) in
    let at = finds _ _ _ _ _ c.self.invariant.0 c.args.line.0 c.index.result.now c.in-Some.spot c.index-in-Some.result.now c.index.ensures look c.index-in-Some.ensures in
    let made = leaves _ _ _ _ _ c.self.invariant.0 c.args.line.0 c.in-Some.spot c.index-in-Some.result.now _ _ at c.empty-nobody.ensures c.unlink.ensures.chains in
    (rw (c.link.ensures.heads, c.link.ensures.places) made.table_is, omega (arith, c.self.invariant.1, c.unlink.ensures.memory, c.link.ensures.memory))

pub returns-in-Some-clause-set : goal.returns-in-Some-clause-set
returns-in-Some-clause-set c =
    let look : IsLookUp c.self.inside.places.items c.index.result.now c.args.line.0 c.in-Some.spot = rw (← c.deref.ensures.value) (record { found = c.in-Some.ensures.found; line_is = c.in-Some.ensures.line; within = c.in-Some.ensures.within }) in
    let at = finds _ _ _ _ _ c.self.invariant.0 c.args.line.0 c.index.result.now c.in-Some.spot c.index-in-Some.result.now c.index.ensures look c.index-in-Some.ensures in
    rw (← c.self.view_is) (set_seen _ _ _ _ _ c.self.invariant.0 c.args.line.0 c.in-Some.spot c.index-in-Some.result.now at)

pub returns-in-Some-clause-table : goal.returns-in-Some-clause-table
returns-in-Some-clause-table c =
    let look : IsLookUp c.self.inside.places.items c.index.result.now c.args.line.0 c.in-Some.spot = rw (← c.deref.ensures.value) (record { found = c.in-Some.ensures.found; line_is = c.in-Some.ensures.line; within = c.in-Some.ensures.within }) in
    let at = finds _ _ _ _ _ c.self.invariant.0 c.args.line.0 c.index.result.now c.in-Some.spot c.index-in-Some.result.now c.index.ensures look c.index-in-Some.ensures in
    let made = leaves _ _ _ _ _ c.self.invariant.0 c.args.line.0 c.in-Some.spot c.index-in-Some.result.now _ _ at c.empty-nobody.ensures c.unlink.ensures.chains in
    rw (← c.self.view_is, c.link.ensures.places) (same_table _ _ _ _ made.map_is)

pub returns-in-None-clause-set : goal.returns-in-None-clause-set
returns-in-None-clause-set c =
    let none = misses _ _ _ _ _ c.self.invariant.0 c.args.line.0 c.index.result.now c.index.ensures (rw c.deref.ensures.value at c.in-None.ensures.none) in
    rw (← c.self.view_is) (set_missing c.self.inside.places.items c.args.line.0 _ none c.empty.ensures)

pub returns-in-None-clause-table : goal.returns-in-None-clause-table
returns-in-None-clause-table c =
    let none = misses _ _ _ _ _ c.self.invariant.0 c.args.line.0 c.index.result.now c.index.ensures (rw c.deref.ensures.value at c.in-None.ensures.none) in
    rw (← c.self.view_is) (same_table _ _ _ _ (sym (without_none (contents c.self.inside.places.items) c.args.line.0 none)))
