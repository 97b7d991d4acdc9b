-- The set at the line's place, which is in use, or none.
use Rattle.dir_soft.proofs.Pools.{chain_is, IsLookUp, finds, misses, bucket-lt, value_seen, value_missing, has_member}
use Rattle.std.proofs.Common.{arith}
use Rattle.dir_soft.proofs.tables.SoftDir.lookup.Goals as goal

pub find-requires : goal.find-requires
find-requires c = rw (c.deref.ensures.value) (chain_is _ _ _ _ _ _ c.index.result.now c.self.invariant.0 (omega (arith, bucket-lt c.args.line.0 c.self.inside.buckets c.self.invariant.0.some)) c.index.ensures)

pub returns-in-Some : goal.returns-in-Some
returns-in-Some c =
    let look : IsLookUp c.self.inside.places.items c.index.result.now c.args.line.0 c.in-Some.spot = rw (← c.deref.ensures.value) (record { found = c.in-Some.ensures.found; line_is = c.in-Some.ensures.line; within = c.in-Some.ensures.within }) in
    let at = finds _ _ _ _ _ c.self.invariant.0 c.args.line.0 c.index.result.now c.in-Some.spot c.index-in-Some.result.now c.index.ensures look c.index-in-Some.ensures in
    record {
      set = rw (← c.self.view_is) (value_seen _ _ _ _ _ c.self.invariant.0 c.args.line.0 c.in-Some.spot c.index-in-Some.result.now at);
      nonempty = has_member c.index-in-Some.result.now at.used_place;
    }

pub returns-in-None : goal.returns-in-None
returns-in-None c =
    let none = misses _ _ _ _ _ c.self.invariant.0 c.args.line.0 c.index.result.now c.index.ensures (rw c.deref.ensures.value at c.in-None.ensures.none) in
    record { set = rw (← c.self.view_is) (value_missing c.self.inside.places.items c.args.line.0 none); nonempty = tt }
