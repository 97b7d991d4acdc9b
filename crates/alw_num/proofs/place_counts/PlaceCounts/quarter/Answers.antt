use Rattle.std.proofs.Common.{◌+◌, take, arith}
use Rattle.alw_num.proofs.Sums.{sums_small, in_all, has_all, in_part}
use Rattle.alw_num.proofs.place_counts.PlaceCounts.quarter.Goals as goal

pub returns-then-self-le64-clause-part : goal.returns-then-self-le64-clause-part
returns-then-self-le64-clause-part c =
    let s = c.self.inside in
    rw (← c.self.view_is) (in_all (take s.places s.counts.items) 64 c.args.k (omega (arith, c.self.invariant.counted)) (rw c.self.view_is c.requires))

pub one_of_four-requires-clause-small : goal.one_of_four-requires-clause-small
one_of_four-requires-clause-small c =
    let s = c.self.inside in
    sums_small 64 (take s.places s.counts.items) s.quarters c.self.invariant.by_quarter (0 + 4) (omega (arith, c.self.invariant.counted, c.self.invariant.few)) c.self.invariant.small

pub one_of_four-requires-clause-below : goal.one_of_four-requires-clause-below
one_of_four-requires-clause-below c =
    let s = c.self.inside in
    has_all 64 (take s.places s.counts.items) s.quarters c.self.invariant.by_quarter 4 c.args.k (omega (arith, c.self.invariant.counted, c.self.invariant.few)) (rw c.self.view_is c.requires)

pub returns-clause-part : goal.returns-clause-part
returns-clause-part c =
    let s = c.self.inside in
    rw (← c.self.view_is) (in_part 64 (take s.places s.counts.items) s.quarters c.self.invariant.by_quarter _ c.args.k c.one_of_four.result.0 c.one_of_four.result.1 (omega arith) c.one_of_four.ensures.place)
