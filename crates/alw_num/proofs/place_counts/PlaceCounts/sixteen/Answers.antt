use Rattle.std.proofs.Common.{◌+◌, ◌*◌, take, arith}
use Rattle.alw_num.proofs.Sums.{sums_small, has_four, found_in}
use Rattle.alw_num.proofs.place_counts.PlaceCounts.sixteen.Goals as goal

pub one_of_four-requires-clause-small : goal.one_of_four-requires-clause-small
one_of_four-requires-clause-small c = sums_small 16 _ c.self.inside.sixteens c.self.invariant.by_sixteen (4 * c.quarter-quarter.result.0 + 4) (omega (arith, c.self.invariant.counted, c.self.invariant.few)) c.self.invariant.small

pub one_of_four-requires-clause-below : goal.one_of_four-requires-clause-below
one_of_four-requires-clause-below c = has_four 16 _ c.self.inside.sixteens c.self.invariant.by_sixteen 64 c.args.k c.quarter-quarter.result.0 c.quarter-quarter.result.1 (rw c.self.view_is c.quarter-quarter.ensures.part) (omega arith) (omega arith)

pub returns-clause-part : goal.returns-clause-part
returns-clause-part c =
    let s = c.self.inside in
    rw (← c.self.view_is) (found_in 16 (take s.places s.counts.items) s.sixteens c.self.invariant.by_sixteen 64 c.args.k c.quarter-quarter.result.0 c.quarter-quarter.result.1 (rw c.self.view_is c.quarter-quarter.ensures.part)
    c.one_of_four.result.0 c.one_of_four.result.1 (omega arith) c.one_of_four.ensures.place)
