use Rattle.std.proofs.Common.{◌+◌, ◌*◌, take, arith}
use Rattle.alw_num.proofs.Sums.{sums_small, has_four, found_in}
use Rattle.alw_num.proofs.place_counts.PlaceCounts.four.Goals as goal

pub one_of_four-requires-clause-small : goal.one_of_four-requires-clause-small
one_of_four-requires-clause-small c = sums_small 4 _ c.self.inside.fours c.self.invariant.by_four (4 * c.sixteen-sixteen.result.0 + 4) (omega (arith, c.self.invariant.counted, c.self.invariant.few)) c.self.invariant.small

pub one_of_four-requires-clause-below : goal.one_of_four-requires-clause-below
one_of_four-requires-clause-below c = has_four 4 _ c.self.inside.fours c.self.invariant.by_four 16 c.args.k c.sixteen-sixteen.result.0 c.sixteen-sixteen.result.1 (rw c.self.view_is c.sixteen-sixteen.ensures.part) (omega arith) (omega arith)

pub returns-clause-part : goal.returns-clause-part
returns-clause-part c =
    let s = c.self.inside in
    rw (← c.self.view_is) (found_in 4 (take s.places s.counts.items) s.fours c.self.invariant.by_four 16 c.args.k c.sixteen-sixteen.result.0 c.sixteen-sixteen.result.1 (rw c.self.view_is c.sixteen-sixteen.ensures.part)
    c.one_of_four.result.0 c.one_of_four.result.1 (omega arith) c.one_of_four.ensures.place)
