use Rattle.std.proofs.Common.{◌+◌, ◌*◌, take, arith}
use Rattle.alw_num.proofs.Sums.{sums_small, has_four, found_in, in_one, place_exists}
use Rattle.alw_num.proofs.place_counts.PlaceCounts.find.Goals as goal

pub one_of_four-requires-clause-small : goal.one_of_four-requires-clause-small
one_of_four-requires-clause-small c =
    let s = c.self.inside in
    rw c.deref.ensures.value (sums_small 1 (take s.places s.counts.items) s.counts.items c.self.invariant.by_one (4 * c.four-four.result.0 + 4) (omega (arith, c.self.invariant.counted, c.self.invariant.few)) c.self.invariant.small)

pub one_of_four-requires-clause-below : goal.one_of_four-requires-clause-below
one_of_four-requires-clause-below c =
    let s = c.self.inside in
    rw c.deref.ensures.value (has_four 1 (take s.places s.counts.items) s.counts.items c.self.invariant.by_one 4 c.args.k c.four-four.result.0 c.four-four.result.1 (rw c.self.view_is c.four-four.ensures.part) (omega arith) (omega arith))

pub returns-clause-place : goal.returns-clause-place
returns-clause-place c =
    let s = c.self.inside in
    let found = rw c.deref.ensures.value at c.one_of_four.ensures.place in
    rw (← c.self.view_is) (in_one (take s.places s.counts.items) c.args.k c.one_of_four.result.0 c.one_of_four.result.1
    (found_in 1 (take s.places s.counts.items) s.counts.items c.self.invariant.by_one 4 c.args.k c.four-four.result.0 c.four-four.result.1 (rw c.self.view_is c.four-four.ensures.part)
    c.one_of_four.result.0 c.one_of_four.result.1 (omega arith) found))

pub returns-clause-within : goal.returns-clause-within
returns-clause-within c = place_exists c.args.self.now c.args.k c.one_of_four.result.0 c.one_of_four.result.1 (returns-clause-place c)
