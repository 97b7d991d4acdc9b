-- The walk along the sorted list.
use Rattle.std.proofs.Common.{arith}
use Rattle.alw_outcomes.proofs.Sorting.{way_none, rising, keyed_sorted, way_all}
use Rattle.alw_outcomes.proofs.endings.one_of_each.Goals as goal

pub loop-i-init : goal.loop-i-init
loop-i-init c = λ key keyed. way_none key c.sort_unstable.new.self.items c.new-kept.result.items c.new-kept.ensures.items

pub loop-i-preserved : goal.loop-i-preserved
loop-i-preserved c = λ key keyed. (rw c.deref.ensures.value at c.in_ok-keep_new.ensures) key keyed (rising c.sort_unstable.new.self.items c.sort_unstable.ensures.sorted) (c.loop-i.invariant key keyed)

pub returns : goal.returns
returns c = λ key keyed.
    way_all key c.args.keyed.items c.sort_unstable.new.self.items c.loop-i.i c.loop-i.kept.items c.sort_unstable.ensures.permutation
    (omega (arith, c.loop-i-test.false, c.len-i-end.ensures, c.sort_unstable.new.self.ok.0)) keyed
    (c.loop-i.invariant key (keyed_sorted key c.args.keyed.items c.sort_unstable.new.self.items c.sort_unstable.ensures.permutation keyed))
