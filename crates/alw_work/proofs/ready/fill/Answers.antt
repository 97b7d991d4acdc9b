-- Each number that is put in keeps the rule, and there is room for it.
use Rattle.std.proofs.Common.{◌<◌, arith}
use Rattle.alw_work.proofs.Fairness.{adds, adds_room}
use Rattle.alw_work.proofs.ready.fill.Goals as goal

pub push_as-requires-clause-rule : goal.push_as-requires-clause-rule
push_as-requires-clause-rule g c =
    let nodes = g.I.Counting.nodes in
    let filled = c.loop-number.invariant.2 in
    let below : c.loop-number.number < nodes = omega (arith, c.loop-number-test.true, c.requires.counted) in
    rw (c.loop-number.invariant.1) (adds nodes _ _ filled below _, adds_room nodes _ _ filled below)
