-- All lists are there, and empty.
use Rattle.std.proofs.Common.{◌≡◌, length, arith}
use Rattle.alw_work.proofs.Layings.{columns_start}
use Rattle.alw_work.proofs.laying.columns.Goals as goal

pub returns : goal.returns
returns c =
    let ins = c.loop-alloc.ins.items in
    let count : length ins ≡ c.args.nodes = omega
    (arith, c.loop-alloc.invariant.few, c.loop-alloc-test.false, c.from.ensures, c.len.ensures, c.loop-alloc.ins.ok.0) in
    columns_start c.args.nodes ins count c.loop-alloc.invariant.empty
