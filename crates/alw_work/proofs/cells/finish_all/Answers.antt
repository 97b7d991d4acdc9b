-- The next cell is spent, and the others are as they were.
use Rattle.std.proofs.Common.{◌≡◌, ◌<◌, length, refl, arith}
use Rattle.std.proofs.lemmas.Option.{slice_get_read}
use Rattle.alw_work.proofs.Finishing.{finished_next, finished_all}
use Rattle.alw_work.proofs.cells.finish_all.Goals as goal

pub loop-n-preserved : goal.loop-n-preserved
loop-n-preserved c =
    let cells = c.loop-n.cells.items in
    let below : c.loop-n.n < length cells = omega (arith, c.loop-n-test.true, c.len-n-end.ensures, c.loop-n.invariant.count, c.args.cells.now.ok.0) in
    let here = slice_get_read cells _ c.loop-n.n c.index_mut.result.now refl below c.index_mut.ensures.value in
    finished_next c.loop-n.n c.args.cells.now.items cells c.index_mut.result.now c.finish.new.cell here c.loop-n.invariant c.in_ok-finish.ensures

pub returns : goal.returns
returns c =
    let cells = c.loop-n.cells.items in
    let counts = c.loop-n.invariant.count in
    let all : c.loop-n.n ≡ length cells = omega (arith, c.loop-n-test.false, c.loop-n.auto.n-end, c.len-n-end.ensures, counts, c.args.cells.now.ok.0) in
    finished_all c.loop-n.n c.args.cells.now.items cells all c.loop-n.invariant
