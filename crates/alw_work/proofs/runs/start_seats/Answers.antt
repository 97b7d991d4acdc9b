-- The next node gets its ends, and empty lists stand in their place.
use Rattle.std.proofs.Common.{◌≡◌, ◌<◌, ◌∙◌, length, slice_get, Some, refl, sym, subst, arith}
use Rattle.std.proofs.lemmas.Option.{slice_get_read}
use Rattle.std.specs.Global.{Vec}
use Rattle.alw_image.specs.Images.{node_count}
use Rattle.alw_work.specs.declared.ends.Out.{Out}
use Rattle.alw_work.specs.declared.ends.In.{In}
use Rattle.alw_work.specs.Ties.{AreTiedOuts, AreTiedIns}
use Rattle.alw_work.proofs.Finishing.{set_length, each_given}
use Rattle.alw_work.proofs.Layings.{RowIsNew, ColumnIsNew, rows_at_start, columns_at_start, outs_start, ins_start}
use Rattle.alw_work.proofs.runs.start_seats.Goals as goal

pub loop-n-init : goal.loop-n-init
loop-n-init g c =
    let links = g.I.Naming.links in
    let nodes = node_count c.args.image.now in
    record {
      rows = c.requires.rows;
      columns = c.requires.ins.count;
      outs = rows_at_start links nodes c.args.outs.items c.requires.outs;
      ins = columns_at_start links nodes c.args.ins.items c.requires.ins;
    }

pub of-requires-in-loop-n-clause-outs : goal.of-requires-in-loop-n-clause-outs
of-requires-in-loop-n-clause-outs g c =
    let outs = c.loop-n.outs.items in
    let row = c.index_mut.result.now in
    let below : c.from.result < length outs = omega (arith, c.from.ensures, c.loop-n-test.true, c.loop-n.invariant.rows, c.nodes-nodes.ensures.count) in
    let here = subst (λ k. slice_get outs k ≡ Some row) c.from.ensures (slice_get_read outs _ c.from.result row refl below c.index_mut.ensures.value) in
    let new = c.loop-n.invariant.outs c.loop-n.n row here (omega arith) in
    let all = outs_start g.I.Naming.links (node_count c.args.image.now) c.loop-n.n c.args.image.now c.args.params.now c.in_ok-cell.cell row.items
    c.in_ok-cell.ensures new in
    let named = subst (λ k. AreTiedOuts g.I.Naming.links k c.loop-n.n c.in_ok-cell.cell row.items) (sym c.nodes-nodes.ensures.count) all in
    subst (λ (v : Vec Out). AreTiedOuts g.I.Naming.links c.nodes-nodes.result c.loop-n.n c.in_ok-cell.cell v.items) (sym c.replace-row.ensures.value)
    named

pub of-requires-in-loop-n-clause-ins : goal.of-requires-in-loop-n-clause-ins
of-requires-in-loop-n-clause-ins g c =
    let ins = c.loop-n.ins.items in
    let column = c.index_mut-in-loop-n.result.now in
    let below : c.from-in-loop-n.result < length ins = omega
    (arith, c.from-in-loop-n.ensures, c.loop-n-test.true, c.loop-n.invariant.columns, c.nodes-nodes.ensures.count) in
    let here = subst (λ k. slice_get ins k ≡ Some column) c.from-in-loop-n.ensures
    (slice_get_read ins _ c.from-in-loop-n.result column refl below c.index_mut-in-loop-n.ensures.value) in
    let new = c.loop-n.invariant.ins c.loop-n.n column here (omega arith) in
    let all = ins_start g.I.Naming.links (node_count c.args.image.now) c.loop-n.n c.args.image.now c.args.params.now c.in_ok-cell.cell column.items
    c.in_ok-cell.ensures new.0 new.1 in
    let named = subst (λ k. AreTiedIns g.I.Naming.links k c.loop-n.n c.in_ok-cell.cell column.items) (sym c.nodes-nodes.ensures.count) all in
    subst (λ (v : Vec In). AreTiedIns g.I.Naming.links c.nodes-nodes.result c.loop-n.n c.in_ok-cell.cell v.items) (sym c.replace-column.ensures.value)
    named

pub loop-n-preserved : goal.loop-n-preserved
loop-n-preserved g c =
    let links = g.I.Naming.links in
    let nodes = node_count c.args.image.now in
    let was = c.loop-n.invariant in
    record {
      rows = set_length c.loop-n.outs.items c.from.result c.replace-row.new.dest ∙ was.rows;
      columns = set_length c.loop-n.ins.items c.from-in-loop-n.result c.replace-column.new.dest ∙ was.columns;
      outs = rw c.from.ensures (each_given (RowIsNew links nodes) c.loop-n.n c.loop-n.outs.items c.replace-row.new.dest was.outs);
      ins = rw c.from-in-loop-n.ensures (each_given (ColumnIsNew links nodes) c.loop-n.n c.loop-n.ins.items c.replace-column.new.dest was.ins);
    }
