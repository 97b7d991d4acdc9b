-- One row more is laid, and at the end all of them.
use Rattle.std.proofs.Common.{◌≡◌, ◌+◌, ◌*◌, ◌∙◌, [], ◌∷◌, sym, ap, subst, arith, add-mul, one-mul, length-append}
use Rattle.alw_work.specs.Ties.{LinksAreColumns}
use Rattle.alw_work.proofs.Layings.{rows_next}
use Rattle.alw_work.proofs.laying.lay_links.Goals as goal

pub loop-from-preserved : goal.loop-from-preserved
loop-from-preserved g c =
    let was = c.loop-from.invariant in
    let laid = c.in_ok-row.ensures in
    let nodes = c.args.nodes in
    let from = c.loop-from.from in
    let outs = c.loop-from.outs.items in
    let row = c.in_ok-row.row in
    rw c.in_ok-push.ensures.items (record {
      count = laid.count ∙ sym (add-mul from 1 nodes ∙ ap (λ k. from * nodes + k) (one-mul nodes));
      rows = omega (arith, was.rows, length-append outs (row ∷ []));
      outs = rows_next c.loop-from.links.items c.lay_row.new.links.items nodes from outs row laid.keeps (sym was.rows) laid.row_is was.outs;
      ins = laid.ins_are;
    })

pub returns : goal.returns
returns g c =
    let was = c.loop-from.invariant in
    let nodes = c.args.nodes in
    let links = c.loop-from.links.items in
    let all : c.loop-from.from ≡ nodes = omega (arith, c.loop-from-test.false, c.loop-from.auto.from-end) in
    record {
      links = was.count ∙ ap (λ k. k * nodes) all;
      rows = was.rows ∙ all;
      outs = was.outs;
      ins = subst (λ k. LinksAreColumns links nodes k 0 c.loop-from.ins.items) all was.ins;
    }
