-- One link more is laid, and at the end the whole row.
use Rattle.std.proofs.Common.{◌≡◌, ◌<◌, ◌+◌, ◌*◌, ◌∙◌, [], ◌∷◌, length, slice_get, Some, None, refl, sym, ap, subst, arith, length-append}
use Rattle.std.proofs.lemmas.Option.{slice_get_read}
use Rattle.alw_work.specs.declared.ends.Out.{Out}
use Rattle.alw_work.specs.Ties.{LinksAreColumns}
use Rattle.alw_work.proofs.Layings.{keeps_push, row_next, columns_next, columns_turn}
use Rattle.alw_work.proofs.laying.lay_row.Goals as goal

pub loop-to-preserved : goal.loop-to-preserved
loop-to-preserved g c =
    let was = c.loop-to.invariant in
    let links = c.loop-to.links.items in
    let row = c.loop-to.row.items in
    let ins = c.loop-to.ins.items in
    let link = c.in_ok-link.field-0.link in
    let nodes = c.args.nodes in
    let from = c.args.from in
    let to = c.loop-to.to in
    let column = c.index_mut.result.now in
    let below : c.from.result < length ins = omega (arith, c.from.ensures, c.loop-to-test.true, was.ins_are.count) in
    let here = subst (λ k. slice_get ins k ≡ Some column) c.from.ensures (slice_get_read ins _ c.from.result column refl below c.index_mut.ensures.value) in
    rw (c.in_ok-push.ensures.items, c.in_ok-push-2.ensures.items) (record {
      keeps = λ place one at. keeps_push links link place one (was.keeps place one at);
      count = omega (arith, was.count, length-append links (link ∷ []));
      many = omega (arith, was.many, length-append {A = Out} row (record { end = c.in_ok-link.field-0.sender; kept = None } ∷ []));
      row_is = row_next links nodes from row link _ (was.count ∙ ap (λ k. from * nodes + k) (sym was.many)) c.in_ok-link.ensures.sender refl was.row_is;
      ins_are = rw c.from.ensures (columns_next links nodes from to ins link column _ _ was.count here c.in_ok-push-3.ensures.items
          c.in_ok-link.ensures.receiver refl was.ins_are);
    })

pub returns : goal.returns
returns g c =
    let was = c.loop-to.invariant in
    let all : c.loop-to.to ≡ c.args.nodes = omega (arith, c.loop-to-test.false, c.loop-to.auto.to-end) in
    record {
      keeps = was.keeps;
      count = was.count ∙ ap (λ k. c.args.from * c.args.nodes + k) all;
      row_is = record { count = was.many ∙ all; each = was.row_is };
      ins_are = columns_turn c.loop-to.links.items c.args.nodes c.args.from c.loop-to.ins.items
          (subst (λ k. LinksAreColumns c.loop-to.links.items c.args.nodes c.args.from k c.loop-to.ins.items) all was.ins_are);
    }
