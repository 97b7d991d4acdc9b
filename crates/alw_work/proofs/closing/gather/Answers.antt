-- The next cell stands in its place, its mark is of its own log, and its ends are tied to it.
use Rattle.std.proofs.Common.{◌≡◌, ◌||◌, List, [], ◌∷◌, length, sym, subst, arith}
use Rattle.std.proofs.lemmas.List.{map-append, length-map}
use Rattle.alw_image.specs.Images.{node_count}
use Rattle.alw_cells.specs.Cells.{Cell}
use Rattle.alw_work.specs.declared.closing.Left.{Left}
use Rattle.alw_work.specs.Ties.{IsTied, cells_in}
use Rattle.alw_work.proofs.Finishing.{AreSoFar, so_far_push, each_push}
use Rattle.alw_work.proofs.closing.gather.Goals as goal

pub loop-lock-preserved : goal.loop-lock-preserved
loop-lock-preserved g c =
    let opened = c.open-cell.result in
    let image = g.I.Naming.image in
    let parameters = g.I.Naming.parameters in
    let links = g.I.Naming.links in
    let lefts = c.loop-lock.lefts.items in
    let left : Left = record { cell = opened.1; outs = opened.3; ins = opened.4 } in
    let here : opened.0.0 ≡ length lefts = omega (arith, c.if-from-len.false, c.from.ensures, c.len.ensures, c.loop-lock.lefts.ok.0) in
    let place : opened.0.0 ≡ length (cells_in lefts) = omega (arith, here, length-map lefts (λ (l : Left). l.cell)) in
    let so_far = so_far_push image parameters (cells_in lefts) c.loop-lock.trapped opened.0.0 opened.1 opened.2 c.loop-lock.invariant.so_far place
    c.open-cell.ensures.cell c.open-cell.ensures.trapped in
    rw c.in_ok-push.ensures.items (record {
      so_far = subst (λ (cells : List Cell). AreSoFar image parameters cells (c.loop-lock.trapped || opened.2))
          (sym (map-append (λ (l : Left). l.cell) lefts (left ∷ []))) so_far;
      tied = each_push (IsTied links (node_count image)) lefts left c.loop-lock.invariant.tied
          (subst (λ k. IsTied links (node_count image) k left) here (record { outs = c.open-cell.ensures.outs; ins = c.open-cell.ensures.ins }));
    })
