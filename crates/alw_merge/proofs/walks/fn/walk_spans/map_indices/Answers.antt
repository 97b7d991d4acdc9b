-- The bounds of a span.
use Rattle.std.proofs.Common.{ℕ, ◌*◌, sym, subst}
use Rattle.alw_merge.specs.Spans.{IsAtMost}
use Rattle.alw_merge.proofs.Spanned.{bound_next}
use Rattle.alw_merge.proofs.walks.fn.walk_spans.map_indices.Goals as goal

pub walk_span-requires : goal.walk_span-requires
walk_span-requires c = record {
  counted = c.requires.1;
  read = c.requires.2;
  bounds = subst (λ (width : ℕ). IsAtMost (c.args.k * width) c.bound.result) (sym c.from.ensures)
      (subst (IsAtMost (c.args.k * c.captures.width)) (sym c.bound.ensures) (bound_next c.captures.count c.captures.width c.args.k));
}
