-- Its start beside it.
use Rattle.std.proofs.Common.{ℕ, slice_set, sym, ap, ◌∙◌}
use Rattle.alw_due.proofs.Kept.{put_kept}
use Rattle.alw_due.proofs.bests.Bests.put.Goals as goal

pub invariant_of-self : goal.invariant_of-self
invariant_of-self c =
    let s = c.self.inside in
    put_kept s.dues.items s.starts c.set.new.self c.from.result c.start_kept.result c.args.best c.self.invariant c.start_kept.ensures
    (c.set.ensures ∙ ap (λ (n : ℕ). slice_set s.starts n c.start_kept.result) (sym c.from.ensures))
