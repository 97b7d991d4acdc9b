-- One member more, which the pool doesn't have.
use Rattle.std.proofs.Common.{ℕ, [], ◌∷◌, ◌++◌, ap, ◌∙◌}
use Rattle.alw_outcomes.proofs.Indexing.{index_more}
use Rattle.alw_outcomes.proofs.pooled.number_in.Goals as goal

pub returns-clause-indexed : goal.returns-clause-indexed
returns-clause-indexed g c =
    index_more g.T.Pooled.digest_of c.args.pool.now.items c.push.new.self.items c.args.table.now c.add.new.self c.args.member c.requires.indexed (rw c.deref.ensures.value at c.in_default.ensures.none)
    c.in_ok-push.ensures.items (c.in_ok-add.ensures ∙ ap (λ (d : ℕ). c.args.table.now ++ d ∷ []) c.digest-digest.ensures)
