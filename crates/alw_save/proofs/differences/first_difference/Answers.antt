-- The line so far is the first that differs.
use Rattle.std.proofs.Common.{ℕ, ◌∷◌, sym, ap, ◌∙◌}
use Rattle.alw_save.proofs.Agreeing.{differ_here, agree_on, bytes_apart, none_apart, ended_apart}
use Rattle.alw_save.proofs.differences.first_difference.Goals as goal

pub returns-in_default-split_first-clause-differs : goal.returns-in_default-split_first-clause-differs
returns-in_default-split_first-clause-differs c =
    differ_here c.loop-byte.invariant (none_apart _ _ _ _ c.in-Some.ensures.cases.0 c.in_default-split_first.ensures.cases)

pub returns-then-first-byte-clause-differs : goal.returns-then-first-byte-clause-differs
returns-then-first-byte-clause-differs c =
    differ_here c.loop-byte.invariant (bytes_apart _ _ _ _ _ _ c.in-Some.ensures.cases.0 c.in-Some-split_first.ensures.cases.0 (λ e. c.if-first-byte.true (sym e)))

pub loop-byte-preserved : goal.loop-byte-preserved
loop-byte-preserved c =
    agree_on c.loop-byte.invariant _ _ _ _ c.in-Some.ensures.cases.0
    (c.in-Some-split_first.ensures.cases.0 ∙ ap (λ (n : ℕ). n ∷ c.in-Some-split_first.after.now) c.if-first-byte.false) c.feeds-line.ensures.count c.feeds-line.ensures.few

pub returns-else-is_empty-clause-differs : goal.returns-else-is_empty-clause-differs
returns-else-is_empty-clause-differs c = differ_here c.loop-byte.invariant (ended_apart _ _ c.in_default.ensures.cases (sym c.is_empty.ensures ∙ c.if-is_empty.false))
