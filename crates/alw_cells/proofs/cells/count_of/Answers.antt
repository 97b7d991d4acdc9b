use Rattle.std.proofs.Common.{◌∙◌, sym, ◌+◌}
use Rattle.alw_num.specs.Weights.{digit}
use Rattle.alw_cells.proofs.Choosing.{counts_own}
use Rattle.alw_cells.proofs.cells.count_of.Goals as goal

pub returns-in-true-true : goal.returns-in-true-true
returns-in-true-true c =
    (λ x. digit (sym c.in-true-true.is-0 x) + digit (sym c.in-true-true.is-1 x)) ∙ counts_own c.args.row.now c.requires (c.is_empty.ensures.0 c.if-not-is_empty.false)

pub returns-in-false-false : goal.returns-in-false-false
returns-in-false-false c =
    (λ x. digit (sym c.in-false-false.is-0 x) + digit (sym c.in-false-false.is-1 x)) ∙ counts_own c.args.row.now c.requires (c.is_empty.ensures.0 c.if-not-is_empty.false)

pub returns-in_default : goal.returns-in_default
returns-in_default c =
    (λ x. digit (sym c.in_default.is-0 x) + digit (sym c.in_default.is-1 x)) ∙ counts_own c.args.row.now c.requires (c.is_empty.ensures.0 c.if-not-is_empty.false)

pub returns-in_default-2 : goal.returns-in_default-2
returns-in_default-2 c =
    (λ x. digit (sym c.in_default.is-0 x) + digit (sym c.in_default.is-1 x)) ∙ counts_own c.args.row.now c.requires (c.is_empty.ensures.0 c.if-not-is_empty.false)
