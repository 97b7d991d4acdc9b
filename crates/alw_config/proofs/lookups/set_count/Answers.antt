use Rattle.std.proofs.Common.{Bool, cond, Some, None, ◌∙◌, ◌&&◌, nat_le, sym, ap}
use Rattle.alw_config.proofs.Spelled.{passes_wide, fails_wide, is_set_count, set_count_is, set_count_is_between}
use Rattle.alw_config.proofs.lookups.set_count.Goals as goal

pub returns-in_err-number : goal.returns-in_err-number
returns-in_err-number c =
    c.from_residual.ensures
    ∙ sym (fails_wide (λ n. nat_le 4 n && nat_le n 4096) is_set_count c.args.word.now set_count_is_between
    (sym c.number_between.ensures ∙ c.in_err-number.was))

pub returns-then-contains : goal.returns-then-contains
returns-then-contains c =
    let n = c.in_ok-number.number in
    let is = sym (set_count_is n) ∙ sym c.if-contains.ensures.value in
    sym (passes_wide (λ n. nat_le 4 n && nat_le n 4096) is_set_count c.args.word.now n (sym c.in_ok-number.ensures)
    ∙ ap (λ (b : Bool). cond b (Some n) None) is)

pub returns-else-contains : goal.returns-else-contains
returns-else-contains c =
    let n = c.in_ok-number.number in
    let is = sym (set_count_is n) ∙ sym c.if-contains.ensures.value in
    sym (passes_wide (λ n. nat_le 4 n && nat_le n 4096) is_set_count c.args.word.now n (sym c.in_ok-number.ensures)
    ∙ ap (λ (b : Bool). cond b (Some n) None) is)
