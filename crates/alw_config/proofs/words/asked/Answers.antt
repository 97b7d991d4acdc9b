use Rattle.std.proofs.Common.{string_bytes, sym, ◌∙◌}
use Rattle.std.proofs.lemmas.Result.{err_from_is_err_and}
use Rattle.alw_config.proofs.Whole.{refused, accepted}
use Rattle.alw_config.proofs.words.asked.Goals as goal

pub returns-in_err-choices-clause-cases : goal.returns-in_err-choices-clause-cases
returns-in_err-choices-clause-cases c =
    let known = rw (c.as_bytes.ensures.value, c.as_str.ensures.value) at c.in-Some-row_of.ensures in
    let stop = err_from_is_err_and c.from_residual.result c.from_residual.ensures.1 in
    rw (stop.1, stop.2, c.in-Some.ensures.cases.0)
    (refused (string_bytes c.in-Some.first.now) _ c.in-Some-row_of.name (sym known) c.in_err-choices.field-0.0.at c.in_err-choices.ensures)

pub returns-in-None-clause-cases : goal.returns-in-None-clause-cases
returns-in-None-clause-cases c =
    let known = rw (c.as_bytes.ensures.value, c.as_str.ensures.value) at c.in-Some-row_of.ensures in
    let all = c.in_ok-choices.ensures in
    let it = rw c.taken-taken.ensures at c.asked.ensures.asked in
    let fits = rw c.taken-taken.ensures at c.misfit.ensures in
    rw c.in-Some.ensures.cases.0
    (accepted (string_bytes c.in-Some.first.now) _ c.in-Some-row_of.name _ (sym known) all _ (sym fits ∙ c.in-None.is) it)
