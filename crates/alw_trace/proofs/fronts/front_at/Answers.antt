-- Each exit is one place of a text that has no front of a trace.
use Rattle.std.proofs.Common.{refl}
use Rattle.std.proofs.lemmas.Result.{err_from_is_err_and}
use Rattle.alw_trace.specs.Lines.{title_of_front}
use Rattle.alw_trace.proofs.LineReads.{image_lacks, params_lacks, head, entries_lack, front}
use Rattle.alw_trace.proofs.fronts.front_at.Goals as goal

pub returns-in_default-clause-err : goal.returns-in_default-clause-err
returns-in_default-clause-err c = title_of_front c.in_default.ensures refl

pub returns-in_err-image-clause-err : goal.returns-in_err-image-clause-err
returns-in_err-image-clause-err c =
    let e = err_from_is_err_and c.from_residual.result c.from_residual.ensures.1 in
    rw (e.1, e.2) (image_lacks _ _ _ c.in-Some.ensures _ c.in_err-image.ensures.err)

pub returns-in_default-params_at-clause-err : goal.returns-in_default-params_at-clause-err
returns-in_default-params_at-clause-err c =
    params_lacks _ _ _ c.in-Some.ensures _ _ c.in_ok-image.ensures.ok _ c.line_behind-line.ensures.line c.in_default-params_at.ensures.none

pub returns-in_err-entries-clause-err : goal.returns-in_err-entries-clause-err
returns-in_err-entries-clause-err c =
    let e = err_from_is_err_and c.from_residual-in_err-entries.result c.from_residual-in_err-entries.ensures.1 in
    let h = head _ _ _ c.in-Some.ensures _ _ c.in_ok-image.ensures.ok _ _ c.in-Some-params_at.ensures.range c.in-Some-params_at.ensures.found in
    rw (e.1, e.2) (entries_lack _ _ _ _ _ h _ _ c.line_behind-line.ensures.line c.in_err-entries.ensures.err)

pub returns-clause-ok : goal.returns-clause-ok
returns-clause-ok c =
    let h = head _ _ _ c.in-Some.ensures _ _ c.in_ok-image.ensures.ok _ _ c.in-Some-params_at.ensures.range c.in-Some-params_at.ensures.found in
    front _ _ _ _ _ h _ _ c.in_ok-entries.ensures.ok
