-- The first line out of range, and the claim where there is none.
use Rattle.std.proofs.Common.{arith}
use Rattle.std.proofs.lemmas.Result.{err_from_is_err_and}
use Rattle.alw_trace.proofs.ClaimAnswers.{sizes, wrong_run, wrong_print, wrong_word, found}
use Rattle.alw_trace.proofs.claim_reading.claim_of.Goals as goal

pub returns-in_err-turns-clause-err : goal.returns-in_err-turns-clause-err
returns-in_err-turns-clause-err c =
    let e = err_from_is_err_and c.from_residual-in_err-turns.result c.from_residual-in_err-turns.ensures.1 in
    let h = sizes _ c.args.lines.now _ _ _ _ c.bytes.ensures c.in_ok-image.ensures.ok c.all_contexts-contexts.ensures.count c.lines-shared.ensures.count
    c.line_behind-at.ensures.line in
    rw (e.1, e.2) (wrong_run _ _ _ _ _ _ h c.deref.ensures.value c.in_err-turns.ensures.err)

pub returns-in_err-prints-clause-err : goal.returns-in_err-prints-clause-err
returns-in_err-prints-clause-err c =
    let e = err_from_is_err_and c.from_residual-in_err-prints.result c.from_residual-in_err-prints.ensures.1 in
    let h = sizes _ c.args.lines.now _ _ _ _ c.bytes.ensures c.in_ok-image.ensures.ok c.all_contexts-contexts.ensures.count c.lines-shared.ensures.count
    c.line_behind-at.ensures.line in
    rw (e.1, e.2) (wrong_print _ _ _ _ _ _ _ _ _ h c.deref.ensures.value c.in_ok-turns.ensures.ok (omega (arith, c.len.ensures)) c.deref-2.ensures.value
    c.in_err-prints.ensures.err)

pub returns-in_err-memory-clause-err : goal.returns-in_err-memory-clause-err
returns-in_err-memory-clause-err c =
    let e = err_from_is_err_and c.from_residual-in_err-memory.result c.from_residual-in_err-memory.ensures.1 in
    let h = sizes _ c.args.lines.now _ _ _ _ c.bytes.ensures c.in_ok-image.ensures.ok c.all_contexts-contexts.ensures.count c.lines-shared.ensures.count
    c.line_behind-at.ensures.line in
    rw (e.1, e.2) (wrong_word _ _ _ _ _ _ _ _ _ _ _ _ h c.deref.ensures.value c.in_ok-turns.ensures.ok (omega (arith, c.len.ensures)) c.deref-2.ensures.value
    c.in_ok-prints.ensures.ok
    (omega (arith, c.len-2.ensures)) c.deref-3.ensures.value c.in_err-memory.ensures.err)

pub returns-clause-ok : goal.returns-clause-ok
returns-clause-ok c =
    found _ c.args.lines.now _ _ _ _ _ _ _ _ _ _ _ _ c.bytes.ensures c.in_ok-image.ensures.ok c.all_contexts-contexts.ensures.allowed
    c.all_contexts-contexts.ensures.count c.lines-shared.ensures.count
    c.deref.ensures.value c.in_ok-turns.ensures.ok c.deref-2.ensures.value c.in_ok-prints.ensures.ok c.deref-3.ensures.value c.in_ok-memory.ensures.ok
