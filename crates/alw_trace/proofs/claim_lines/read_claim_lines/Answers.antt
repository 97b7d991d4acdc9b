-- Each exit is one place of a text that is no claim.
use Rattle.std.proofs.Common.{arith}
use Rattle.std.proofs.lemmas.Result.{err_from_is_err_and}
use Rattle.alw_trace.proofs.ClaimReads.{runs_front, prints_front, memory_front, title_lacks, image_lacks, runs_lack, prints_lack, memory_lacks, end_lacks, whole}
use Rattle.alw_trace.proofs.claim_lines.read_claim_lines.Goals as goal

pub returns-in_default-clause-err : goal.returns-in_default-clause-err
returns-in_default-clause-err c = title_lacks _ c.in_default.ensures

pub returns-in_err-image-clause-err : goal.returns-in_err-image-clause-err
returns-in_err-image-clause-err c =
    let e = err_from_is_err_and c.from_residual.result c.from_residual.ensures.1 in
    rw (e.1, e.2) (image_lacks _ _ _ c.in-Some.ensures c.in_err-image.ensures.err)

pub returns-in_err-runs-clause-err : goal.returns-in_err-runs-clause-err
returns-in_err-runs-clause-err c =
    let e = err_from_is_err_and c.from_residual-in_err-runs.result c.from_residual-in_err-runs.ensures.1 in
    rw (e.1, e.2) (runs_lack _ _ _ _ _ _ c.in-Some.ensures c.in_ok-image.ensures.ok c.line_behind-line.ensures.line c.in_err-runs.ensures.err)

pub returns-in_err-prints-clause-err : goal.returns-in_err-prints-clause-err
returns-in_err-prints-clause-err c =
    let e = err_from_is_err_and c.from_residual-in_err-prints.result c.from_residual-in_err-prints.ensures.1 in
    let runs = runs_front _ _ _ _ _ _ c.in-Some.ensures c.in_ok-image.ensures.ok c.in_ok-runs.ensures.ok in
    rw (e.1, e.2) (prints_lack _ _ _ _ _ _ runs (omega (arith, c.line_behind-line.ensures.line, c.len.ensures)) c.in_err-prints.ensures.err)

pub returns-in_err-memory-clause-err : goal.returns-in_err-memory-clause-err
returns-in_err-memory-clause-err c =
    let e = err_from_is_err_and c.from_residual-in_err-memory.result c.from_residual-in_err-memory.ensures.1 in
    let runs = runs_front _ _ _ _ _ _ c.in-Some.ensures c.in_ok-image.ensures.ok c.in_ok-runs.ensures.ok in
    let prints = prints_front _ _ _ _ _ _ runs c.in_ok-prints.ensures.ok in
    rw (e.1, e.2) (memory_lacks _ _ _ _ _ _ _ prints (omega (arith, c.line_behind-line.ensures.line, c.len.ensures, c.len-2.ensures))
    c.in_err-memory.ensures.err)

pub returns-in_err-end_at-clause-err : goal.returns-in_err-end_at-clause-err
returns-in_err-end_at-clause-err c =
    let e = err_from_is_err_and c.from_residual-in_err-end_at.result c.from_residual-in_err-end_at.ensures.1 in
    let runs = runs_front _ _ _ _ _ _ c.in-Some.ensures c.in_ok-image.ensures.ok c.in_ok-runs.ensures.ok in
    let prints = prints_front _ _ _ _ _ _ runs c.in_ok-prints.ensures.ok in
    let memory = memory_front _ _ _ _ _ _ _ prints c.in_ok-memory.ensures.ok in
    rw (e.1, e.2) (end_lacks _ _ _ _ _ memory (omega (arith, c.line_behind-line.ensures.line, c.len.ensures, c.len-2.ensures, c.len-3.ensures))
    c.in_err-end_at.ensures.err)

pub returns-clause-ok : goal.returns-clause-ok
returns-clause-ok c =
    let runs = runs_front _ _ _ _ _ _ c.in-Some.ensures c.in_ok-image.ensures.ok c.in_ok-runs.ensures.ok in
    let prints = prints_front _ _ _ _ _ _ runs c.in_ok-prints.ensures.ok in
    let memory = memory_front _ _ _ _ _ _ _ prints c.in_ok-memory.ensures.ok in
    whole _ _ _ memory c.in_ok-end_at.ensures.ok
