use Rattle.std.proofs.lemmas.Result.{IfOk-weaker, IfErr-weaker}
use Rattle.alw_trace.proofs.LineReads.{entries_found, entries_fault}
use Rattle.alw_trace.proofs.trace_lines.entries_at.Goals as goal

pub returns-in-Some-clause-ok : goal.returns-in-Some-clause-ok
returns-in-Some-clause-ok c = IfOk-weaker c.lines_at.result _ _ (λ read is. entries_found _ _ _ _ _ c.in-Some.ensures.range c.in-Some.ensures.found is)
    c.lines_at.ensures.ok

pub returns-in-Some-clause-err : goal.returns-in-Some-clause-err
returns-in-Some-clause-err c = IfErr-weaker c.lines_at.result _ _ (λ fault is. entries_fault _ _ _ _ fault c.in-Some.ensures.range c.in-Some.ensures.found is)
    c.lines_at.ensures.err
