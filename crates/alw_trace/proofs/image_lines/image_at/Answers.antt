use Rattle.std.proofs.lemmas.Result.{IfOk-weaker, IfErr-weaker}
use Rattle.alw_trace.proofs.RowReads.{image_found, image_fault_in}
use Rattle.alw_trace.proofs.image_lines.image_at.Goals as goal

pub returns-in-Some-clause-ok : goal.returns-in-Some-clause-ok
returns-in-Some-clause-ok c = IfOk-weaker c.rows_at.result _ _ (λ read is. image_found _ _ _ _ _ c.in-Some.ensures.range c.in-Some.ensures.found is)
    c.rows_at.ensures.ok

pub returns-in-Some-clause-err : goal.returns-in-Some-clause-err
returns-in-Some-clause-err c = IfErr-weaker c.rows_at.result _ _ (λ fault is. image_fault_in _ _ _ fault c.in-Some.ensures.range c.in-Some.ensures.found is)
    c.rows_at.ensures.err
