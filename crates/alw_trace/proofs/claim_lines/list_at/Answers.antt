use Rattle.std.proofs.lemmas.Result.{IfOk-weaker, IfErr-weaker}
use Rattle.alw_trace.proofs.PairReads.{list_found, list_fault, list_room}
use Rattle.alw_trace.proofs.claim_lines.list_at.Goals as goal

pub returns-in-Some-clause-ok : goal.returns-in-Some-clause-ok
returns-in-Some-clause-ok c = IfOk-weaker c.pairs_at.result _ _
    (λ read is. list_found _ _ _ _ _ _ _ c.heading_of.ensures c.in-Some.ensures.range c.in-Some.ensures.found is) c.pairs_at.ensures.ok

pub returns-in-Some-clause-err : goal.returns-in-Some-clause-err
returns-in-Some-clause-err c = IfErr-weaker c.pairs_at.result _ _
    (λ fault is. list_fault _ _ _ _ _ _ fault c.heading_of.ensures c.in-Some.ensures.range c.in-Some.ensures.found is) c.pairs_at.ensures.err

pub returns-in-Some-clause-room : goal.returns-in-Some-clause-room
returns-in-Some-clause-room c =
    IfOk-weaker c.pairs_at.result _ _
    (λ read is. list_room _ _ _ _ (list_found _ _ _ _ _ _ _ c.heading_of.ensures c.in-Some.ensures.range c.in-Some.ensures.found is))
    c.pairs_at.ensures.ok
