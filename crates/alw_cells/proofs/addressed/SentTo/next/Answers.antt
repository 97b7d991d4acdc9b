use Rattle.std.proofs.Common.{sym, ap, ◌∙◌}
use Rattle.alw_msg.specs.Lists.{front, behind}
use Rattle.alw_cells.specs.Receiving.{left_to}
use Rattle.alw_cells.proofs.Following.{its, passed, fewer, past, ended, stays_ended}
use Rattle.alw_cells.proofs.addressed.SentTo.next.Goals as goal

pub returns-then-from-self-clause-message : goal.returns-then-from-self-clause-message
returns-then-from-self-clause-message c =
    let inside = c.loop-receiver.self-inside in
    let one = its inside.to inside.at inside.reading (c.in-Some.receiver.0, c.in-Some.msg) c.in-Some.ensures.sent (sym c.from.ensures ∙ c.if-from-self.true) in
    ap front (sym one ∙ c.loop-receiver.invariant)

pub returns-then-from-self-clause-left : goal.returns-then-from-self-clause-left
returns-then-from-self-clause-left c =
    let inside = c.loop-receiver.self-inside in
    let one = its inside.to inside.at inside.reading (c.in-Some.receiver.0, c.in-Some.msg) c.in-Some.ensures.sent (sym c.from.ensures ∙ c.if-from-self.true) in
    ap behind (sym one ∙ c.loop-receiver.invariant)

pub loop-receiver-smaller-else-from-self : goal.loop-receiver-smaller-else-from-self
loop-receiver-smaller-else-from-self c =
    let inside = c.loop-receiver.self-inside in
    fewer inside.to inside.at inside.reading (c.in-Some.receiver.0, c.in-Some.msg) c.in-Some.ensures.sent

pub loop-receiver-preserved-else-from-self : goal.loop-receiver-preserved-else-from-self
loop-receiver-preserved-else-from-self c =
    let inside = c.loop-receiver.self-inside in
    let one = passed inside.to inside.at inside.reading (c.in-Some.receiver.0, c.in-Some.msg) c.in-Some.ensures.sent
    (λ same. c.if-from-self.false (c.from.ensures ∙ same)) in
    sym one ∙ c.loop-receiver.invariant

pub returns-in_err-next-clause-message : goal.returns-in_err-next-clause-message
returns-in_err-next-clause-message c =
    let inside = c.loop-receiver.self-inside in
    let none = ended inside.to inside.at inside.reading c.in_default.ensures.sent c.in_err-next.ensures.entry in
    c.from_residual.ensures ∙ ap front (sym none ∙ c.loop-receiver.invariant)

pub returns-in_err-next-clause-left : goal.returns-in_err-next-clause-left
returns-in_err-next-clause-left c =
    let inside = c.loop-receiver.self-inside in
    let none = ended inside.to inside.at inside.reading c.in_default.ensures.sent c.in_err-next.ensures.entry in
    ap (left_to inside.to inside.at) c.in_err-next.ensures.reading ∙ (stays_ended inside.to inside.at inside.reading c.in_err-next.ensures.entry
    ∙ ap behind (sym none ∙ c.loop-receiver.invariant))

pub loop-receiver-preserved : goal.loop-receiver-preserved
loop-receiver-preserved c =
    let inside = c.loop-receiver.self-inside in
    ap (left_to inside.to 0) c.in_ok-next.ensures.reading ∙ (sym (past inside.to inside.at inside.reading c.in_default.ensures.sent)
    ∙ c.loop-receiver.invariant)
