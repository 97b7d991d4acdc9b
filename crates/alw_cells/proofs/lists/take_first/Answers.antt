use Rattle.std.proofs.Common.{sym, ap, ◌∙◌, arith}
use Rattle.alw_msg.specs.Lists.{front}
use Rattle.alw_cells.proofs.Receivers.{taken_out, none_found}
use Rattle.alw_cells.proofs.lists.take_first.Goals as goal

pub returns-then-index-to-clause-message : goal.returns-then-index-to-clause-message
returns-then-index-to-clause-message c =
    (taken_out c.args.to.0 c.args.pending.now.items c.loop-at.pending.items c.remove.new.self.items c.loop-at.at c.index.result.now (c.in_ok-msg.field-0-0, c.in_ok-msg.msg)
    (ap (λ q. q.items) c.loop-at.invariant.same) c.loop-at.invariant.none (omega arith) c.index.ensures c.if-index-to.true c.in_ok-msg.ensures.value c.in_ok-msg.ensures.items).0

pub returns-then-index-to-clause-left : goal.returns-then-index-to-clause-left
returns-then-index-to-clause-left c =
    (taken_out c.args.to.0 c.args.pending.now.items c.loop-at.pending.items c.remove.new.self.items c.loop-at.at c.index.result.now (c.in_ok-msg.field-0-0, c.in_ok-msg.msg)
    (ap (λ q. q.items) c.loop-at.invariant.same) c.loop-at.invariant.none (omega arith) c.index.ensures c.if-index-to.true c.in_ok-msg.ensures.value c.in_ok-msg.ensures.items).1

pub returns-clause-message : goal.returns-clause-message
returns-clause-message c = sym (ap front (none_found c.args.to.0 c.args.pending.now.items (λ k d l. c.loop-at.invariant.none k d (omega arith))).0)

pub returns-clause-left : goal.returns-clause-left
returns-clause-left c =
    ap (λ q. q.items) c.loop-at.invariant.same ∙ sym (none_found c.args.to.0 c.args.pending.now.items (λ k d l. c.loop-at.invariant.none k d (omega arith))).1
