-- A turn of a Ready context that keeps to the hint on no shared line, doesn't trap and goes forward.
use Rattle.std.proofs.Common.{refl, sym, ◌∙◌}
use Rattle.alw_outcomes.proofs.Leading.{thread_goes, thread_private}
use Rattle.alw_outcomes.proofs.leads.private_step.Goals as goal

pub returns-clause-private : goal.returns-clause-private
returns-clause-private c =
    thread_private c.args.image.now c.args.classes.now c.args.context c.args.pools.now c.step.new.pools c.args.at c.in_ok-next.next c.index.result.now c.index-2.result.now c.requires.at
    c.in_ok-next.ensures.inside
    c.index.ensures c.index-2.ensures c.in_ok-next.ensures.turn
    (thread_goes c.args.image.now c.args.classes.now c.args.context c.args.pools.now c.args.at c.index.result.now c.in_ok-next.outcome c.requires.at c.index.ensures
    (sym c.is_ready.ensures ∙ c.if-not-is_ready.false)
    (c.if-not-keeps.ensures refl) c.in_ok-next.ensures.outcome (sym c.has_trapped.ensures ∙ c.if-has_trapped.false))
    (c.if-not-goes_ahead.ensures.alone refl) (c.if-not-goes_ahead.ensures.less refl)
