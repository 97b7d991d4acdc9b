-- By what the context's turn is.
use Rattle.std.proofs.Common.{sym, ◌∙◌, true, false}
use Rattle.alw_outcomes.specs.Pools.{thread_in}
use Rattle.alw_outcomes.proofs.Leading.{goes_on_trans, ready_is, allowed_is, none_trap, thread_goes, thread_private, thread_traps, going}
use Rattle.alw_outcomes.proofs.leads.lead_of.Goals as goal

pub returns-then-not-is_ready-clause-lead : goal.returns-then-not-is_ready-clause-lead
returns-then-not-is_ready-clause-lead c =
    ready_is c.args.image.now c.args.classes.now c.args.context c.args.pools.now c.args.at c.index.result.now c.requires.at c.index.ensures false (sym c.is_ready.ensures ∙ c.if-not-is_ready.true)

pub returns-in-Some-clause-lead : goal.returns-in-Some-clause-lead
returns-in-Some-clause-lead c = (
  ready_is c.args.image.now c.args.classes.now c.args.context c.args.pools.now c.args.at c.index.result.now c.requires.at c.index.ensures true (sym c.is_ready.ensures ∙ c.if-not-is_ready.false),
  allowed_is c.args.image.now c.args.classes.now c.args.context c.args.pools.now c.args.at c.index.result.now c.requires.at c.index.ensures false c.in-Some.ensures.broken,
)

pub returns-in-Trap-clause-lead : goal.returns-in-Trap-clause-lead
returns-in-Trap-clause-lead c =
    thread_traps c.args.image.now c.args.classes.now c.args.context c.args.pools.now c.args.at c.index.result.now c.in_ok-next.outcome c.in-Trap.tt c.requires.at c.index.ensures
    (sym c.is_ready.ensures ∙ c.if-not-is_ready.false)
    c.in_default.ensures.kept c.in_ok-next.ensures.outcome c.in-Trap.is

pub returns : goal.returns
returns c =
    let ready = sym c.is_ready.ensures ∙ c.if-not-is_ready.false in
    let goes =
    thread_goes c.args.image.now c.args.classes.now c.args.context c.args.pools.now c.args.at c.index.result.now c.in_ok-next.outcome c.requires.at c.index.ensures ready
    c.in_default.ensures.kept c.in_ok-next.ensures.outcome (none_trap _ c.in_default-outcome.not-Trap) in
    record {
      grow = goes_on_trans c.args.image.now c.args.pools.now c.step.new.pools c.chain.new.pools c.in_ok-next.ensures.grow c.in_ok-to.ensures.grow;
      lead =
          going c.args.image.now c.args.classes.now c.args.context (thread_in c.args.pools.now c.args.at) _ c.chain.new.pools c.in_ok-to.to c.in_ok-to.more c.goes_ahead-first.result
          c.in_ok-next.ensures.turn goes
          (λ ahead. thread_private c.args.image.now c.args.classes.now c.args.context c.args.pools.now c.step.new.pools c.args.at c.in_ok-next.next c.index.result.now c.index-2.result.now
          c.requires.at c.in_ok-next.ensures.inside
          c.index.ensures c.index-2.ensures c.in_ok-next.ensures.turn goes (c.goes_ahead-first.ensures.alone ahead) (c.goes_ahead-first.ensures.less ahead))
          c.in_ok-to.ensures.chain;
    }
