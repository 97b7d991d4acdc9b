-- The node's own times alone change.
use Rattle.std.proofs.Common.{◌+◌, ◌^◌, subst, sym, ◌∙◌, arith}
use Rattle.alw_msg.specs.declared.events.Event.TheVariants.{Instr}
use Rattle.alw_times.specs.Times.{Times, kept}
use Rattle.alw_times.specs.Within.{TimesAreWithin}
use Rattle.alw_times.proofs.Bounds.{wider}
use Rattle.alw_times.proofs.OneTurn.{turn_starts, turn_finishes, turn_passes, turn_within}
use Rattle.alw_times.proofs.clocks.Clocks.turn.Goals as goal

pub overflow_add-finish : goal.overflow_add-finish
overflow_add-finish c = omega (arith, c.start-start.ensures.within (2 ^ 63) c.requires, c.turn_cost.ensures.few)

pub returns-clause-start : goal.returns-clause-start
returns-clause-start c = λ happened turn. c.start-start.ensures.start ∙ turn_starts c.args.image.now c.args.costs.now c.args.self.now c.args.node c.args.slot c.args.last happened turn

pub returns-clause-finish : goal.returns-clause-finish
returns-clause-finish c = λ happened turn.
    (λ i. c.start-start.ensures.start i + c.turn_cost.ensures.cost i) ∙ turn_finishes c.args.image.now c.args.costs.now c.args.self.now c.args.node c.args.slot c.args.last happened turn

pub returns-clause-passed : goal.returns-clause-passed
returns-clause-passed c = λ happened turn.
    c.run.ensures ∙ (λ i. kept (Instr c.args.node) (c.start-start.ensures.start i) (c.start-start.ensures.start i + c.turn_cost.ensures.cost i) c.args.self.now)
    ∙ turn_passes c.args.image.now c.args.costs.now c.args.self.now c.args.node c.args.slot c.args.last happened turn

pub returns-clause-within : goal.returns-clause-within
returns-clause-within c = λ most are.
    let self = c.args.self.now in
    let more = most + 2 ^ 33 in
    let early = c.start-start.ensures.within most are in
    let few = c.turn_cost.ensures.few in
    subst (λ (times : Times). TimesAreWithin more times) (sym c.run.ensures)
    (turn_within more self c.args.node c.start-start.result (c.start-start.result + c.turn_cost.result) (wider most more (omega arith) self are) (omega (arith, early)) (omega (arith, early, few)))
