-- One turn after the other.
use Rattle.std.proofs.Common.{ap, sym, ◌∙◌, ◌||◌, arith}
use Rattle.alw_outcomes.specs.Explored.{found_in}
use Rattle.alw_places.specs.Outcomes.{all_halted}
use Rattle.alw_outcomes.proofs.Reaching.{can_halt, place_is, keeps_trans, along_back, tells_so, along_more, looks_all}
use Rattle.alw_outcomes.proofs.stuck.look_at.Goals as goal

pub returns-then-has_halted-clause-look : goal.returns-then-has_halted-clause-look
returns-then-has_halted-clause-look c = λ place there.
    can_halt c.args.image.now place (ap all_halted (sym (place_is c.args.found.now c.args.at place c.requires.at there)) ∙ sym c.has_halted.ensures ∙ c.if-has_halted.true)

pub loop-context-preserved : goal.loop-context-preserved
loop-context-preserved c = record {
  stays = keeps_trans c.args.image.now c.args.found.now c.loop-context.found c.look_along.new.found c.loop-context.invariant.stays c.in_ok-look.ensures.stays;
  along =
      along_more c.args.image.now c.args.found.now.classes.items (found_in c.args.found.now) c.args.marks.now c.args.at c.loop-context.context c.loop-context.is_open
      (c.loop-context.is_open || c.is_unknown-is_open.result) c.in_ok-look.look
      (λ i. c.loop-context.is_open || c.is_unknown-is_open.ensures i) (sym c.is_told.ensures ∙ c.if-is_told.false)
      (along_back c.args.image.now c.args.found.now c.loop-context.found c.loop-context.invariant.stays c.args.marks.now c.args.at c.loop-context.context c.in_ok-look.look c.in_ok-look.ensures.look)
      c.loop-context.invariant.along;
}

pub returns-then-is_told-clause-look : goal.returns-then-is_told-clause-look
returns-then-is_told-clause-look c =
    tells_so c.args.image.now c.args.found.now.classes.items (found_in c.args.found.now) c.args.marks.now c.args.at c.loop-context.context c.in_ok-look.look (sym c.is_told.ensures ∙ c.if-is_told.true)
    (along_back c.args.image.now c.args.found.now c.loop-context.found c.loop-context.invariant.stays c.args.marks.now c.args.at c.loop-context.context c.in_ok-look.look c.in_ok-look.ensures.look)

pub returns-clause-look : goal.returns-clause-look
returns-clause-look c = λ place there.
    looks_all c.args.image.now c.args.found.now.classes.items (found_in c.args.found.now) _ c.args.at place c.requires.real there
    (ap all_halted (sym (place_is c.args.found.now c.args.at place c.requires.at there)) ∙ sym c.has_halted.ensures ∙ c.if-has_halted.false)
    (λ context less. c.loop-context.invariant.along c.if-is_open.false context (omega (arith, less, c.contexts_of-context-end.ensures, c.loop-context-test.false)) place there)
