-- Turn by turn, and what is at the end.
use Rattle.std.proofs.Common.{◌<◌, Option, Ok, subst, ap, arith, length, slice_index_or}
use Rattle.std.specs.Prelude.{is_some}
use Rattle.alw_serve.specs.declared.errors.Hindrance.{Hindrance}
use Rattle.alw_serve.specs.Serving.{TakesTurn}
use Rattle.alw_serve.proofs.Taking.{served_to_none, served_to_more, turn_fits, stands_at, taken_at_end, unfinished_at_end}
use Rattle.alw_serve.proofs.serving.take_turns.Goals as goal

pub loop-turn-init : goal.loop-turn-init
loop-turn-init c = served_to_none c.args.machine.now.image c.args.machine.now.parameters c.args.turns.now c.args.machine.now c.requires

pub overflow_cast-result : goal.overflow_cast-result
overflow_cast-result c =
    let first = c.args.machine.now in
    let hindered = subst (λ (o : Option Hindrance). TakesTurn c.loop-turn.machine (slice_index_or c.args.turns.now c.loop-turn.turn 0) c.take_turn.new.machine (Ok o)) c.in-Some.is c.in_ok-why.ensures in
    omega (arith, turn_fits first.image first.parameters c.args.turns.now c.loop-turn.turn c.loop-turn.machine c.loop-turn.invariant (omega (arith, c.loop-turn-test.true)) c.take_turn.new.machine c.in-Some.why hindered)

pub returns-in-Some : goal.returns-in-Some
returns-in-Some c =
    let first = c.args.machine.now in
    let hindered = subst (λ (o : Option Hindrance). TakesTurn c.loop-turn.machine (slice_index_or c.args.turns.now c.loop-turn.turn 0) c.take_turn.new.machine (Ok o)) c.in-Some.is c.in_ok-why.ensures in
    let below : c.loop-turn.turn < length c.args.turns.now = omega (arith, c.loop-turn-test.true) in
    (below, stands_at first.image first.parameters c.args.turns.now c.loop-turn.turn c.loop-turn.machine c.loop-turn.invariant below c.take_turn.new.machine c.in-Some.why hindered)

pub loop-turn-preserved : goal.loop-turn-preserved
loop-turn-preserved c =
    let first = c.args.machine.now in
    let taken = subst (λ (o : Option Hindrance). TakesTurn c.loop-turn.machine (slice_index_or c.args.turns.now c.loop-turn.turn 0) c.take_turn.new.machine (Ok o)) c.in_default.is c.in_ok-why.ensures in
    served_to_more first.image first.parameters c.args.turns.now c.loop-turn.turn c.loop-turn.machine c.loop-turn.invariant (omega (arith, c.loop-turn-test.true)) c.take_turn.new.machine taken

pub returns-in_default-end_of : goal.returns-in_default-end_of
returns-in_default-end_of c =
    let first = c.args.machine.now in
    unfinished_at_end first.image first.parameters c.args.turns.now c.loop-turn.turn c.loop-turn.machine c.loop-turn.invariant c.end_of.ensures.run (omega (arith, c.loop-turn-test.false))
    (is_some c.end_of.result) (ap is_some c.in_default-end_of.is) c.end_of.ensures.over

pub returns : goal.returns
returns c =
    let first = c.args.machine.now in (
      taken_at_end first.image first.parameters c.args.turns.now c.loop-turn.turn c.loop-turn.machine c.loop-turn.invariant c.end_of.ensures.run (omega (arith, c.loop-turn-test.false))
          (is_some c.end_of.result) (ap is_some c.in-Some-end_of.is) c.end_of.ensures.over,
      c.in-Some-end_of.ensures.end,
    )
