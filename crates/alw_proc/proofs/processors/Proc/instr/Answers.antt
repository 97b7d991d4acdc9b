-- The turn, or the miss, of the slot that runs.
use Rattle.std.proofs.Common.{sym}
use Rattle.alw_proc.proofs.Keeping.{runs_within, runs_ready, none_of_ready}
use Rattle.alw_proc.proofs.Instructing.{has_run, turn_side, turn_steps, miss_home, miss_side, miss_steps}
use Rattle.alw_proc.proofs.processors.Proc.instr.Goals as goal

pub take_turn-requires : goal.take_turn-requires
take_turn-requires c = runs_within c.self.inside.contexts.slots c.self.inside.contexts.current c.in-Some.slot (sym c.in-Some.ensures)

pub ask-requires-clause-free : goal.ask-requires-clause-free
ask-requires-clause-free c =
    let inside = c.self.inside in
    λ l. none_of_ready inside.contexts.slots c.in-Some.slot l _ (runs_ready inside.contexts.slots inside.contexts.current c.in-Some.slot (sym c.in-Some.ensures)) (c.self.invariant.stands.opened l)

pub ask-requires-clause-home : goal.ask-requires-clause-home
ask-requires-clause-home c =
    let inside = c.self.inside in
    let run = has_run c.args.code.now inside.number.0 inside.width inside.height inside.per_node inside.contexts _ inside.shared _ inside.openings c.in-Some.slot _ c.self.invariant (sym c.in-Some.ensures) c.in-Miss.ensures in
    miss_home _ _ _ _ _ _ _ _ _ run c.self.invariant.stands

pub invariant_of-self : goal.invariant_of-self
invariant_of-self c =
    let inside = c.self.inside in
    let run = has_run c.args.code.now inside.number.0 inside.width inside.height inside.per_node inside.contexts _ inside.shared _ inside.openings c.in-Some.slot _ c.self.invariant (sym c.in-Some.ensures) c.in-Miss.ensures in
    miss_side _ _ _ _ _ _ _ _ _ c.ask.new.openings run c.self.invariant.stands c.ask.ensures.openings

pub invariant_of-self-in_default-take_turn : goal.invariant_of-self-in_default-take_turn
invariant_of-self-in_default-take_turn c =
    let inside = c.self.inside in
    let run = has_run c.args.code.now inside.number.0 inside.width inside.height inside.per_node inside.contexts _ inside.shared _ inside.openings c.in-Some.slot _ c.self.invariant (sym c.in-Some.ensures) c.take_turn.ensures in
    turn_side _ _ _ _ _ _ _ _ run c.in_default-take_turn.not-Miss c.self.invariant.stands

pub returns-in-Miss : goal.returns-in-Miss
returns-in-Miss c =
    let inside = c.self.inside in
    let run = has_run c.args.code.now inside.number.0 inside.width inside.height inside.per_node inside.contexts _ inside.shared _ inside.openings c.in-Some.slot _ c.self.invariant (sym c.in-Some.ensures) c.in-Miss.ensures in
    let by = rw (← c.self.view_is) at c.requires.begun.by in
    rw (← c.self.view_is) (miss_steps _ _ _ _ _ _ _ _ _ c.ask.new.openings c.args.sent.now c.ask.new.sent run by c.ask.ensures.openings c.ask.ensures.sends)

pub returns-in_default-take_turn : goal.returns-in_default-take_turn
returns-in_default-take_turn c =
    let inside = c.self.inside in
    let run = has_run c.args.code.now inside.number.0 inside.width inside.height inside.per_node inside.contexts _ inside.shared _ inside.openings c.in-Some.slot _ c.self.invariant (sym c.in-Some.ensures) c.take_turn.ensures in
    rw (← c.self.view_is) (turn_steps _ _ _ _ _ _ _ _ c.args.sent.now run c.in_default-take_turn.not-Miss c.requires.begun.empty)
