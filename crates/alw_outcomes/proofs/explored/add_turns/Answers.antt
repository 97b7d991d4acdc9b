-- Each context's turn is found, and stays found.
use Rattle.std.proofs.Common.{arith, ◌∙◌}
use Rattle.alw_outcomes.specs.Explored.{found_in}
use Rattle.alw_outcomes.proofs.Storing.{places_length, still_there}
use Rattle.alw_outcomes.proofs.Steps.{within_grows, goes_trans, same_turns, turns_more, turns_full}
use Rattle.alw_outcomes.proofs.explored.add_turns.Goals as goal

pub add_turn-requires-clause-at : goal.add_turn-requires-clause-at
add_turn-requires-clause-at c = still_there c.args.found.now c.loop-context.found c.args.at c.requires.at c.loop-context.invariant.goes.grows

pub loop-context-preserved : goal.loop-context-preserved
loop-context-preserved c =
    let one = found_in c.args.found.now in
    let two = found_in c.loop-context.found in
    let three = found_in c.add_turn.new.found in
    let within = within_grows one two c.args.at (omega (arith, c.requires.at, places_length c.args.found.now)) c.loop-context.invariant.goes.grows in
    let turns = same_turns c.args.image.now _ _ two c.args.at c.loop-context.context c.in_ok-add_turn.ensures.hint c.loop-context.invariant.turns in
    record {
      goes = goes_trans c.args.image.now one two three c.loop-context.invariant.goes c.in_ok-add_turn.ensures.goes;
      hint = c.in_ok-add_turn.ensures.hint ∙ c.loop-context.invariant.hint;
      stored = c.in_ok-add_turn.ensures.stored;
      few = let one = c.loop-context.invariant.few in let two = c.in_ok-add_turn.ensures.few in omega arith;
      turns =
          turns_more c.args.image.now c.add_turn.new.found.classes.items two three c.args.at c.loop-context.context within c.in_ok-add_turn.ensures.goes turns
          (c.in_ok-add_turn.ensures.turn c.if-not-branch.false);
    }

pub returns-then-not-branch-clause-goes : goal.returns-then-not-branch-clause-goes
returns-then-not-branch-clause-goes c =
    goes_trans c.args.image.now (found_in c.args.found.now) (found_in c.loop-context.found) (found_in c.add_turn.new.found) c.loop-context.invariant.goes c.in_ok-add_turn.ensures.goes

pub tell_halt-requires-clause-at : goal.tell_halt-requires-clause-at
tell_halt-requires-clause-at c = still_there c.args.found.now c.loop-context.found c.args.at c.requires.at c.loop-context.invariant.goes.grows

pub returns-clause-goes : goal.returns-clause-goes
returns-clause-goes c =
    goes_trans c.args.image.now (found_in c.args.found.now) (found_in c.loop-context.found) (found_in c.tell_halt.new.found) c.loop-context.invariant.goes c.in_ok-tell_halt.ensures.goes

pub returns-clause-full : goal.returns-clause-full
returns-clause-full c = λ _.
    let two = found_in c.loop-context.found in
    let within = within_grows (found_in c.args.found.now) two c.args.at (omega (arith, c.requires.at, places_length c.args.found.now)) c.loop-context.invariant.goes.grows in
    let turns = same_turns c.args.image.now _ _ two c.args.at c.loop-context.context c.in_ok-tell_halt.ensures.hint c.loop-context.invariant.turns in
    turns_full c.args.image.now c.tell_halt.new.found.classes.items two (found_in c.tell_halt.new.found) c.args.at c.loop-context.context within c.in_ok-tell_halt.ensures.goes
    (omega (arith, c.contexts_of-context-end.ensures, c.loop-context-test.false)) turns c.in_ok-tell_halt.ensures.tells
