-- By what the turn leads to.
use Rattle.std.proofs.Common.{List, sym, subst}
use Rattle.alw_places.specs.declared.classes.Class.{Class}
use Rattle.alw_outcomes.specs.Explored.{found_in, places_in, HasTurn}
use Rattle.alw_outcomes.proofs.Going.{stands_at, idle_done, break_done, trap_done, kept_turn, kept_goes}
use Rattle.alw_outcomes.proofs.explored.add_turn.Goals as goal

pub returns-in-Idle-clause-goes : goal.returns-in-Idle-clause-goes
returns-in-Idle-clause-goes c =
    let stands = stands_at c.args.image.now c.args.found.now c.lead_at.new.found c.args.at c.requires.real c.requires.at c.in_ok-lead.ensures.same c.in_ok-lead.ensures.memories in
    (idle_done _ c.lead_at.new.found.classes.items _ _ _ c.args.context stands (rw c.in-Idle.is at c.in_ok-lead.ensures.lead)).goes

pub returns-in-Idle-clause-turn : goal.returns-in-Idle-clause-turn
returns-in-Idle-clause-turn c = λ _.
    let stands = stands_at c.args.image.now c.args.found.now c.lead_at.new.found c.args.at c.requires.real c.requires.at c.in_ok-lead.ensures.same c.in_ok-lead.ensures.memories in
    (idle_done _ c.lead_at.new.found.classes.items _ _ _ c.args.context stands (rw c.in-Idle.is at c.in_ok-lead.ensures.lead)).turn

pub returns-in_ok-push-in-Breaks-clause-goes : goal.returns-in_ok-push-in-Breaks-clause-goes
unfolding places_in
returns-in_ok-push-in-Breaks-clause-goes c =
    let stands = stands_at c.args.image.now c.args.found.now c.lead_at.new.found c.args.at c.requires.real c.requires.at c.in_ok-lead.ensures.same c.in_ok-lead.ensures.memories in
    (break_done _ c.lead_at.new.found.classes.items _ _ _ c.args.context stands c.in-Breaks.turn c.push.new.self.items
    (rw c.in-Breaks.is at c.in_ok-lead.ensures.lead).1 c.in_ok-push-in-Breaks.ensures.items).goes

pub returns-in_ok-push-in-Traps-clause-goes : goal.returns-in_ok-push-in-Traps-clause-goes
unfolding places_in
returns-in_ok-push-in-Traps-clause-goes c =
    let stands = stands_at c.args.image.now c.args.found.now c.lead_at.new.found c.args.at c.requires.real c.requires.at c.in_ok-lead.ensures.same c.in_ok-lead.ensures.memories in
    (trap_done _ c.lead_at.new.found.classes.items _ _ _ c.args.context stands c.in-Traps.pc c.in-Traps.tt c.push-in-Traps.new.self.items
    (rw c.in-Traps.is at c.in_ok-lead.ensures.lead) c.in_ok-push-in-Traps.ensures.items).goes

pub returns-in_ok-kept-in-Goes-clause-goes : goal.returns-in_ok-kept-in-Goes-clause-goes
returns-in_ok-kept-in-Goes-clause-goes c =
    let stands = stands_at c.args.image.now c.args.found.now c.lead_at.new.found c.args.at c.requires.real c.requires.at c.in_ok-lead.ensures.same c.in_ok-lead.ensures.memories in
    kept_goes _ c.lead_at.new.found.classes.items _ _ _ c.args.context stands c.in-Goes.to c.in-Goes.more _ (found_in c.add.new.found) c.requires.context
    (rw c.in-Goes.is at c.in_ok-lead.ensures.lead) c.in_ok-kept-in-Goes.kept c.in_ok-kept-in-Goes.ensures.adds c.in_ok-kept-in-Goes.ensures.full

pub returns-in_ok-push-in-Breaks-clause-turn : goal.returns-in_ok-push-in-Breaks-clause-turn
unfolding places_in
returns-in_ok-push-in-Breaks-clause-turn c = λ _.
    let stands = stands_at c.args.image.now c.args.found.now c.lead_at.new.found c.args.at c.requires.real c.requires.at c.in_ok-lead.ensures.same c.in_ok-lead.ensures.memories in
    (break_done _ c.lead_at.new.found.classes.items _ _ _ c.args.context stands c.in-Breaks.turn c.push.new.self.items
    (rw c.in-Breaks.is at c.in_ok-lead.ensures.lead).1 c.in_ok-push-in-Breaks.ensures.items).turn

pub returns-in_ok-push-in-Traps-clause-turn : goal.returns-in_ok-push-in-Traps-clause-turn
unfolding places_in
returns-in_ok-push-in-Traps-clause-turn c = λ _.
    let stands = stands_at c.args.image.now c.args.found.now c.lead_at.new.found c.args.at c.requires.real c.requires.at c.in_ok-lead.ensures.same c.in_ok-lead.ensures.memories in
    (trap_done _ c.lead_at.new.found.classes.items _ _ _ c.args.context stands c.in-Traps.pc c.in-Traps.tt c.push-in-Traps.new.self.items
    (rw c.in-Traps.is at c.in_ok-lead.ensures.lead) c.in_ok-push-in-Traps.ensures.items).turn

pub returns-in_ok-kept-in-Goes-clause-turn : goal.returns-in_ok-kept-in-Goes-clause-turn
returns-in_ok-kept-in-Goes-clause-turn c = λ yes'.
    let stands = stands_at c.args.image.now c.args.found.now c.lead_at.new.found c.args.at c.requires.real c.requires.at c.in_ok-lead.ensures.same c.in_ok-lead.ensures.memories in
    subst (λ (l : List Class). HasTurn c.args.image.now l (found_in c.add.new.found) c.args.at c.args.context) (sym c.in_ok-kept-in-Goes.ensures.hint)
    (kept_turn _ c.lead_at.new.found.classes.items _ _ _ c.args.context stands c.in-Goes.to c.in-Goes.more _ (found_in c.add.new.found) c.requires.context
    (rw c.in-Goes.is at c.in_ok-lead.ensures.lead) c.in_ok-kept-in-Goes.kept c.in_ok-kept-in-Goes.ensures.adds c.in_ok-kept-in-Goes.ensures.full yes')

pub returns-in_ok-push-in-Breaks-clause-stored : goal.returns-in_ok-push-in-Breaks-clause-stored
returns-in_ok-push-in-Breaks-clause-stored c =
    let before = c.in_ok-lead.ensures.stored in
    record {
      width = before.width;
      rows = before.rows;
      memory_in = before.memory_in;
      seat_in = before.seat_in;
      pools = before.pools;
      leads = before.leads;
      breaks = λ _. record { context = c.args.context; need = _; broken = (rw c.in-Breaks.is at c.in_ok-lead.ensures.lead).1 };
      indexed = before.indexed;
    }
