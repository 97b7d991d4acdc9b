-- By what the turn leads to.
use Rattle.std.proofs.Common.{false, length, arith, ap, sym, subst}
use Rattle.std.proofs.lemmas.Option.{slice_get-get_or}
use Rattle.alw_outcomes.specs.declared.stuck.Look.{Look}
use Rattle.alw_outcomes.specs.Explored.{found_in}
use Rattle.alw_outcomes.specs.Marks.{LooksAlongAt}
use Rattle.alw_outcomes.proofs.Storing.{within_same}
use Rattle.alw_outcomes.proofs.Reaching.{target_within, idle_along, trap_along, goes_along}
use Rattle.alw_outcomes.proofs.stuck.look_along.Goals as goal

pub bounds-marks-target : goal.bounds-marks-target
bounds-marks-target c =
    let within = target_within c.lead_at.new.found c.in-Some.target _ (rw c.in-Some.is at c.in_ok-target-in-Goes.ensures) in
    let long = ap length c.in_ok-lead_at.ensures.memories in
    omega (arith, within, long, c.requires.length)

pub returns-in-Idle-clause-look : goal.returns-in-Idle-clause-look
returns-in-Idle-clause-look c =
    idle_along c.args.image.now c.args.found.now c.lead_at.new.found c.args.marks.now c.args.at c.args.context c.in_ok-lead_at.ensures.same c.in_ok-lead_at.ensures.hint
    (within_same c.lead_at.new.found c.args.found.now c.args.at c.requires.at c.in_ok-lead_at.ensures.memories) (rw c.in-Idle.is at c.in_ok-lead_at.ensures.lead)

pub returns-in-Traps-clause-look : goal.returns-in-Traps-clause-look
returns-in-Traps-clause-look c =
    trap_along c.args.image.now c.args.found.now c.lead_at.new.found c.args.marks.now c.args.at c.args.context c.in_ok-lead_at.ensures.same c.in_ok-lead_at.ensures.hint
    (within_same c.lead_at.new.found c.args.found.now c.args.at c.requires.at c.in_ok-lead_at.ensures.memories) c.in-Traps.pc c.in-Traps.tt (rw c.in-Traps.is at c.in_ok-lead_at.ensures.lead)

pub returns-in-Some-clause-look : goal.returns-in-Some-clause-look
returns-in-Some-clause-look c =
    let row = rw c.in-Some.is at c.in_ok-target-in-Goes.ensures in
    let within = target_within c.lead_at.new.found c.in-Some.target _ row in
    let long = ap length c.in_ok-lead_at.ensures.memories in
    subst (λ (look : Look). LooksAlongAt c.args.image.now c.args.found.now.classes.items (found_in c.args.found.now) c.args.marks.now c.args.at c.args.context look) (sym c.look_by-look.ensures)
    (goes_along c.args.image.now c.args.found.now c.lead_at.new.found c.args.marks.now c.args.at c.args.context c.in_ok-lead_at.ensures.same c.in_ok-lead_at.ensures.hint
    (within_same c.lead_at.new.found c.args.found.now c.args.at c.requires.at c.in_ok-lead_at.ensures.memories) c.in-Goes.to c.in-Goes.more c.in-Some.target c.in-Goes.first _ c.requires.real
    c.requires.marks c.requires.context (rw c.in-Goes.is at c.in_ok-lead_at.ensures.lead) row
    (slice_get-get_or c.args.marks.now c.in-Some.target false (omega (arith, within, long, c.requires.length))))
