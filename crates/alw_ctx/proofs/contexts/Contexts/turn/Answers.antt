-- The slot's place has taken the turn.
use Rattle.std.proofs.Common.{◌≡◌, ◌↔◌, ◌<◌, length, ap, rules, arith}
use Rattle.alw_num.specs.declared.addresses.LineNo.{LineNo}
use Rattle.alw_num.specs.declared.states.Mode.{Mode}
use Rattle.sparc_table.specs.Turns.{need_of, turn_of}
use Rattle.sparc_table.specs.declared.registers.Regs.{Regs}
use Rattle.sparc_table.specs.declared.outcomes.Outcome.TheVariants as ends
use Rattle.sparc_exec.specs.Runs.{seen, IsRunWith, CopyIsMissing}
use Rattle.alw_model.specs.Contexts.{Slot}
use Rattle.alw_ctx.specs.Residents.{slots_of}
use Rattle.alw_ctx.proofs.Slots.{length_slots, of_slot, turned, same_contexts}
use Rattle.alw_ctx.proofs.Holds.{hold_counted, hold_ends}
use Rattle.alw_ctx.proofs.contexts.Contexts.turn.Goals as goal

pub returns-clause-run : goal.returns-clause-run
returns-clause-run g c =
    let inside = c.self.inside in
    let size = length_slots inside.count inside.places (omega (arith, c.self.invariant.1, c.self.invariant.2)) in
    let within : c.args.slot < length (slots_of inside.count inside.places) = rw (← c.self.view_is) at c.requires in
    let lines = g.P.Port.lines c.args.port.now in
    let Runs : Regs → Regs → Type 0 = λ r r'. IsRunWith (need_of c.args.code.now r lines) (turn_of c.args.code.now r lines)
    (seen r (g.P.Port.copy c.args.port.now) (g.P.Port.calls c.args.port.now)) (seen r' (g.P.Port.copy c.turn.new.port) (g.P.Port.calls c.turn.new.port)) c.turn.result in
    rw (← c.self.view_is) (of_slot Runs inside.count inside.places c.args.slot _ c.turn.new.self (omega (arith, within, size)) (omega (arith, c.self.invariant.1, c.self.invariant.2)) c.turn.ensures.run)

pub returns-clause-missed : goal.returns-clause-missed
returns-clause-missed g c =
    let inside = c.self.inside in
    let size = length_slots inside.count inside.places (omega (arith, c.self.invariant.1, c.self.invariant.2)) in
    let within : c.args.slot < length (slots_of inside.count inside.places) = rw (← c.self.view_is) at c.requires in
    let Misses : Regs → Regs → Type 0 = λ r _. (line : LineNo) → (mode : Mode) → (c.turn.result ≡ ends.Miss line mode) ↔ CopyIsMissing (need_of c.args.code.now r (g.P.Port.lines c.args.port.now)) (g.P.Port.copy c.args.port.now) line mode in
    rw (← c.self.view_is) (of_slot Misses inside.count inside.places c.args.slot _ c.turn.new.self (omega (arith, within, size)) (omega (arith, c.self.invariant.1, c.self.invariant.2)) c.turn.ensures.missed)

pub returns-clause-contexts : goal.returns-clause-contexts
returns-clause-contexts g c =
    let inside = c.self.inside in
    let size = length_slots inside.count inside.places (omega (arith, c.self.invariant.1, c.self.invariant.2)) in
    let within : c.args.slot < length (slots_of inside.count inside.places) = rw (← c.self.view_is) at c.requires in
    rw (← c.self.view_is) (same_contexts _ _ _ (turned inside.count inside.places c.args.slot c.turn.new.self c.turn.result (omega (arith, within, size)) (omega (arith, c.self.invariant.1, c.self.invariant.2)) c.turn.ensures.left))

pub overflow_sub-self : goal.overflow_sub-self
overflow_sub-self g c =
    let here : c.args.slot < length (slots_of c.self.inside.count c.self.inside.places) = rw (← c.self.view_is) at c.requires in
    hold_counted _ _ _ _ _ _ c.self.invariant here c.holds.result c.holds.ensures.count

pub invariant_of-self : goal.invariant_of-self
invariant_of-self g c =
    let here : c.args.slot < length (slots_of c.self.inside.count c.self.inside.places) = rw (← c.self.view_is) at c.requires in
    hold_ends _ _ _ _ _ _ c.self.invariant here c.turn.new.self c.holds.result c.holds.ensures.count (ap (λ (s : Slot). s.hold) c.turn.ensures.left)
