-- The event is looked at, happens, and is kept.
use Rattle.std.proofs.Common.{Bool, sym, subst, ◌∙◌}
use Rattle.alw_msg.specs.declared.events.Event.{Event}
use Rattle.alw_msg.specs.declared.events.Event.TheVariants.{Instr}
use Rattle.alw_timing.specs.Takes.{WasTaken}
use Rattle.alw_timing.specs.Timing.{IsLookAt}
use Rattle.alw_timing.proofs.Looking.{may_here}
use Rattle.alw_timing.proofs.Keeping.{few_times}
use Rattle.alw_timing.proofs.timing.Timekeeper.happen.Goals as goal

pub turn-requires : goal.turn-requires
turn-requires c = let (start, so_far) = c.requires.kept in few_times start c.args.machine.now c.args.self.now c.journal-run.ensures.run so_far

pub pass-requires-clause-within : goal.pass-requires-clause-within
pass-requires-clause-within c = let (start, so_far) = c.requires.kept in few_times start c.args.machine.now c.args.self.now c.journal-run.ensures.run so_far

pub returns-in-Some-clause-kept : goal.returns-in-Some-clause-kept
returns-in-Some-clause-kept c start so_far =
    let plain = c.in-Some.ensures in
    let was : WasTaken c.args.machine.now c.args.event c.take.new.self c.in_ok-moment.moment c.look_at-look.result c.args.self.now = record {
      run = c.journal-run.ensures.run;
      here = may_here c.args.machine.now c.args.event c.requires.may;
      grew = c.in_ok-moment.ensures.0.after_is;
      legal = c.in_ok-moment.ensures.0.run.legal;
      look_is = subst (λ (waits : Bool). IsLookAt c.args.machine.now c.args.self.now.times.clocks c.args.event waits c.look_at-look.result) c.is_some-waits.ensures c.look_at-look.ensures;
      moment_is = c.in_ok-moment.ensures.1;
    } in
    let turned : WasTaken c.args.machine.now (Instr c.in-Some.node) c.take.new.self c.in_ok-moment.moment c.look_at-look.result c.args.self.now =
    subst (λ (event : Event). WasTaken c.args.machine.now event c.take.new.self c.in_ok-moment.moment c.look_at-look.result c.args.self.now) plain.0 was in
    c.in_ok-turn.ensures c.in_ok-moment.moment plain.1 plain.2 (sym c.is_some-waits.ensures ∙ plain.3) c.args.machine.now turned start so_far

pub returns-clause-kept : goal.returns-clause-kept
returns-clause-kept c start so_far =
    let was : WasTaken c.args.machine.now c.args.event c.take.new.self c.in_ok-moment.moment c.look_at-look.result c.args.self.now = record {
      run = c.journal-run.ensures.run;
      here = may_here c.args.machine.now c.args.event c.requires.may;
      grew = c.in_ok-moment.ensures.0.after_is;
      legal = c.in_ok-moment.ensures.0.run.legal;
      look_is = subst (λ (waits : Bool). IsLookAt c.args.machine.now c.args.self.now.times.clocks c.args.event waits c.look_at-look.result) c.is_some-waits.ensures c.look_at-look.ensures;
      moment_is = c.in_ok-moment.ensures.1;
    } in
    c.in_ok-pass.ensures c.args.machine.now was start so_far
