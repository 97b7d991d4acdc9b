-- The times of a turn more are kept.
use Rattle.std.proofs.Common.{◌≡◌, false, [], ◌∷◌, refl, sym, ap, ◌∙◌}
use Rattle.alw_msg.specs.declared.events.Event.TheVariants.{Instr}
use Rattle.alw_image.specs.declared.parts.Parts.{Parts}
use Rattle.alw_times.specs.Happening.{kind_of, IsTurnOf}
use Rattle.alw_times.specs.Times.{start_of, finish_of, passed}
use Rattle.alw_times.specs.declared.happenings.TimedMoment.{TimedMoment}
use Rattle.alw_mesh.specs.Histories.{History}
use Rattle.alw_timing.proofs.Keeping.{IsTimedMoment, none_told, goes_on}
use Rattle.alw_timing.proofs.timing.Timekeeper.turn.Goals as goal

pub returns : goal.returns
returns c moment turn silent none h was start so_far =
    let after = c.args.machine.now in
    let event = Instr c.args.node in
    let now = c.args.self.now in
    let costs = now.costs in
    let times = now.times in
    let look = c.args.look.now in
    let span = c.turn-span.result in
    let happened : TimedMoment = record {
      event = event;
      slot = look.slot;
      last = look.last;
      taken = kind_of moment.taken;
      did = moment.did;
      woken = false ∷ false ∷ false ∷ false ∷ [];
    } in
    let is_turn_of : IsTurnOf c.args.node look.slot look.last happened = record { event_is = refl; slot_is = refl; last_is = refl; turn_is = turn } in
    let told : IsTimedMoment h after event times.clocks times.waits look moment.taken happened = record {
      look_is = was.look_is;
      message_is = was.moment_is.taken;
      sends = was.moment_is.sends;
      event_is = refl;
      slot = refl;
      last = refl;
      taken = refl;
      did = was.moment_is.did;
      woken = λ before ready. refl;
    } in
    let image : c.image.result.now ≡ h.image = c.image.ensures ∙ ap (λ (g : History). g.image) was.grew in
    goes_on h after was.run event was.here was.grew was.legal
    start now _ look moment.taken happened [] span so_far told (sym silent)
    (c.turn-span.ensures.start happened is_turn_of ∙ ap (λ (parts : Parts). start_of parts costs times.clocks happened) image)
    (c.turn-span.ensures.finish happened is_turn_of ∙ ap (λ (parts : Parts). finish_of parts costs times.clocks happened []) image)
    refl
    (c.turn-span.ensures.passed happened is_turn_of ∙ ap (λ (parts : Parts). passed parts costs times.clocks happened []) image)
    c.turn-span.ensures.within
    (none_told _ times.waits none)
    c.in_ok-keep.ensures
