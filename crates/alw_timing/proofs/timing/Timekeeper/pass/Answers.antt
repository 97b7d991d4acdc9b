-- The times of an event more are kept.
use Rattle.std.proofs.Common.{◌≡◌, refl, ap, ◌∙◌}
use Rattle.std.specs.Option.{option_map}
use Rattle.alw_image.specs.declared.parts.Parts.{Parts}
use Rattle.alw_times.specs.Times.{start_of, finish_of, passed}
use Rattle.alw_times.specs.declared.happenings.TimedMoment.{TimedMoment}
use Rattle.alw_waits.specs.declared.waits.Waited.{Waited}
use Rattle.alw_waits.specs.Waits.{told_by}
use Rattle.alw_mesh.specs.Histories.{History}
use Rattle.alw_timing.proofs.Keeping.{IsTimedMoment, goes_on}
use Rattle.alw_timing.proofs.timing.Timekeeper.pass.Goals as goal

pub returns : goal.returns
returns c h was start so_far =
    let after = c.args.machine.now in
    let event = c.args.event in
    let now = c.args.self.now in
    let costs = now.costs in
    let times = now.times in
    let look = c.args.look.now in
    let moment = c.args.moment.now in
    let span = c.in_ok-span.span in
    let sends = c.last_sent.result.now.messages in
    let happened : TimedMoment = record {
      event = event;
      slot = look.slot;
      last = look.last;
      taken = c.kind_of.result;
      did = moment.did;
      woken = c.woken_since.result;
    } in
    let what : Waited = record { asked = look.asked; taken = moment.taken; arrival = look.arrival; span = span } in
    let told : IsTimedMoment h after event times.clocks times.waits look moment.taken happened = record {
      look_is = was.look_is;
      message_is = was.moment_is.taken;
      sends = was.moment_is.sends;
      event_is = refl;
      slot = refl;
      last = refl;
      taken = c.kind_of.ensures;
      did = was.moment_is.did;
      woken = c.woken_since.ensures;
    } in
    let image : c.image.result.now ≡ h.image = c.image.ensures ∙ ap (λ (g : History). g.image) was.grew in
    let other : c.image-2.result.now ≡ h.image = c.image-2.ensures ∙ ap (λ (g : History). g.image) was.grew in
    goes_on h after was.run event was.here was.grew was.legal
    start now _ look moment.taken happened sends span so_far told c.last_sent.ensures
    (c.in_ok-span.ensures.start ∙ ap (λ (parts : Parts). start_of parts costs times.clocks happened) image)
    (c.in_ok-span.ensures.finish ∙ ap (λ (parts : Parts). finish_of parts costs times.clocks happened sends) image)
    refl
    (c.in_ok-span.ensures.passed ∙ ap (λ (parts : Parts). passed parts costs times.clocks happened sends) image)
    c.in_ok-span.ensures.within
    (c.in_ok-tell.ensures ∙ ap (λ (parts : Parts). option_map (λ so_far. told_by parts costs so_far happened what event) times.waits) other)
    c.in_ok-keep.ensures
