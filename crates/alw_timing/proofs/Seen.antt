-- Which slots an event made Ready matters to times where it is a delivery alone.
use Rattle.std.proofs.Common.{◌≡◌, ℕ, List, refl}
use Rattle.alw_msg.specs.declared.events.Event.{Event}
use Rattle.alw_msg.specs.declared.events.Event.TheVariants.{Instr, Handle, Deliver, Evict}
use Rattle.alw_msg.specs.declared.messages.Msg.{Msg}
use Rattle.alw_image.specs.declared.parts.Parts.{Parts}
use Rattle.alw_times.specs.declared.costs.Costs.{Costs}
use Rattle.alw_times.specs.declared.happenings.TimedMoment.{TimedMoment}
use Rattle.alw_times.specs.Times.{Times, passed, finish_of}
use Rattle.alw_waits.specs.declared.waits.Waited.{Waited}
use Rattle.alw_waits.specs.Waits.{WaitsSoFar, told_by}
use Rattle.alw_timing.specs.Timing.{for_delivery}

-- what is seen of what happened
abbrev pub seen : Event → TimedMoment → TimedMoment
seen event happened = record happened { event = event; woken = for_delivery event happened.woken }

module _ (parts : Parts) (costs : Costs) (happened : TimedMoment) where
  abbrev whole : Event → TimedMoment
  whole event = record happened { event = event }

  -- it finishes alike
  pub finish_seen : (times : Times) (sends : List (ℕ × Msg)) (event : Event) → finish_of parts costs times (seen event happened) sends ≡ finish_of parts costs times (whole event) sends
  finish_seen times sends (Instr at) = refl
  finish_seen times sends (Handle at) = refl
  finish_seen times sends (Deliver from to) = refl
  finish_seen times sends (Evict at set) = refl

  -- the times after it are alike
  pub passed_seen : (times : Times) (sends : List (ℕ × Msg)) (event : Event) → passed parts costs times (seen event happened) sends ≡ passed parts costs times (whole event) sends
  passed_seen times sends (Instr at) = refl
  passed_seen times sends (Handle at) = refl
  passed_seen times sends (Deliver from to) = refl
  passed_seen times sends (Evict at set) = refl

  -- waits are told of it alike
  pub told_seen : (waits : WaitsSoFar) (told : Waited) (event : Event) → told_by parts costs waits (seen event happened) told event ≡ told_by parts costs waits (whole event) told event
  told_seen waits told (Instr at) = refl
  told_seen waits told (Handle at) = refl
  told_seen waits told (Deliver from to) = refl
  told_seen waits told (Evict at set) = refl
