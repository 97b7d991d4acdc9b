-- What taking an event keeps of times.
use Rattle.std.specs.Prelude.{◌≡◌, ◌<◌, Bool, true, false, is_some}
use Rattle.sparc_table.specs.declared.outcomes.Outcome.TheVariants.{Halt}
use Rattle.alw_msg.specs.declared.events.Event.{Event}
use Rattle.alw_msg.specs.Events.{node_of}
use Rattle.alw_image.specs.Images.{node_count}
use Rattle.alw_model.specs.declared.steps.Did.{Did}
use Rattle.alw_model.specs.declared.steps.Did.TheVariants.{Turn}
use Rattle.alw_model.specs.Machine.{IsLegal}
use Rattle.alw_tally.specs.declared.moments.Moment.{Moment}
use Rattle.alw_mesh.specs.Histories.{History, IsRun, grown}
use Rattle.alw_mesh.specs.Moments.{IsMomentOf}
use Rattle.alw_timing.specs.declared.looks.Look.{Look}
use Rattle.alw_timing.specs.declared.timing.Timekeeper.{Timekeeper}
use Rattle.alw_timing.specs.Timing.{TimesAreKept, IsLookAt}

-- a turn halts its context
abbrev pub halts_with : Did → Bool
halts_with (Turn slot Halt) = true
halts_with _ = false

-- ---- for private clauses

-- an event of a run was looked at, and has happened
pub record WasTaken (h : History) (event : Event) (after : History) (moment : Moment) (look : Look) (before : Timekeeper) : Type 0 where
  pub run : IsRun h
  pub here : node_of event < node_count h.image
  pub grew : after ≡ grown h event
  pub legal : IsLegal after.image after.parameters after.journal
  pub look_is : IsLookAt h before.times.clocks event (is_some before.times.waits) look
  pub moment_is : IsMomentOf h event after moment

-- the times that were kept before it are kept with it
abbrev pub EventIsKept : Event → History → Moment → Look → Timekeeper → Timekeeper → Type 0
EventIsKept event after moment look before now = (h : History) → WasTaken h event after moment look before → (start : Timekeeper) → TimesAreKept start h before → TimesAreKept start after now
