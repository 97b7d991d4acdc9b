-- The command `outcomes`.
use Rattle.std.specs.Prelude.{◌≡◌, ℕ, ◌≤◌, max, Bool, true, false, ◌&&◌, None, List, [], ◌∷◌}
use Rattle.alw_image.specs.Faults.{image_in, image_fault}
use Rattle.alw_image.specs.Images.{IsImage, spelling}
use Rattle.alw_image.specs.declared.parts.Parts.{Parts}
use Rattle.alw_report.specs.declared.values.Report.{Report}
use Rattle.alw_endings.specs.declared.values.Outcomes.{Outcomes}
use Rattle.alw_endings.specs.declared.values.StuckRun.{StuckRun}
use Rattle.alw_endings.specs.declared.values.StuckRun.TheVariants.{No}
use Rattle.alw_endings.specs.declared.values.TrapEnd.{TrapEnd}
use Rattle.alw_endings.specs.Ends.{AreOutcomes}
use Rattle.alw_endings.specs.Schedules.{TellsHalt}
use Rattle.alw_endings.specs.Texts.{outcomes_text}
use Rattle.alw_answers.specs.declared.outputs.Ending.{Ending}
use Rattle.alw_answers.specs.declared.outputs.Ending.TheVariants.{Fine, MayTrap, MayNotEnd}
use Rattle.alw_answers.specs.declared.outputs.Output.{Output}
use Rattle.alw_answers.specs.Outputs.{IsText, is_search}
use Rattle.alw_answers.specs.Refusals.{IsNoImage}
use Rattle.alw_answers.specs.Tasks.{Task}

-- an end can be reached from each place
abbrev pub is_never_stuck : StuckRun → Bool
is_never_stuck No = true
is_never_stuck _ = false

-- how a search ends that told no trap: it went on from every place, and an end can be reached from each
abbrev pub ending_of_search : Bool → Ending
ending_of_search true = Fine
ending_of_search false = MayNotEnd

-- how a search ends by what it told
abbrev pub ending_of_traps : List TrapEnd → Bool → Ending
ending_of_traps [] ends = ending_of_search ends
ending_of_traps (trap ∷ rest) ends = MayTrap

abbrev pub ending_of_outcomes : Outcomes → Ending
ending_of_outcomes told = ending_of_traps told.traps (told.is_complete && is_never_stuck told.stuck)

-- the bytes are an image, and the text tells what it can come to, by a search that stops only where it keeps so many different places
pub record Searches (most : ℕ) (bytes : List ℕ) (output : Output) : Type 0 where
  pub accepted : image_fault bytes ≡ None
  pub spelled : bytes ≡ spelling (image_in bytes)
  pub image : IsImage (image_in bytes)
  pub told : Outcomes
  pub are : AreOutcomes (image_in bytes) told
  pub stopped : told.is_complete ≡ false → most ≤ told.places
  pub few : told.places ≤ max most 1
  pub text : IsText output (outcomes_text told) (ending_of_outcomes told)

-- an outcome with the prints of a report, by context, and with its memory is told
abbrev pub TellsReport : Parts → Outcomes → Report → Type 0
TellsReport image told report = TellsHalt image told report.prints report.memory

abbrev pub search_task : ℕ → Task
search_task most = record { reads = true; Makes = Searches most; Refuses = IsNoImage; Accepts = λ bytes. image_fault bytes ≡ None; is_done = is_search }
