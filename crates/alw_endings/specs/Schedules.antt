-- What a value of endings tells of the machine's runs, whatever their parameters and their schedule.
use Rattle.std.specs.Prelude.{◌≡◌, ℕ, ◌≤◌, true, List, slice_get, Some}
use Rattle.alw_msg.specs.declared.events.Entry.{Entry}
use Rattle.alw_msg.specs.declared.contexts.Status.TheVariants.{Trapped}
use Rattle.alw_msg.specs.Statuses.{has_trapped}
use Rattle.alw_image.specs.declared.parts.Parts.{Parts}
use Rattle.alw_image.specs.Images.{context_count}
use Rattle.alw_image.specs.Parameters.{Parameters}
use Rattle.alw_model.specs.Machine.{IsLegal, state, has_halted}
use Rattle.alw_model.specs.Flat.{Flat, context_at}
use Rattle.alw_model.specs.Runs.{prints_of, flat_view}
use Rattle.alw_model.specs.Counts.{memory_words}
use Rattle.alw_places.specs.Outcomes.{words_of}
use Rattle.alw_endings.specs.declared.values.Outcomes.{Outcomes}
use Rattle.alw_endings.specs.declared.values.HaltEnd.{HaltEnd}
use Rattle.alw_endings.specs.declared.values.TrapEnd.{TrapEnd}
use Rattle.alw_endings.specs.Ends.{prints_by}

-- an outcome with these prints, by context, and with these words of memory is told
pub record TellsHalt (parts : Parts) (told : Outcomes) (prints memory : List (ℕ × ℕ)) : Type 0 where
  pub number : ℕ
  pub halt : HaltEnd
  pub there : slice_get told.halts number ≡ Some halt
  pub prints_are : halt.prints ≡ prints_by (λ context. words_of context prints) (context_count parts)
  pub memory_is : halt.memory ≡ memory

-- the trap that the context has come to is told
pub record TellsTrap (told : Outcomes) (flat : Flat) (context : ℕ) : Type 0 where
  pub number : ℕ
  pub trap : TrapEnd
  pub there : slice_get told.traps number ≡ Some trap
  pub context_is : trap.context ≡ context
  pub left_so : (context_at flat context).status ≡ Trapped trap.pc trap.tt

-- after every legal journal, under all parameters: where all contexts have halted, an outcome with the prints and the memory that a report has;
-- and the trap of each context that has trapped
pub record TellsEveryRun (parts : Parts) (told : Outcomes) : Type 0 where
  pub halted : (parameters : Parameters) → 1 ≤ parameters.pointers → (journal : List Entry) → IsLegal parts parameters journal →
      has_halted (state parts parameters journal) ≡ true →
      TellsHalt parts told (prints_of parts parameters journal) (memory_words parts parameters (state parts parameters journal))
  pub trapped : (parameters : Parameters) → 1 ≤ parameters.pointers → (journal : List Entry) → IsLegal parts parameters journal →
      (context : ℕ) → has_trapped (context_at (flat_view parts parameters (state parts parameters journal)) context).status ≡ true →
      TellsTrap told (flat_view parts parameters (state parts parameters journal)) context
