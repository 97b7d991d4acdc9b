-- What a list of endings has of the machine's runs.
use Rattle.std.specs.Prelude.{◌≡◌, ℕ, ◌<◌, ◌≤◌, true, List, [], slice_index_or}
use Rattle.std.specs.List.{Contains}
use Rattle.alw_image.specs.declared.parts.Parts.{Parts}
use Rattle.alw_image.specs.Images.{context_count}
use Rattle.alw_image.specs.Parameters.{Parameters}
use Rattle.alw_msg.specs.declared.events.Entry.{Entry}
use Rattle.alw_msg.specs.declared.contexts.Status.TheVariants.{Trapped}
use Rattle.alw_msg.specs.Statuses.{has_trapped}
use Rattle.alw_model.specs.Machine.{IsLegal, state}
use Rattle.alw_model.specs.Flat.{Flat, context_at}
use Rattle.alw_model.specs.Runs.{prints_of, flat_view}
use Rattle.alw_places.specs.Outcomes.{Ending, Halts, Traps, flat_halted, words_of}

-- the list has an end of this memory, at which each context has printed its words of these
pub record ListsHalt (parts : Parts) (endings : List Ending) (flat : Flat) (prints : List (ℕ × ℕ)) : Type 0 where
  pub printed : List (List ℕ)
  pub listed : Contains endings (Halts printed flat.memory)
  pub words : (context : ℕ) → context < context_count parts → slice_index_or printed context [] ≡ words_of context prints

-- the list has the trap of this context
pub record ListsTrap (endings : List Ending) (flat : Flat) (context : ℕ) : Type 0 where
  pub pc : ℕ
  pub type : ℕ
  pub left : (context_at flat context).status ≡ Trapped pc type
  pub listed : Contains endings (Traps context pc type)

-- the list has what every run of the machine has come to: its memory and prints where all contexts have halted, and the trap of each context that has trapped
pub record ListsAll (parts : Parts) (endings : List Ending) : Type 0 where
  pub halted : (parameters : Parameters) → 1 ≤ parameters.pointers → (journal : List Entry) → IsLegal parts parameters journal → flat_halted (flat_view parts parameters (state parts parameters journal)) ≡ true
      → ListsHalt parts endings (flat_view parts parameters (state parts parameters journal)) (prints_of parts parameters journal)
  pub trapped : (parameters : Parameters) → 1 ≤ parameters.pointers → (journal : List Entry) → IsLegal parts parameters journal → (context : ℕ) → has_trapped (context_at (flat_view parts parameters (state parts parameters journal)) context).status ≡ true
      → ListsTrap endings (flat_view parts parameters (state parts parameters journal)) context
