-- What a value of endings tells of an image: ends that turns on one memory come to, each with turns that lead there.
use Rattle.std.specs.Prelude.{◌≡◌, ℕ, ◌<◌, true, Some, List, [], ◌∷◌, ◌++◌, length, map, slice_get, slice_index_or, ⊤}
use Rattle.std.specs.List.{flat_map, range_with_len, AllByRecursion}
use Rattle.std.specs.List.Sorted.{IsStrictlySortedBy}
use Rattle.alw_msg.specs.Stretches.{stretches, turns_in}
use Rattle.alw_image.specs.declared.parts.Parts.{Parts}
use Rattle.alw_image.specs.Images.{line_count, context_count, zero_line, sizes_of}
use Rattle.alw_model.specs.Counts.{listed_words}
use Rattle.alw_places.specs.Places.{Place, place_start, places_after, IsRun}
use Rattle.alw_places.specs.Outcomes.{Ending, Traps, EndsIn, HasEvery, all_halted, CanEnd, CanAlwaysEnd}
use Rattle.alw_outcomes.specs.Explored.{no_place, halt_of}
use Rattle.alw_outcomes.specs.Endings.{ending_cmp}
use Rattle.alw_endings.specs.declared.values.Outcomes.{Outcomes}
use Rattle.alw_endings.specs.declared.values.HaltEnd.{HaltEnd}
use Rattle.alw_endings.specs.declared.values.TrapEnd.{TrapEnd}
use Rattle.alw_endings.specs.declared.values.StuckRun.{StuckRun}
use Rattle.alw_endings.specs.declared.values.StuckRun.TheVariants.{No, Yes, Unknown}

-- ---- what is told of a place

-- the words that each of so many contexts has printed, with the context, by context
abbrev pub prints_by : (ℕ → List ℕ) → ℕ → List (ℕ × ℕ)
prints_by words contexts = flat_map (λ context. map (λ word. (context, word)) (words context)) (range_with_len 0 contexts)

abbrev pub prints_at : Parts → Place → List (ℕ × ℕ)
prints_at parts place = prints_by (λ context. slice_index_or place.printed context []) (context_count parts)

-- the words of memory that aren't 0, as in a report
abbrev pub memory_at : Parts → Place → List (ℕ × ℕ)
memory_at parts place = listed_words (λ line. slice_index_or place.flat.memory line zero_line) (line_count parts)

-- the place that turns lead to from the start
abbrev pub place_by : Parts → List ℕ → Place
place_by parts turns = places_after parts (place_start parts) turns

-- ---- what can be

-- turns of contexts that are Ready, of which none traps, lead from the start to a place where all contexts have halted, with these prints and this memory
pub record IsHaltEnd (parts : Parts) (halt : HaltEnd) : Type 0 where
  pub turns : List ℕ
  pub lead : halt.runs ≡ stretches turns
  pub run : IsRun parts (place_start parts) turns
  pub halted : all_halted (place_by parts turns) ≡ true
  pub prints : halt.prints ≡ prints_at parts (place_by parts turns)
  pub memory : halt.memory ≡ memory_at parts (place_by parts turns)

-- such turns lead to a place where the context is Ready and its turn traps so, and that turn is the last one of the stretches
pub record IsTrapEnd (parts : Parts) (trap : TrapEnd) : Type 0 where
  pub turns : List ℕ
  pub lead : trap.runs ≡ stretches (turns ++ trap.context ∷ [])
  pub run : IsRun parts (place_start parts) turns
  pub traps : EndsIn parts (place_by parts turns) (Traps trap.context trap.pc trap.tt)

-- ---- the list of endings that is told: by the places that the turns lead to, and by the traps

abbrev pub halt_told : Parts → HaltEnd → Ending
halt_told parts halt = halt_of (place_by parts (turns_in halt.runs))

abbrev pub trap_told : TrapEnd → Ending
trap_told trap = Traps trap.context trap.pc trap.tt

abbrev pub endings_told : Parts → Outcomes → List Ending
endings_told parts told = map (halt_told parts) told.halts ++ map trap_told told.traps

-- ---- the whole

-- such turns lead to a place from which none lead to an end
pub record IsStuckThere (parts : Parts) (runs : List (ℕ × ℕ)) : Type 0 where
  pub turns : List ℕ
  pub lead : runs ≡ stretches turns
  pub run : IsRun parts (place_start parts) turns
  pub never : CanEnd parts (place_by parts turns) → ⊥

-- from each place that turns lead to an end can be reached; or turns lead to one from which none can
abbrev pub IsStuckRun : Parts → StuckRun → Type 0
IsStuckRun parts No = CanAlwaysEnd parts
IsStuckRun parts (Yes runs) = IsStuckThere parts runs
IsStuckRun parts Unknown = ⊤

-- such turns lead from the start to the place
pub record IsReached (parts : Parts) (place : Place) : Type 0 where
  pub turns : List ℕ
  pub run : IsRun parts (place_start parts) turns
  pub there : place_by parts turns ≡ place

-- so many different places are kept, and turns lead to each
pub record KeepsPlaces (parts : Parts) (count : ℕ) : Type 0 where
  pub places : List Place
  pub counted : length places ≡ count
  pub different : (one two : ℕ) → one < length places → two < length places → slice_index_or places one no_place ≡ slice_index_or places two no_place → one ≡ two
  pub reached : (at : ℕ) → (place : Place) → slice_get places at ≡ Some place → IsReached parts place

-- nothing is told that can't be, each once and in order; and where the search is complete, nothing is left out
pub record AreOutcomes (parts : Parts) (told : Outcomes) : Type 0 where
  pub sizes : told.sizes ≡ sizes_of parts
  pub kept : KeepsPlaces parts told.places
  pub halts : AllByRecursion (IsHaltEnd parts) told.halts
  pub traps : AllByRecursion (IsTrapEnd parts) told.traps
  pub ascending : IsStrictlySortedBy ending_cmp (endings_told parts told)
  pub every : told.is_complete ≡ true → HasEvery parts (endings_told parts told)
  pub stuck : IsStuckRun parts told.stuck
