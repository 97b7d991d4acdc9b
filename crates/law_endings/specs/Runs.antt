-- What a value of endings tells of runs of the machine, with one context a node: each outcome and each trap is one of a run, the limit aside.
use Rattle.std.specs.Prelude.{◌≡◌, ℕ, ◌⊎◌, Some, List, ◌++◌, slice_get}
use Rattle.alw_image.specs.declared.parts.Parts.{Parts}
use Rattle.alw_image.specs.Images.{IsImage, context_count}
use Rattle.alw_image.specs.Parameters.{Parameters, AreParameters}
use Rattle.alw_msg.specs.declared.contexts.Status.TheVariants as statuses
use Rattle.alw_msg.specs.declared.events.Entry.{Entry}
use Rattle.alw_msg.specs.Stretches.{turns_in}
use Rattle.alw_model.specs.Headline.{IsScheduled}
use Rattle.alw_model.specs.Machine.{IsLegal, state, end_of, Halted, Trapped}
use Rattle.alw_model.specs.Flat.{context_at}
use Rattle.alw_model.specs.Runs.{turns_of, prints_of, flat_view}
use Rattle.alw_model.specs.Counts.{memory_words}
use Rattle.alw_places.specs.Outcomes.{words_of}
use Rattle.alw_endings.specs.declared.values.Outcomes.{Outcomes}
use Rattle.alw_endings.specs.declared.values.HaltEnd.{HaltEnd}
use Rattle.alw_endings.specs.declared.values.TrapEnd.{TrapEnd}
use Rattle.alw_endings.specs.declared.values.StuckRun.TheVariants.{Yes}
use Rattle.alw_endings.specs.Ends.{prints_by, AreOutcomes}
use Rattle.law_turns.specs.Limits.{PassesLimit}
use Rattle.law_turns.specs.Stuck.{HasEnded}

-- a legal journal, made event by event, in which contexts take exactly these turns, in this order
pub record IsRunOf (parts : Parts) (parameters : Parameters) (turns : List ℕ) (journal : List Entry) : Type 0 where
  pub legal : IsLegal parts parameters journal
  pub scheduled : IsScheduled parts parameters journal
  pub taken : turns_of parts parameters journal ≡ turns

-- such a journal of which this holds, or the limit alone stands against these turns
abbrev pub HasRun : Parts → Parameters → List ℕ → (List Entry → Type 0) → Type 0
HasRun parts parameters turns Holds = ((journal : List Entry) × (IsRunOf parts parameters turns journal × Holds journal)) ⊎ PassesLimit parts parameters turns

-- a journal at whose end all contexts have halted, with the prints, by context, and the memory of an outcome
pub record ComesToHalt (parts : Parts) (parameters : Parameters) (halt : HaltEnd) (journal : List Entry) : Type 0 where
  pub ended : end_of parts parameters (state parts parameters journal) ≡ Some Halted
  pub prints : halt.prints ≡ prints_by (λ context. words_of context (prints_of parts parameters journal)) (context_count parts)
  pub memory : halt.memory ≡ memory_words parts parameters (state parts parameters journal)

-- a journal at whose end a context has trapped so
pub record ComesToTrap (parts : Parts) (parameters : Parameters) (trap : TrapEnd) (journal : List Entry) : Type 0 where
  pub ended : end_of parts parameters (state parts parameters journal) ≡ Some Trapped
  pub left_so : (context_at (flat_view parts parameters (state parts parameters journal)) trap.context).status ≡ statuses.Trapped trap.pc trap.tt

-- a journal behind which none that is legal comes to an end
abbrev pub NeverEnds : Parts → Parameters → List Entry → Type 0
NeverEnds parts parameters journal = (more : List Entry) → IsLegal parts parameters (journal ++ more) → HasEnded parts parameters (journal ++ more) → ⊥

-- each outcome and each trap that is told is one of a run, with the turns that are told with it; and so is the place from which no end can be reached
pub record TellsRuns (parts : Parts) (parameters : Parameters) (told : Outcomes) : Type 0 where
  pub halts : (number : ℕ) (halt : HaltEnd) → slice_get told.halts number ≡ Some halt → HasRun parts parameters (turns_in halt.runs) (ComesToHalt parts parameters halt)
  pub traps : (number : ℕ) (trap : TrapEnd) → slice_get told.traps number ≡ Some trap → HasRun parts parameters (turns_in trap.runs) (ComesToTrap parts parameters trap)
  pub stuck : (runs : List (ℕ × ℕ)) → told.stuck ≡ Yes runs → HasRun parts parameters (turns_in runs) (NeverEnds parts parameters)

-- so it is of what is told of an image with one context a node, under all parameters
abbrev pub EveryEndIsOfARun : Type 0
EveryEndIsOfARun = (parts : Parts) → IsImage parts → parts.contexts ≡ 1 → (told : Outcomes) → AreOutcomes parts told → (parameters : Parameters) → AreParameters parameters → TellsRuns parts parameters told

-- a journal comes to each outcome and each trap that is told with its turns
pub record ComesToTold (parts : Parts) (parameters : Parameters) (told : Outcomes) (journal : List Entry) : Type 0 where
  pub halts : (number : ℕ) (halt : HaltEnd) → slice_get told.halts number ≡ Some halt → turns_of parts parameters journal ≡ turns_in halt.runs → ComesToHalt parts parameters halt journal
  pub traps : (number : ℕ) (trap : TrapEnd) → slice_get told.traps number ≡ Some trap → turns_of parts parameters journal ≡ turns_in trap.runs → ComesToTrap parts parameters trap journal

-- so does each legal journal that has ended, however many contexts a node has
abbrev pub EveryRunComesToTold : Type 0
EveryRunComesToTold = (parts : Parts) → (told : Outcomes) → AreOutcomes parts told → (parameters : Parameters) → AreParameters parameters → (journal : List Entry) → IsLegal parts parameters journal → HasEnded parts parameters journal
    → ComesToTold parts parameters told journal
