-- What turns on the flat memory can come to, in whatever order, and the sets of places that tell all of it.
use Rattle.std.specs.Prelude.{◌≡◌, ℕ, ◌<◌, ◌==◌, if◌then◌else◌, Bool, true, ◌⊎◌, List, [], ◌∷◌, slice_index_or}
use Rattle.std.specs.List.{list_all, Contains}
use Rattle.alw_num.specs.declared.addresses.Line.{Line}
use Rattle.sparc_table.specs.declared.outcomes.Outcome.TheVariants.{Trap}
use Rattle.alw_msg.specs.Statuses.{is_halted}
use Rattle.alw_image.specs.declared.parts.Parts.{Parts}
use Rattle.alw_image.specs.Images.{context_count}
use Rattle.alw_msg.specs.declared.contexts.Status.TheVariants.{Trapped}
use Rattle.alw_model.specs.Flat.{Flat, Context, context_at}
use Rattle.alw_places.specs.Places.{Place, place_start, place_turn, places_after, outcome_at, regs_at, IsReadyAt, GoesOn, IsRun, IsLocal, IsForward}

-- what a run comes to: all contexts have halted, with what each has printed and the memory, or the turn of a context traps, at this PC and with this type
pub data Ending : Type 0 where
  Halts : List (List ℕ) → List Line → Ending
  Traps : ℕ → ℕ → ℕ → Ending

-- every context of the place has halted
abbrev pub all_halted : Place → Bool
all_halted place = list_all (λ (context : Context). is_halted context.status) place.flat.contexts

-- a place is an end, and this is what it comes to
abbrev pub EndsIn : Parts → Place → Ending → Type 0
EndsIn parts place (Halts printed memory) = (all_halted place ≡ true) × (place.printed ≡ printed) × (place.flat.memory ≡ memory)
EndsIn parts place (Traps context pc tt) = IsReadyAt place context × (outcome_at parts place context ≡ Trap tt) × ((regs_at place context).pc ≡ pc)

-- some run of the flat machine comes to this
pub record ComesTo (parts : Parts) (ending : Ending) : Type 0 where
  pub turns : List ℕ
  pub run : IsRun parts (place_start parts) turns
  pub ends : EndsIn parts (places_after parts (place_start parts) turns) ending

-- a list of endings has all that runs come to
abbrev pub HasEvery : Parts → List Ending → Type 0
HasEvery parts endings = (ending : Ending) → ComesTo parts ending → Contains endings ending

-- some run leads from the place to an end
pub record CanEnd (parts : Parts) (place : Place) : Type 0 where
  pub turns : List ℕ
  pub ending : Ending
  pub run : IsRun parts place turns
  pub ends : EndsIn parts (places_after parts place turns) ending

-- an end can be reached from wherever a run leads
abbrev pub CanAlwaysEnd : Parts → Type 0
CanAlwaysEnd parts = (turns : List ℕ) → IsRun parts (place_start parts) turns → CanEnd parts (places_after parts (place_start parts) turns)

-- whichever context that goes on takes a turn, the set has the next place
abbrev pub HasAllNext : Parts → (Place → Type 0) → Place → Type 0
HasAllNext parts Held place = (context : ℕ) → GoesOn parts place context → Held (place_turn parts place context)

-- a place of the set, from which no local turn alone goes on, is an end that comes to this
pub record IsEndOfSet (parts : Parts) (Held : Place → Type 0) (ending : Ending) : Type 0 where
  pub place : Place
  pub held : Held place
  pub next : HasAllNext parts Held place
  pub ends : EndsIn parts place ending

-- one context's turn is local and forward, and the set has the next place
pub record HasLocalNext (parts : Parts) (Held : Place → Type 0) (place : Place) : Type 0 where
  pub context : ℕ
  pub alone : IsLocal parts place context
  pub forward : IsForward parts place context
  pub next : Held (place_turn parts place context)

-- the set has the start, and with a place one next place by a turn that is local and forward, or all next ones
pub record IsReduced (parts : Parts) (Held : Place → Type 0) : Type 0 where
  pub start : Held (place_start parts)
  pub next : (place : Place) → Held place → HasLocalNext parts Held place ⊎ HasAllNext parts Held place

-- the words that a context printed, in order
abbrev pub words_of : ℕ → List (ℕ × ℕ) → List ℕ
words_of context [] = []
words_of context (print ∷ rest) = if print.0 == context then print.1 ∷ words_of context rest else words_of context rest

-- every context of the flat machine has halted
abbrev pub flat_halted : Flat → Bool
flat_halted flat = list_all (λ (context : Context). is_halted context.status) flat.contexts

-- all contexts halt at this memory, and each has printed its words of these
pub record HaltsWith (parts : Parts) (memory : List Line) (prints : List (ℕ × ℕ)) : Type 0 where
  pub printed : List (List ℕ)
  pub comes : ComesTo parts (Halts printed memory)
  pub words : (context : ℕ) → context < context_count parts → slice_index_or printed context [] ≡ words_of context prints

-- a context's turn traps, and leaves it so
pub record TrapsAt (parts : Parts) (flat : Flat) : Type 0 where
  pub context : ℕ
  pub pc : ℕ
  pub type : ℕ
  pub comes : ComesTo parts (Traps context pc type)
  pub left : (context_at flat context).status ≡ Trapped pc type

-- the context has trapped, and that is what a run comes to
pub record HasTold (parts : Parts) (flat : Flat) (context : ℕ) : Type 0 where
  pub pc : ℕ
  pub type : ℕ
  pub left_so : (context_at flat context).status ≡ Trapped pc type
  pub comes : ComesTo parts (Traps context pc type)
