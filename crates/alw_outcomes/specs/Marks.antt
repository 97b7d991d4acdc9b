-- Marks of places from which an end can be reached.
use Rattle.std.specs.Prelude.{◌≡◌, ℕ, ◌<◌, Bool, true, false, ◌⊎◌, List, slice_get, Some}
use Rattle.alw_image.specs.declared.parts.Parts.{Parts}
use Rattle.alw_places.specs.declared.classes.Class.{Class}
use Rattle.alw_outcomes.specs.declared.explored.Explored.{Explored}
use Rattle.alw_outcomes.specs.declared.stuck.Look.{Look}
use Rattle.alw_outcomes.specs.declared.stuck.Look.TheVariants.{Ends, Alone, Stays, Open}
use Rattle.alw_places.specs.Places.{Place, place_turn}
use Rattle.alw_places.specs.Outcomes.{Ending, Traps, EndsIn, CanEnd}
use Rattle.alw_places.specs.Sharing.{Goes, Breaks, HasNext, HasPrivateNext}
use Rattle.alw_outcomes.specs.Explored.{Found, IsHeld, IsStored, found_in}

-- an end can be reached from each place that is marked
abbrev pub AreMarks : Parts → Found → List Bool → Type 0
AreMarks parts found marks = (k : ℕ) → (place : Place) → slice_get marks k ≡ Some true → slice_get found.places k ≡ Some place → CanEnd parts place

-- what was found stays as it was
pub record KeepsFound (parts : Parts) (before after : Explored) : Type 0 where
  pub stored : IsStored parts after
  pub same : found_in after ≡ found_in before
  pub memories : after.memories.items ≡ before.memories.items
  pub hint : after.classes.items ≡ before.classes.items

-- a place that was found and isn't marked
pub record IsUnmarked (found : Found) (marks : List Bool) (place : Place) : Type 0 where
  pub at : ℕ
  pub there : slice_get found.places at ≡ Some place
  pub unmarked : slice_get marks at ≡ Some false

-- a context's turn keeps to the hint, ends nothing, and leads to unmarked places
pub record StaysAlong (parts : Parts) (classes : List Class) (Held : Place → Type 0) (place : Place) (context : ℕ) : Type 0 where
  pub next : Goes parts classes place context → Held (place_turn parts place context)
  pub no_trap : (pc type : ℕ) → EndsIn parts place (Traps context pc type) → ⊥
  pub kept : Breaks parts classes place context → ⊥

-- the place is no end, each turn keeps to the hint, and leads to unmarked places
pub record StaysAll (parts : Parts) (classes : List Class) (Held : Place → Type 0) (place : Place) : Type 0 where
  pub next : HasNext parts classes Held place
  pub no_end : (ending : Ending) → EndsIn parts place ending → ⊥
  pub kept : (context : ℕ) → Breaks parts classes place context → ⊥

abbrev pub IsStaying : Parts → List Class → (Place → Type 0) → Place → Type 0
IsStaying parts classes Held place = HasPrivateNext parts classes Held place ⊎ StaysAll parts classes Held place

abbrev pub HeldUnmarked : Parts → List Class → Found → List Bool → Place → Type 0
HeldUnmarked parts classes found marks = IsHeld parts classes (IsUnmarked found marks)

-- from each of the first so many places that isn't marked, turns lead to such places again
abbrev pub AreStaying : Parts → List Class → Found → List Bool → ℕ → Type 0
AreStaying parts classes found marks past = (k : ℕ) → (place : Place) → k < past → slice_get marks k ≡ Some false → slice_get found.places k ≡ Some place → IsStaying parts classes (HeldUnmarked parts classes found marks) place

abbrev pub IsStayingAt : Parts → List Class → Found → List Bool → ℕ → Type 0
IsStayingAt parts classes found marks at = (place : Place) → slice_get marks at ≡ Some false → slice_get found.places at ≡ Some place → IsStaying parts classes (HeldUnmarked parts classes found marks) place

-- what a look at a place says
abbrev pub LooksSo : Parts → List Class → Found → List Bool → Place → Look → Type 0
LooksSo parts classes found marks place Ends = CanEnd parts place
LooksSo parts classes found marks place Alone = HasPrivateNext parts classes (HeldUnmarked parts classes found marks) place
LooksSo parts classes found marks place Stays = StaysAll parts classes (HeldUnmarked parts classes found marks) place
LooksSo parts classes found marks place Open = Unit {0}

-- what a look along a context's turn says
abbrev pub LooksAlong : Parts → List Class → Found → List Bool → Place → ℕ → Look → Type 0
LooksAlong parts classes found marks place context Ends = CanEnd parts place
LooksAlong parts classes found marks place context Alone = HasPrivateNext parts classes (HeldUnmarked parts classes found marks) place
LooksAlong parts classes found marks place context Stays = StaysAlong parts classes (HeldUnmarked parts classes found marks) place context
LooksAlong parts classes found marks place context Open = Unit {0}

-- the same of the place with a number
abbrev pub LooksAt : Parts → List Class → Found → List Bool → ℕ → Look → Type 0
LooksAt parts classes found marks at look = (place : Place) → slice_get found.places at ≡ Some place → LooksSo parts classes found marks place look

abbrev pub LooksAlongAt : Parts → List Class → Found → List Bool → ℕ → ℕ → Look → Type 0
LooksAlongAt parts classes found marks at context look = (place : Place) → slice_get found.places at ≡ Some place → LooksAlong parts classes found marks place context look

abbrev pub StaysAlongAt : Parts → List Class → Found → List Bool → ℕ → ℕ → Type 0
StaysAlongAt parts classes found marks at context = (place : Place) → slice_get found.places at ≡ Some place → StaysAlong parts classes (HeldUnmarked parts classes found marks) place context

-- what a turn to a place finds there, which is marked or not, where the turn may be taken first or not
abbrev pub look_of : Bool → Bool → Look
look_of true first = Ends
look_of false true = Alone
look_of false false = Stays

-- the kinds of looks
abbrev pub ends : Look → Bool
ends Ends = true
ends _ = false

abbrev pub tells : Look → Bool
tells Ends = true
tells Alone = true
tells _ = false

abbrev pub is_open : Look → Bool
is_open Open = true
is_open _ = false

abbrev pub stays_inside : Look → Bool
stays_inside Alone = true
stays_inside Stays = true
stays_inside _ = false
