-- A place that is found, and from which no end can be reached.
use Rattle.std.specs.Prelude.{◌≡◌, ℕ, slice_get, Some}
use Rattle.alw_image.specs.declared.parts.Parts.{Parts}
use Rattle.alw_places.specs.Places.{Place}
use Rattle.alw_places.specs.Outcomes.{CanEnd, CanAlwaysEnd}
use Rattle.alw_outcomes.specs.Explored.{Found}
use Rattle.alw_outcomes.specs.declared.stuck.Stuck.{Stuck}
use Rattle.alw_outcomes.specs.declared.stuck.Stuck.TheVariants.{No, At, Unknown}

-- no run leads from the place with this number to an end
pub record IsStuckAt (parts : Parts) (found : Found) (at : ℕ) : Type 0 where
  pub place : Place
  pub there : slice_get found.places at ≡ Some place
  pub never : CanEnd parts place → ⊥

-- what an answer tells of the places that were found
abbrev pub TellsStuck : Parts → Found → Stuck → Type 0
TellsStuck parts found No = CanAlwaysEnd parts
TellsStuck parts found (At at) = IsStuckAt parts found at
TellsStuck parts found Unknown = Unit {0}
