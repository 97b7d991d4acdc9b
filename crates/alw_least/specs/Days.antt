-- Which places stand on which days.
use Rattle.std.specs.Prelude.{◌≡◌, ℕ, ◌<◌, ◌==◌, ◌&&◌, Bool, true, false, cond, not, Option, Some, None, List, [], slice_index_or, ◌⊎◌, ◌↔◌}
use Rattle.alw_num.specs.declared.node_sets.NodeSet.{NodeSet}
use Rattle.alw_num.specs.NodeSets.{has_node, no_nodes, nodes_of}

-- the places of a day
abbrev pub places_on : List NodeSet → ℕ → NodeSet
places_on days day = slice_index_or days day (record { words = [] })

-- a place stands on a day
abbrev pub stands_on : List NodeSet → ℕ → ℕ → Bool
stands_on days day place = has_node (nodes_of (places_on days day)) place

-- nothing stands on a day
abbrev pub NothingStands : List NodeSet → Type 0
NothingStands days = (day place : ℕ) → stands_on days day place ≡ false

-- a place stands on a day from now on, or no longer, and all else is as before
abbrev pub IsPut : Bool → ℕ → ℕ → List NodeSet → List NodeSet → Type 0
IsPut here day place before after = (d p : ℕ) → stands_on after d p ≡ cond (d == day && p == place) here (stands_on before d p)

-- a place stands on a day, where none stands on an earlier one, and no lower place does on this one
pub record StandsFirst (days : List NodeSet) (place : ℕ) : Type 0 where
  pub day : ℕ
  pub stands : stands_on days day place ≡ true
  pub first : (d p : ℕ) → d < day → stands_on days d p ≡ false
  pub lowest : (p : ℕ) → p < place → stands_on days day p ≡ false

-- the first place that stands, or nothing does
abbrev pub IsFirstStanding : List NodeSet → Option ℕ → Type 0
IsFirstStanding days None = NothingStands days
IsFirstStanding days (Some place) = StandsFirst days place

-- ---- what is kept

-- a set has the days on which a place stands
abbrev pub AreFilled : List NodeSet → NodeSet → Type 0
AreFilled days filled = (day : ℕ) → (has_node (nodes_of filled) day ≡ false) ↔ (nodes_of (places_on days day) ≡ no_nodes)
