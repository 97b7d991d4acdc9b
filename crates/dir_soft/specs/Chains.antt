-- Chains through a pool: each place names the next one of its chain by its index.
use Rattle.std.specs.Prelude.{◌≡◌, ◌≢◌, ◌<◌, ◌≤◌, ℕ, zero, suc, false, ◌==◌, Option, Some, None, List, [], ◌∷◌, ◌++◌, length, slice_set}
use Rattle.alw_num.specs.NodeSets.{no_nodes, nodes_of}
use Rattle.alw_num.specs.Weights.{digit, times}
use Rattle.dir_soft.specs.declared.places.PoolPlace.{PoolPlace}
use Rattle.dir_soft.specs.declared.places.Spot.{Spot}

-- the index that ends a chain, which no place has
abbrev pub no_index : ℕ
no_index = 4294967295

-- what place k names as the next one
abbrev pub next_at : List PoolPlace → ℕ → ℕ
next_at [] k = no_index
next_at (place ∷ rest) zero = place.next
next_at (place ∷ rest) (suc k) = next_at rest k

-- the line of place k
abbrev pub line_at : List PoolPlace → ℕ → ℕ
line_at [] k = 0
line_at (place ∷ rest) zero = place.line
line_at (place ∷ rest) (suc k) = line_at rest k

-- the first place of a chain
abbrev pub head_at : List ℕ → ℕ → ℕ
head_at [] chain = no_index
head_at (head ∷ rest) zero = head
head_at (head ∷ rest) (suc chain) = head_at rest chain

-- from place k on, the chain has these places and ends
abbrev pub IsPath : List PoolPlace → ℕ → List ℕ → Type 0
IsPath places k [] = k ≡ no_index
IsPath places k (j ∷ js) = (k ≡ j) × (j < length places) × IsPath places (next_at places j) js

-- From place k on there is a chain, with no more places than the pool, whose indices are all below the one that ends a chain.
pub record IsChain (places : List PoolPlace) (k : ℕ) : Type 0 where
  pub chain : List ℕ
  pub path : IsPath places k chain
  pub few : length chain ≤ length places
  pub ends : length places ≤ no_index

-- The places are on chains, and each is on the one that `tag` gives it, once, and on no other.
pub record PlacesAreLinked (tag : ℕ → ℕ) (heads : List ℕ) (places : List PoolPlace) : Type 0 where
  pub chains : ℕ → List ℕ
  pub paths : (t : ℕ) → t < length heads → IsPath places (head_at heads t) (chains t)
  pub each : (t j : ℕ) → t < length heads → times j (chains t) ≡ digit (tag j == t)

-- the place before: none at the front
abbrev pub IsPlaceBefore : Option ℕ → List ℕ → Type 0
IsPlaceBefore None seen = seen ≡ []
IsPlaceBefore (Some place) seen = (front : List ℕ) × (seen ≡ front ++ place ∷ [])

-- the place before, if there is one, is in the pool
abbrev pub IsBeforeWithin : Option ℕ → ℕ → Type 0
IsBeforeWithin None count = Unit {0}
IsBeforeWithin (Some place) count = place < count

-- none of these places is the line's
abbrev pub LineIsMissing : List PoolPlace → List ℕ → ℕ → Type 0
LineIsMissing places js line = (j : ℕ) → 1 ≤ times j js → (line_at places j == line) ≡ false

-- a spot is on a chain, behind the place that it names
pub record IsSpot (places : List PoolPlace) (chain : List ℕ) (spot : Spot) : Type 0 where
  pub seen : List ℕ
  pub rest : List ℕ
  pub whole : chain ≡ seen ++ spot.at ∷ rest
  pub before : IsPlaceBefore spot.before seen
  pub within : spot.at < length places

-- the pool where a place names another next one
abbrev pub with_next : List PoolPlace → ℕ → ℕ → List PoolPlace
with_next [] k next = []
with_next (place ∷ rest) zero next = record place { next = next } ∷ rest
with_next (place ∷ rest) (suc k) next = place ∷ with_next rest k next

-- the chains without the place at a spot
abbrev pub unlinked : ℕ → List ℕ → List PoolPlace → ℕ → Option ℕ → List ℕ × List PoolPlace
unlinked chain heads places at None = (slice_set heads chain (next_at places at), places)
unlinked chain heads places at (Some before) = (heads, with_next places before (next_at places at))

-- a pool with a place more at its end, which has no set and names no next one
pub record IsLonger (places after : List PoolPlace) : Type 0 where
  pub place : PoolPlace
  pub empty : nodes_of place.nodes ≡ no_nodes
  pub ends : place.next ≡ no_index
  pub whole : after ≡ places ++ place ∷ []

-- PoolPlace `at` is on no chain: it is the first one of a chain, which is taken off, or, where that chain is empty, a place more at the pool's end.
pub record IsLoose (chain : ℕ) (heads : List ℕ) (places : List PoolPlace) (at : ℕ) (heads_after : List ℕ) (after : List PoolPlace) : Type 0 where
  pub first : head_at heads chain ≢ no_index → (at ≡ head_at heads chain) × ((heads_after, after) ≡ unlinked chain heads places at None)
  pub new : head_at heads chain ≡ no_index → (at ≡ length places) × (heads_after ≡ heads) × IsLonger places after
