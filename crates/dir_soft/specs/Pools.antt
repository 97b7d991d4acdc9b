-- A pool of places, each free or with a line and its set, as a map from lines to sets.
use Rattle.std.specs.Prelude.{◌≡◌, ◌≤◌, ℕ, zero, suc, ◌+◌, ◌%◌, Bool, false, cond, ◌==◌, Option, Some, None, List, [], ◌∷◌, length}
use Rattle.alw_num.specs.NodeSets.{Nodes, nodes_of, count_nodes}
use Rattle.alw_num.specs.Maps.{Map, empty_map, with_value}
use Rattle.dir_soft.specs.declared.places.PoolPlace.{PoolPlace}
use Rattle.dir_soft.specs.Chains.{no_index, PlacesAreLinked}

-- what stands at a place: a line and its set
pub record Entry : Type 0 where
  pub line : ℕ
  pub nodes : Nodes

abbrev pub entry_of : PoolPlace → Entry
entry_of place = record { line = place.line; nodes = nodes_of place.nodes }

abbrev pub contents : List PoolPlace → List Entry
contents [] = []
contents (place ∷ rest) = entry_of place ∷ contents rest

-- a place is free where its set is empty
abbrev pub is_free : Entry → Bool
is_free entry = count_nodes entry.nodes == 0

-- the map of the places that aren't free
abbrev pub map_of : List Entry → Map Nodes
map_of [] = empty_map
map_of (entry ∷ rest) = cond (is_free entry) (map_of rest) (with_value (map_of rest) entry.line entry.nodes)

-- the set that the first place of a line has
abbrev pub first_of : List Entry → ℕ → Option Nodes
first_of [] line = None
first_of (entry ∷ rest) line = cond (is_free entry) (first_of rest line) (cond (line == entry.line) (Some entry.nodes) (first_of rest line))

-- no line has two places
abbrev pub PlacesAreSingle : List Entry → Type 0
PlacesAreSingle [] = Unit {0}
PlacesAreSingle (entry ∷ rest) = (is_free entry ≡ false → first_of rest entry.line ≡ None) × PlacesAreSingle rest

-- the chain that a place belongs on: its line's, or the last one where it is free
abbrev pub chain_of : ℕ → Entry → ℕ
chain_of buckets entry = cond (is_free entry) buckets (entry.line % buckets)

-- the chain that place k belongs on, a number beyond all chains where there is no such place
abbrev pub chain_at : ℕ → List Entry → ℕ → ℕ
chain_at buckets [] k = buckets + 1
chain_at buckets (entry ∷ rest) zero = chain_of buckets entry
chain_at buckets (entry ∷ rest) (suc k) = chain_at buckets rest k

-- the places in use: no line has two, and there are as many as lines with a set
pub record IsPool (entries : List Entry) (used : ℕ) : Type 0 where
  pub single : PlacesAreSingle entries
  pub counted : length (map_of entries).entries ≡ used

-- A pool with its chains, of no more places than lines: each place in use is on the chain of its line, the line modulo the number of
-- buckets, each free place on the last chain, and each on its chain once.
pub record IsTable (lines buckets used : ℕ) (heads : List ℕ) (places : List PoolPlace) : Type 0 where
  pub pool : IsPool (contents places) used
  pub linked : PlacesAreLinked (chain_at buckets (contents places)) heads places
  pub heads_are : length heads ≡ buckets + 1
  pub fits : length places ≤ lines
  pub few : lines ≤ no_index
  pub some : 1 ≤ buckets
