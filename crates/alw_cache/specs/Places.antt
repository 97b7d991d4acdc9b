-- The places of a direct-mapped cache, one for each set, as a map from sets to copies.
use Rattle.std.specs.Prelude.{◌≡◌, ◌≢◌, ℕ, ◌+◌, ◌%◌, Bool, ◌==◌, Option, Some, None, List, [], ◌∷◌, slice_index_or, IsTrue}
use Rattle.std.specs.Option.{option_map}
use Rattle.alw_num.specs.declared.addresses.Line.{Line}
use Rattle.alw_num.specs.declared.addresses.LineNo.{LineNo}
use Rattle.alw_num.specs.declared.states.Mode.{Mode}
use Rattle.alw_num.specs.Maps.{empty_map, value_at, with_value, passes_if_some}
use Rattle.alw_model.specs.Caches.{Copy, Cache, set_of, copy_at}
use Rattle.alw_cache.specs.declared.places.SetCopy.{SetCopy}
use Rattle.alw_cache.specs.declared.places.Evicted.{Evicted}

-- a cache: the number of its sets, and the copy that each set holds
pub record Copies : Type 0 where
  pub sets : ℕ
  pub copies : Cache

-- the copy of a line in a mode
abbrev pub copy_of : ℕ → Mode → Line → Copy
copy_of line mode body = record { line = line; mode = mode; body = body }

-- what a caller is told of a copy that leaves
abbrev pub evicted_of : Copy → Evicted
evicted_of copy = record { line = record { 0 = copy.line }; mode = copy.mode; body = copy.body }

-- what a caller is told of a copy that it looks up
abbrev pub seen_of : Copy → Mode × Line
seen_of copy = (copy.mode, copy.body)

-- what a caller is told of a line: the mode and the bytes of its copy
abbrev pub seen_in : Copies → ℕ → Option (Mode × Line)
seen_in c line = option_map seen_of (copy_at c.sets c.copies line)

-- the number of a copy's line
abbrev pub line_of : Copy → LineNo
line_of copy = record { 0 = copy.line }

-- the copy at a place: none where it has no mode
abbrev pub held_at : SetCopy → Option Copy
held_at place = option_map (λ mode. copy_of place.line mode place.body) place.mode

-- the map with what a place holds, at a set
abbrev pub with_place : ℕ → Option Copy → Cache → Cache
with_place set None cache = cache
with_place set (Some copy) cache = with_value cache set copy

-- the map of places, the first of which is that of a set
abbrev pub map_from : ℕ → List SetCopy → Cache
map_from set [] = empty_map
map_from set (place ∷ rest) = with_place set (held_at place) (map_from (set + 1) rest)

-- the place of a set: an empty one where there is none
abbrev pub no_place : SetCopy
no_place = record { line = 0; mode = None; body = record { a = 0; b = 0; c = 0; d = 0 } }

abbrev pub place_at : List SetCopy → ℕ → SetCopy
place_at places set = slice_index_or places set no_place

-- each copy stands in the set of its line
abbrev pub AreInSets : ℕ → List SetCopy → Type 0
AreInSets sets places = (set : ℕ) → (place_at places set).mode ≢ None → (place_at places set).line % sets ≡ set

-- a copy belongs in a set
abbrev pub belongs_in : ℕ → ℕ → Copy → Bool
belongs_in sets set copy = set_of sets copy.line == set

-- each copy of a cache belongs in the set that holds it
abbrev pub ArePlaced : Copies → Type 0
ArePlaced c = (set : ℕ) → IsTrue (passes_if_some (belongs_in c.sets set) (value_at c.copies set))
