-- Endings as lists of numbers, whose order is that of the endings.
use Rattle.std.specs.Prelude.{◌≡◌, ◌≢◌, ℕ, suc, ◌<◌, Bool, true, false, ◌⊎◌, Some, List, [], ◌∷◌, ◌++◌, map, slice_get, slice_index_or}
use Rattle.std.specs.List.{Contains, AllByRecursion}
use Rattle.std.specs.declared.cmp.Ordering.TheVariants.{Less}
use Rattle.std.specs.List.Sorted.{IsStrictlySortedBy}
use Rattle.alw_places.specs.Places.{Place}
use Rattle.alw_outcomes.specs.declared.explored.Trapped.{Trapped}
use Rattle.alw_outcomes.specs.declared.endings.Keyed.{Keyed}
use Rattle.alw_outcomes.specs.Explored.{Found, no_place}
use Rattle.alw_outcomes.specs.Endings.{list_cmp, memory_words}

-- what contexts print: each word plus one, and 0 behind the last of each context
abbrev pub prints_key : List (List ℕ) → List ℕ
prints_key [] = []
prints_key (words ∷ rest) = map suc words ++ 0 ∷ prints_key rest

-- words of memory: of each its address, and then the word
abbrev pub words_key : List (ℕ × ℕ) → List ℕ
words_key [] = []
words_key (word ∷ rest) = word.0 ∷ word.1 ∷ words_key rest

abbrev pub place_key : Place → List ℕ
place_key place = prints_key place.printed ++ words_key (memory_words place.flat.memory)

-- the key of the place with this number
abbrev pub end_key : Found → ℕ → List ℕ
end_key found at = place_key (slice_index_or found.places at no_place)

abbrev pub no_turn : Trapped
no_turn = record { at = 0; context = 0; pc = 0; tt = 0 }

abbrev pub turn_key : Trapped → List ℕ
turn_key turn = turn.context ∷ turn.pc ∷ turn.tt ∷ []

-- the key of the turn at this place of a list
abbrev pub trap_key : List Trapped → ℕ → List ℕ
trap_key trapped index = turn_key (slice_index_or trapped index no_turn)

abbrev pub numbers_of : List Keyed → List ℕ
numbers_of keyed = map (λ (one : Keyed). one.number) keyed

-- each has the key of its number
abbrev pub AreKeyed : (ℕ → List ℕ) → List Keyed → Type 0
AreKeyed key keyed = (one : Keyed) → Contains keyed one → one.key.items ≡ key one.number

-- each key is no less than the one before it
abbrev pub IsRising : List Keyed → Type 0
IsRising sorted = (k : ℕ) → (one two : Keyed) → slice_get sorted k ≡ Some one → slice_get sorted (suc k) ≡ Some two → (list_cmp one.key.items two.key.items ≡ Less) ⊎ (one.key.items ≡ two.key.items)

-- whether the key at this place differs from the one before it
abbrev pub IsNew : List Keyed → ℕ → Bool → Type 0
IsNew keyed i true = (k : ℕ) → (one two : Keyed) → i ≡ suc k → slice_get keyed k ≡ Some one → slice_get keyed i ≡ Some two → one.key.items ≢ two.key.items
IsNew keyed i false = (0 < i) × ((k : ℕ) → (one two : Keyed) → i ≡ suc k → slice_get keyed k ≡ Some one → slice_get keyed i ≡ Some two → one.key.items ≡ two.key.items)

abbrev pub IsUpTo : List ℕ → List ℕ → Type 0
IsUpTo one two = (list_cmp one two ≡ Less) ⊎ (one ≡ two)

-- so far of a sorted list one number of each different key is kept, and none is above the last key that was met
pub record SortIsUnderWay (key : ℕ → List ℕ) (sorted : List Keyed) (past : ℕ) (kept : List ℕ) : Type 0 where
  pub within : (n : ℕ) → Contains kept n → Contains (numbers_of sorted) n
  pub every : (k : ℕ) → (one : Keyed) → k < past → slice_get sorted k ≡ Some one → Contains (map key kept) (key one.number)
  pub ascending : IsStrictlySortedBy list_cmp (map key kept)
  pub none : past ≡ 0 → kept ≡ []
  pub last : (k : ℕ) → (one : Keyed) → past ≡ suc k → slice_get sorted k ≡ Some one → AllByRecursion (λ y. IsUpTo y (key one.number)) (map key kept)

-- numbers of different keys, ascending by key: one for each key of those that are given
pub record AreOneOfEach (key : ℕ → List ℕ) (all some : List ℕ) : Type 0 where
  pub within : (n : ℕ) → Contains some n → Contains all n
  pub every : (n : ℕ) → Contains all n → Contains (map key some) (key n)
  pub ascending : IsStrictlySortedBy list_cmp (map key some)
