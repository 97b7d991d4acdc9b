-- A finite map from numbers to values: its entries by ascending key, so that two maps that answer alike are equal.
use Rattle.std.specs.Prelude.{ℕ, ◌+◌, ◌≤◌, Bool, true, false, cond, ◌&&◌, ◌==◌, nat_lt, nat_le, T, Option, Some, None, List, [], ◌∷◌}
use Rattle.std.proofs.Common.{arith}
use Rattle.std.proofs.lemmas.Bool.Decides.{nat_tests}

-- the value, where it passes a test
abbrev pub kept_if : {X : Type 0} → (X → Bool) → Option X → Option X
kept_if test None = None
kept_if test (Some x) = cond (test x) (Some x) None

-- there is a value, and it passes a test
abbrev pub passes : {X : Type 0} → (X → Bool) → Option X → Bool
passes test None = false
passes test (Some x) = test x

-- a value, if there is one, passes a test
abbrev pub passes_if_some : {X : Type 0} → (X → Bool) → Option X → Bool
passes_if_some test None = true
passes_if_some test (Some x) = test x

-- each key is at least a number, and above the key before it
abbrev pub ascends_from : {X : Type 0} → ℕ → List (ℕ × X) → Bool
ascends_from low [] = true
ascends_from low (entry ∷ rest) = nat_le low entry.0 && ascends_from (entry.0 + 1) rest

pub record Map (X : Type 0) : Type 0 where
  pub entries : List (ℕ × X)
  pub ascending : T (ascends_from 0 entries)

-- the entries with this one in its place, for any other of its key
abbrev pub put : {X : Type 0} → ℕ → X → List (ℕ × X) → List (ℕ × X)
put key value [] = (key, value) ∷ []
put key value (entry ∷ rest) = cond (nat_lt key entry.0) ((key, value) ∷ entry ∷ rest) (cond (key == entry.0) ((key, value) ∷ rest) (entry ∷ put key value rest))

-- the entries without the one of this key
abbrev pub taken : {X : Type 0} → ℕ → List (ℕ × X) → List (ℕ × X)
taken key [] = []
taken key (entry ∷ rest) = cond (key == entry.0) rest (entry ∷ taken key rest)

-- the value that stands at a key
abbrev pub found : {X : Type 0} → ℕ → List (ℕ × X) → Option X
found key [] = None
found key (entry ∷ rest) = cond (key == entry.0) (Some entry.1) (found key rest)

-- an entry put into its place keeps the order
pub put_ascends : {X : Type 0} (key : ℕ) (value : X) (low : ℕ) (entries : List (ℕ × X)) → low ≤ key → T (ascends_from low entries) → T (ascends_from low (put key value entries))
put_ascends key value low [] l a = grind (arith, nat_tests)
put_ascends key value low (entry ∷ rest) l a = grind (arith, nat_tests, put_ascends key value (entry.0 + 1) rest)

lower : {X : Type 0} (low high : ℕ) (entries : List (ℕ × X)) → low ≤ high → T (ascends_from high entries) → T (ascends_from low entries)
lower low high [] l a = tt
lower low high (entry ∷ rest) l a = grind (arith, nat_tests)

-- an entry taken out keeps the order
pub taken_ascends : {X : Type 0} (key low : ℕ) (entries : List (ℕ × X)) → T (ascends_from low entries) → T (ascends_from low (taken key entries))
taken_ascends key low [] a = tt
taken_ascends key low (entry ∷ rest) a = grind (arith, nat_tests, lower low (entry.0 + 1) rest, taken_ascends key (entry.0 + 1) rest)

-- the map without an entry
unfoldable pub empty_map : {X : Type 0} → Map X
empty_map = record { entries = []; ascending = tt }

-- the value at a key: None where there is none
unfoldable pub value_at : {X : Type 0} → Map X → ℕ → Option X
value_at map key = found key map.entries

-- the map with this value at a key
unfoldable pub with_value : {X : Type 0} → Map X → ℕ → X → Map X
with_value map key value = record { entries = put key value map.entries; ascending = put_ascends key value 0 map.entries (omega arith) map.ascending }

-- the map without a value at a key
unfoldable pub without_value : {X : Type 0} → Map X → ℕ → Map X
without_value map key = record { entries = taken key map.entries; ascending = taken_ascends key 0 map.entries map.ascending }
