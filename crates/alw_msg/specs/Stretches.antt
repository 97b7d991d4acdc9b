-- Turns in stretches: each longest stretch of turns of one context, as the context and the number of its turns.
use Rattle.std.specs.Prelude.{ℕ, ◌+◌, ◌≤◌, ◌≢◌, ◌==◌, if◌then◌else◌, List, [], ◌∷◌, ◌++◌, replicate, ⊤}

-- a stretch in front of others: where the first of them is of the same context, they are one
abbrev pub in_front : ℕ → ℕ → List (ℕ × ℕ) → List (ℕ × ℕ)
in_front context count [] = (context, count) ∷ []
in_front context count (first ∷ rest) =
    if context == first.0 then (context, count + first.1) ∷ rest else (context, count) ∷ first ∷ rest

-- the stretches of turns, in order
abbrev pub stretches : List ℕ → List (ℕ × ℕ)
stretches [] = []
stretches (context ∷ rest) = in_front context 1 (stretches rest)

-- the turns of stretches, in order
abbrev pub turns_in : List (ℕ × ℕ) → List ℕ
turns_in [] = []
turns_in (first ∷ rest) = replicate first.1 first.0 ++ turns_in rest

-- no stretch is empty, and no two neighbours are of one context
abbrev pub AreLongest : List (ℕ × ℕ) → Type 0
AreLongest [] = ⊤
AreLongest (last ∷ []) = 1 ≤ last.1
AreLongest (first ∷ next ∷ rest) = (1 ≤ first.1) × (first.0 ≢ next.0) × AreLongest (next ∷ rest)
