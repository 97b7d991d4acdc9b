-- Counts and sums: how often something stands in a list, and sums over the nodes below a number.
use Rattle.std.specs.Prelude.{ℕ, zero, suc, ◌+◌, List, [], ◌∷◌, Bool, cond, ◌==◌}

-- a test as a number: 1 where it holds
abbrev pub digit : Bool → ℕ
digit b = cond b 1 0

-- the sum of f over the members of a list
abbrev pub weigh : {A : Type 0} → (A → ℕ) → List A → ℕ
weigh f [] = 0
weigh f (x ∷ xs) = f x + weigh f xs

-- how often a number stands in a list
abbrev pub times : ℕ → List ℕ → ℕ
times k js = weigh (λ j. digit (k == j)) js

-- the sum of f over the numbers below n
abbrev pub sum_below : ℕ → (ℕ → ℕ) → ℕ
sum_below zero f = 0
sum_below (suc n) f = f n + sum_below n f
