-- Laws of the weight of a list: of a list of images, and of one member changed.
use Rattle.std.proofs.Common.{◌≡◌, ℕ, zero, suc, ◌+◌, ◌<◌, ◌≤◌, Bool, true, false, cond, List, [], ◌∷◌, length, get_or, set, refl, ap, arith}
use Rattle.alw_num.specs.Weights.{digit, weigh}

counted : (b : Bool) (n : ℕ) → digit b + n ≡ cond b (1 + n) n
counted true n = refl
counted false n = omega arith

module _ {X : Type 0} where
  -- one member changes
  pub weigh_set : (f : X → ℕ) (xs : List X) (i : ℕ) (y d : X) → i < length xs → weigh f (set xs i y) + f (get_or xs i d) ≡ weigh f xs + f y
  weigh_set f [] i y d l = absurd (omega arith)
  weigh_set f (x ∷ rest) zero y d l = omega arith
  weigh_set f (x ∷ rest) (suc i) y d l = omega (arith, weigh_set f rest i y d (omega arith))

  -- one member is part of the whole
  pub weigh_at : (f : X → ℕ) (xs : List X) (i : ℕ) (d : X) → i < length xs → f (get_or xs i d) ≤ weigh f xs
  weigh_at f [] i d l = absurd (omega arith)
  weigh_at f (x ∷ rest) zero d l = omega arith
  weigh_at f (x ∷ rest) (suc i) d l = omega (arith, weigh_at f rest i d (omega arith))

  -- one member changes, and counts for as much
  pub weigh_kept : (f : X → ℕ) (xs : List X) (i : ℕ) (y d : X) → f y ≡ f (get_or xs i d) → weigh f (set xs i y) ≡ weigh f xs
  weigh_kept f [] i y d same = refl
  weigh_kept f (x ∷ rest) zero y d same = ap (λ n. n + weigh f rest) same
  weigh_kept f (x ∷ rest) (suc i) y d same = ap (λ n. f x + n) (weigh_kept f rest i y d same)
