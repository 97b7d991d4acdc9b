-- Two lists of one length, with a relation between what stands at each place.
use Rattle.std.proofs.Common.{ℕ, zero, suc, List, [], ◌∷◌, replicate, slice_index_or, slice_set}

module _ {X Y : Type 0} (P : X → Y → Type 0) where
  pub data Beside : List X → List Y → Type 0 where
    none : Beside [] []
    more : {x : X} {y : Y} {xs : List X} {ys : List Y} → P x y → Beside xs ys → Beside (x ∷ xs) (y ∷ ys)

  -- what stands at a place
  pub beside_at : (xs : List X) (ys : List Y) (k : ℕ) (d : X) (e : Y) → P d e → Beside xs ys → P (slice_index_or xs k d) (slice_index_or ys k e)
  beside_at [] [] k d e one none = one
  beside_at (x ∷ xs) (y ∷ ys) zero d e one (more is rest) = is
  beside_at (x ∷ xs) (y ∷ ys) (suc k) d e one (more is rest) = beside_at xs ys k d e one rest
  beside_at [] (y ∷ ys) k d e one never = elim never [ ]
  beside_at (x ∷ xs) [] k d e one never = elim never [ ]

  -- both change at a place
  pub beside_set : (xs : List X) (ys : List Y) (k : ℕ) (x : X) (y : Y) → P x y → Beside xs ys → Beside (slice_set xs k x) (slice_set ys k y)
  beside_set [] [] k x y is none = none
  beside_set (a ∷ xs) (b ∷ ys) zero x y is (more old rest) = more is rest
  beside_set (a ∷ xs) (b ∷ ys) (suc k) x y is (more old rest) = more old (beside_set xs ys k x y is rest)
  beside_set [] (b ∷ ys) k x y is never = elim never [ ]
  beside_set (a ∷ xs) [] k x y is never = elim never [ ]

  -- one of them changes at a place
  pub beside_left : (xs : List X) (ys : List Y) (k : ℕ) (x : X) (e : Y) → P x (slice_index_or ys k e) → Beside xs ys → Beside (slice_set xs k x) ys
  beside_left [] [] k x e is none = none
  beside_left (a ∷ xs) (b ∷ ys) zero x e is (more old rest) = more is rest
  beside_left (a ∷ xs) (b ∷ ys) (suc k) x e is (more old rest) = more old (beside_left xs ys k x e is rest)
  beside_left [] (b ∷ ys) k x e is never = elim never [ ]
  beside_left (a ∷ xs) [] k x e is never = elim never [ ]

  -- and the other one
  pub beside_right : (xs : List X) (ys : List Y) (k : ℕ) (d : X) (y : Y) → P (slice_index_or xs k d) y → Beside xs ys → Beside xs (slice_set ys k y)
  beside_right [] [] k d y is none = none
  beside_right (a ∷ xs) (b ∷ ys) zero d y is (more old rest) = more is rest
  beside_right (a ∷ xs) (b ∷ ys) (suc k) d y is (more old rest) = more old (beside_right xs ys k d y is rest)
  beside_right [] (b ∷ ys) k d y is never = elim never [ ]
  beside_right (a ∷ xs) [] k d y is never = elim never [ ]

  -- both are one element again and again
  pub beside_start : (n : ℕ) (x : X) (y : Y) → P x y → Beside (replicate n x) (replicate n y)
  beside_start zero x y is = none
  beside_start (suc n) x y is = more is (beside_start n x y is)
