-- Two lists that have the same at a place.
use Rattle.std.proofs.Common.{◌≡◌, ℕ, zero, suc, List, [], ◌∷◌, length, slice_index_or, get_or, refl, sym, ap, ◌∙◌, arith}
use Rattle.std.proofs.lemmas.List.{length-set}
use Rattle.law_order.proofs.Places.{changed}
use Rattle.law_times.proofs.Changes.{changed_all}

module _ {X : Type 0} (d : X) where
  pub record SameAt (p : ℕ) (xs ys : List X) : Type 0 where
    pub long : length xs ≡ length ys
    pub here : slice_index_or xs p d ≡ slice_index_or ys p d

  pub itself : (p : ℕ) (xs : List X) → SameAt p xs xs
  itself p xs = record { long = refl; here = refl }

  read_changed : (xs ys : List X) (q p : ℕ) (f : X → X) → length xs ≡ length ys → slice_index_or xs p d ≡ slice_index_or ys p d →
      slice_index_or (changed d xs q f) p d ≡ slice_index_or (changed d ys q f) p d
  read_changed [] [] q p f long here = here
  read_changed [] (y ∷ ys) q p f long here = absurd (omega (arith, long))
  read_changed (x ∷ xs) [] q p f long here = absurd (omega (arith, long))
  read_changed (x ∷ xs) (y ∷ ys) zero zero f long here = ap f here
  read_changed (x ∷ xs) (y ∷ ys) zero (suc p) f long here = here
  read_changed (x ∷ xs) (y ∷ ys) (suc q) zero f long here = here
  read_changed (x ∷ xs) (y ∷ ys) (suc q) (suc p) f long here = read_changed xs ys q p f (omega (arith, long)) here

  -- both change alike at a place
  pub same_changed : (p q : ℕ) (f : X → X) (xs ys : List X) → SameAt p xs ys → SameAt p (changed d xs q f) (changed d ys q f)
  same_changed p q f xs ys same = record {
    long = length-set xs q (f (get_or xs q d)) ∙ (same.long ∙ sym (length-set ys q (f (get_or ys q d))));
    here = read_changed xs ys q p f same.long same.here;
  }

  -- and at several
  pub same_all : (changes : List (ℕ × (X → X))) (p : ℕ) (xs ys : List X) → SameAt p xs ys → SameAt p (changed_all d changes xs) (changed_all d changes ys)
  same_all [] p xs ys same = same
  same_all (change ∷ rest) p xs ys same = same_all rest p (changed d xs change.0 change.1) (changed d ys change.0 change.1) (same_changed p change.0 change.1 xs ys same)

  -- changes leave a list as long as it was
  pub all_long : (changes : List (ℕ × (X → X))) (xs : List X) → length (changed_all d changes xs) ≡ length xs
  all_long [] xs = refl
  all_long (change ∷ rest) xs = all_long rest (changed d xs change.0 change.1) ∙ length-set xs change.0 (change.1 (get_or xs change.0 d))

  -- one of them changes elsewhere
  pub same_left : (p : ℕ) (xs ys zs : List X) → length zs ≡ length xs → slice_index_or zs p d ≡ slice_index_or xs p d → SameAt p xs ys → SameAt p zs ys
  same_left p xs ys zs long here same = record { long = long ∙ same.long; here = here ∙ same.here }
