-- Lists of numbers in order: the first number that differs is less.
use Rattle.std.proofs.Common.{◌≡◌, ℕ, ◌<◌, ◌≤◌, Bool, true, false, ◌||◌, ◌&&◌, ◌==◌, nat_lt, List, [], ◌∷◌, length, ◌⊎◌, inl, inr, refl, sym, ◌∙◌, arith}
use Rattle.std.proofs.lemmas.Bool.Decides.{nat_tests}
use Rattle.alw_due.specs.Due.{is_before}

-- what the test of two lists says of the first numbers
heads_say : (x y : ℕ) (rest : Bool) → (nat_lt x y || (x == y && rest)) ≡ true → (x < y) ⊎ ((x ≡ y) × (rest ≡ true))
heads_say x y true is = by_test (nat_lt x y) refl is
  where
    by_test : (b : Bool) → nat_lt x y ≡ b → (b || (x == y && true)) ≡ true → (x < y) ⊎ ((x ≡ y) × (true ≡ true))
    by_test true lt is = inl (grind (arith, nat_tests, lt))
    by_test false lt is = inr (grind (arith, nat_tests, is), refl)
heads_say x y false is = inl (grind (arith, nat_tests, is))

pub heads_less : (x y : ℕ) (rest : Bool) → x < y → (nat_lt x y || (x == y && rest)) ≡ true
heads_less x y rest lt = grind (arith, nat_tests, lt)

pub heads_same : (x y : ℕ) (rest : Bool) → x ≡ y → rest ≡ true → (nat_lt x y || (x == y && rest)) ≡ true
heads_same x y rest same is = grind (arith, nat_tests, same, is)

-- no list comes before itself
pub never_itself : (xs : List ℕ) → is_before xs xs ≡ true → ⊥
never_itself [] is = absurd (cc)
never_itself (x ∷ xs) is = by_heads (heads_say x x (is_before xs xs) is) (never_itself xs)
  where
    by_heads : (x < x) ⊎ ((x ≡ x) × (is_before xs xs ≡ true)) → (is_before xs xs ≡ true → ⊥) → ⊥
    by_heads (inl lt) more = omega (arith, lt)
    by_heads (inr rest) more = more rest.1

pub before_trans : (xs ys zs : List ℕ) → is_before xs ys ≡ true → is_before ys zs ≡ true → is_before xs zs ≡ true
before_trans [] ys zs one two = absurd (cc)
before_trans (x ∷ xs) [] zs one two = absurd (cc)
before_trans (x ∷ xs) (y ∷ ys) [] one two = absurd (cc)
before_trans (x ∷ xs) (y ∷ ys) (z ∷ zs) one two =
    by_heads (heads_say x y (is_before xs ys) one) (heads_say y z (is_before ys zs) two) (before_trans xs ys zs)
  where
    by_heads : (x < y) ⊎ ((x ≡ y) × (is_before xs ys ≡ true)) → (y < z) ⊎ ((y ≡ z) × (is_before ys zs ≡ true)) →
        (is_before xs ys ≡ true → is_before ys zs ≡ true → is_before xs zs ≡ true) → (nat_lt x z || (x == z && is_before xs zs)) ≡ true
    by_heads (inl lt) (inl also) more = heads_less x z (is_before xs zs) (omega (arith, lt, also))
    by_heads (inl lt) (inr rest) more = heads_less x z (is_before xs zs) (omega (arith, lt, rest.0))
    by_heads (inr rest) (inl lt) more = heads_less x z (is_before xs zs) (omega (arith, lt, rest.0))
    by_heads (inr rest) (inr other) more = heads_same x z (is_before xs zs) (rest.0 ∙ other.0) (more rest.1 other.1)

pub not_both : (xs ys : List ℕ) → is_before xs ys ≡ true → is_before ys xs ≡ true → ⊥
not_both xs ys one two = never_itself xs (before_trans xs ys xs one two)

-- of two lists of one length the first comes before the second, where the second doesn't come before it, or they are one
pub before_or_same : (xs ys : List ℕ) → length xs ≡ length ys → is_before ys xs ≡ false → (ys ≡ xs) ⊎ (is_before xs ys ≡ true)
before_or_same [] [] long none = inl refl
before_or_same [] (y ∷ ys) long none = absurd (omega (arith, long))
before_or_same (x ∷ xs) [] long none = absurd (omega (arith, long))
before_or_same (x ∷ xs) (y ∷ ys) long none = by_test (nat_lt x y) refl (before_or_same xs ys (omega (arith, long)))
  where
    by_test : (b : Bool) → nat_lt x y ≡ b → (is_before ys xs ≡ false → (ys ≡ xs) ⊎ (is_before xs ys ≡ true)) →
        (y ∷ ys ≡ x ∷ xs) ⊎ ((nat_lt x y || (x == y && is_before xs ys)) ≡ true)
    by_test true lt more = inr (rw lt refl)
    by_test false lt more = by_rest (more (rest_is (is_before ys xs) none))
      where
        heads : y ≡ x
        heads = grind (arith, nat_tests, lt, none)

        rest_is : (rest : Bool) → (nat_lt y x || (y == x && rest)) ≡ false → rest ≡ false
        rest_is true is = absurd (grind (arith, nat_tests, lt, is))
        rest_is false is = refl

        by_rest : (ys ≡ xs) ⊎ (is_before xs ys ≡ true) → (y ∷ ys ≡ x ∷ xs) ⊎ ((nat_lt x y || (x == y && is_before xs ys)) ≡ true)
        by_rest (inl same) = inl (λ i. heads i ∷ same i)
        by_rest (inr is) = inr (heads_same x y (is_before xs ys) (sym heads) is)

-- the first number of a list is no greater than that of one behind it
pub first_le : (x y : ℕ) (xs ys : List ℕ) → is_before (x ∷ xs) (y ∷ ys) ≡ true → x ≤ y
first_le x y xs ys is = by_heads (heads_say x y (is_before xs ys) is)
  where
    by_heads : (x < y) ⊎ ((x ≡ y) × (is_before xs ys ≡ true)) → x ≤ y
    by_heads (inl lt) = omega (arith, lt)
    by_heads (inr rest) = omega (arith, rest.0)
