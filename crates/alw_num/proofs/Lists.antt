-- Lists of what each number has, or each member of a list: one number or one member more, and two that are the same.
use Rattle.std.proofs.Common.{◌≡◌, ℕ, zero, suc, ◌+◌, ◌<◌, Bool, true, false, cond, find, Option, Some, None, List, [], ◌∷◌, ◌++◌, take, slice_get, refl, sym, ap, ◌∙◌, append_assoc, arith}
use Rattle.std.specs.List.{flat_map, range_with_len}
use Rattle.std.proofs.lemmas.List.{append-nil}
use Rattle.std.proofs.lemmas.List.Concat.{flat_map-append}

pub range_more : (low count next : ℕ) → low + count ≡ next → range_with_len low (count + 1) ≡ range_with_len low count ++ next ∷ []
range_more low zero next is = ap (λ (n : ℕ). n ∷ []) (omega arith)
range_more low (suc count) next is =
    let one_more : suc count + 1 ≡ suc (count + 1) = omega arith in
    rw one_more (ap (λ (rest : List ℕ). low ∷ rest) (range_more (low + 1) count next (omega arith)))

-- ---- one number more

module _ {A : Type 0} (own : ℕ → List A) where
  pub number_more : (n : ℕ) → flat_map own (range_with_len 0 (n + 1)) ≡ flat_map own (range_with_len 0 n) ++ own n
  number_more n =
      ap (flat_map own) (range_more 0 n n (omega arith))
      ∙ (flat_map-append own (range_with_len 0 n) (n ∷ [])
      ∙ ap (λ (rest : List A). flat_map own (range_with_len 0 n) ++ rest) (append-nil (own n)))

  -- behind what stood before
  pub grows_by_number : (n : ℕ) (before so_far after : List A) → so_far ≡ before ++ flat_map own (range_with_len 0 n) → after ≡ so_far ++ own n
      → after ≡ before ++ flat_map own (range_with_len 0 (n + 1))
  grows_by_number n before so_far after is pushed =
      pushed ∙ (ap (λ (xs : List A). xs ++ own n) is ∙ (append_assoc before (flat_map own (range_with_len 0 n)) (own n)
      ∙ ap (λ (xs : List A). before ++ xs) (sym (number_more n))))

-- two ways to list the same
pub same_by_number : {A : Type 0} (f g : ℕ → List A) (low count : ℕ) → ((k : ℕ) → k < low + count → f k ≡ g k)
    → flat_map f (range_with_len low count) ≡ flat_map g (range_with_len low count)
same_by_number f g low zero same = refl
same_by_number f g low (suc count) same =
    (λ i. same low (omega arith) i ++ same_by_number f g (low + 1) count (λ k l. same k (omega arith)) i)

-- ---- one member more

module _ {X A : Type 0} (own : X → List A) where
  -- what a place adds, if a member stands there
  abbrev pub own_at : Option X → List A
  own_at None = []
  own_at (Some x) = own x

  pub member_more : (n : ℕ) (xs : List X) → flat_map own (take (suc n) xs) ≡ flat_map own (take n xs) ++ own_at (slice_get xs n)
  member_more zero [] = refl
  member_more (suc n) [] = refl
  member_more zero (x ∷ xs) = append-nil (own x)
  member_more (suc n) (x ∷ xs) =
      ap (λ (rest : List A). own x ++ rest) (member_more n xs)
      ∙ sym (append_assoc (own x) (flat_map own (take n xs)) (own_at (slice_get xs n)))

  -- behind what stood before
  pub grows_by_member : (n : ℕ) (xs : List X) (before so_far after more : List A) → so_far ≡ before ++ flat_map own (take n xs) → after ≡ so_far ++ more
      → more ≡ own_at (slice_get xs n) → after ≡ before ++ flat_map own (take (n + 1) xs)
  grows_by_member n xs before so_far after more is pushed this =
      let next : suc n ≡ n + 1 = omega arith in
      pushed ∙ (λ i. is i ++ this i) ∙ append_assoc before (flat_map own (take n xs)) (own_at (slice_get xs n))
      ∙ ap (λ (xs : List A). before ++ xs) (sym (member_more n xs))
      ∙ ap (λ (k : ℕ). before ++ flat_map own (take k xs)) next

-- ---- a member that passes a test

-- the first that passes a test passes it
pub found_passes : {X : Type 0} (p : X → Bool) (xs : List X) (x : X) → find p xs ≡ Some x → p x ≡ true
found_passes p [] x e = absurd (cc)
found_passes p (y ∷ ys) x e = go (p y) refl e (found_passes p ys x)
  where
    go : (b : Bool) → p y ≡ b → cond b (Some y) (find p ys) ≡ Some x → (find p ys ≡ Some x → p x ≡ true) → p x ≡ true
    go true here f next = let same : y ≡ x = cc in rw (← same) here
    go false here f next = next f
