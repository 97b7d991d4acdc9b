-- Lists that are cut in two, and an entry of one.
use Rattle.std.proofs.Common.{◌≡◌, ℕ, zero, suc, ◌<◌, ◌⊎◌, inl, inr, List, [], ◌∷◌, ◌++◌, length, take, drop, get_or, refl, sym, subst, ap, ◌∙◌, arith, append-nil, length-append}
use Rattle.std.specs.List.{AllByRecursion}

-- a member with what stands before it and behind it
pub all_among : {X : Type 0} (P : X → Type 0) (front : List X) (x : X) (rest xs : List X) → front ++ x ∷ rest ≡ xs → AllByRecursion P xs → P x
all_among {X} P front x rest xs is all = at front (subst_all (sym is) all)
  where
    subst_all : {ys zs : List X} → ys ≡ zs → AllByRecursion P ys → AllByRecursion P zs
    subst_all e = subst (AllByRecursion P) e

    at : (front : List X) → AllByRecursion P (front ++ x ∷ rest) → P x
    at [] all = all.0
    at (y ∷ front) all = at front all.1

-- a member of a list stands in its first part, or in its second one
pub cut_in : {X : Type 0} (one two front : List X) (x : X) (rest : List X) → front ++ x ∷ rest ≡ one ++ two
    → ((more : List X) × (front ++ x ∷ more ≡ one)) ⊎ ((more : List X) × ((one ++ more ≡ front) × (more ++ x ∷ rest ≡ two)))
cut_in [] two front x rest is = inr (front, (refl, is))
cut_in (y ∷ one) two [] x rest is = inl (one, ap (λ z. z ∷ one) (ap (λ l. get_or l 0 x) is))
cut_in {X} (y ∷ one) two (z ∷ front) x rest is = go (cut_in one two front x rest (ap (drop 1) is))
  where
    same : z ≡ y
    same = ap (λ l. get_or l 0 z) is

    go : ((more : List X) × (front ++ x ∷ more ≡ one)) ⊎ ((more : List X) × ((one ++ more ≡ front) × (more ++ x ∷ rest ≡ two)))
        → ((more : List X) × (z ∷ (front ++ x ∷ more) ≡ y ∷ one)) ⊎ ((more : List X) × ((y ∷ (one ++ more) ≡ z ∷ front) × (more ++ x ∷ rest ≡ two)))
    go (inl c) = inl (c.0, λ i. same i ∷ c.1 i)
    go (inr c) = inr (c.0, ((λ i. sym same i ∷ c.1.0 i), c.1.1))

-- what stands before a member but the last one is a front of what stands before the last one
pub before_last : {X : Type 0} (before : List X) (last : X) (front : List X) (x : X) (more : List X) → front ++ x ∷ more ≡ before ++ last ∷ [] → (rest : List X) × (front ++ rest ≡ before)
before_last {X} before last front x more is = go (cut_in before (last ∷ []) front x more is)
  where
    none : (rest : List X) → rest ++ x ∷ more ≡ last ∷ [] → rest ≡ []
    none [] e = refl
    none (y ∷ rest) e = absurd (let sizes = ap length e in let size = length-append rest (x ∷ more) in omega arith)

    go : ((rest : List X) × (front ++ x ∷ rest ≡ before)) ⊎ ((rest : List X) × ((before ++ rest ≡ front) × (rest ++ x ∷ more ≡ last ∷ []))) → (rest : List X) × (front ++ rest ≡ before)
    go (inl c) = (x ∷ c.0, c.1)
    go (inr c) = ([], append-nil front ∙ (sym c.1.0 ∙ (ap (λ l. before ++ l) (none c.0 c.1.1) ∙ append-nil before)))

-- the members before a place, the one there, and the others
pub cut_at : {X : Type 0} (n : ℕ) (xs : List X) → n < length xs → (x : X) × ((rest : List X) × (take n xs ++ x ∷ rest ≡ xs))
cut_at n [] within = absurd (omega arith)
cut_at zero (x ∷ xs) within = (x, (xs, refl))
cut_at (suc n) (y ∷ xs) within = let c = cut_at n xs (omega arith) in (c.0, (c.1.0, ap (λ l. y ∷ l) c.1.1))
