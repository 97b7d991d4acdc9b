-- The first member of a list that passes a test.
use Rattle.std.proofs.Common.{◌≡◌, ℕ, zero, suc, ◌+◌, Bool, true, false, cond, Some, List, [], ◌∷◌, drop, find, filter, slice_get, refl, sym, ap, ◌∙◌, arith}

-- what is found among those that pass a test passes both
pub found_passes : {X : Type 0} (p q : X → Bool) (xs : List X) (x : X) → find q (filter p xs) ≡ Some x → (p x ≡ true) × (q x ≡ true)
found_passes p q [] x e = absurd (cc)
found_passes {X} p q (y ∷ rest) x e = go (p y) (q y) refl refl e (found_passes p q rest x)
  where
    same : Some y ≡ Some x → y ≡ x
    same e = cc

    go : (a b : Bool) → p y ≡ a → q y ≡ b → find q (cond a (y ∷ filter p rest) (filter p rest)) ≡ Some x → (find q (filter p rest) ≡ Some x → (p x ≡ true) × (q x ≡ true)) → (p x ≡ true) × (q x ≡ true)
    go true true pe qe e more = let is = same (sym (ap (λ b. cond b (Some y) (find q (filter p rest))) qe) ∙ e) in (ap p (sym is) ∙ pe, ap q (sym is) ∙ qe)
    go true false pe qe e more = more (sym (ap (λ b. cond b (Some y) (find q (filter p rest))) qe) ∙ e)
    go false b pe qe e more = more e

-- what is left of a list at a place
left_at : {X : Type 0} (xs : List X) (k : ℕ) (x : X) → slice_get xs k ≡ Some x → drop k xs ≡ x ∷ drop (suc k) xs
left_at [] k x e = absurd (cc)
left_at (y ∷ xs) zero x e = let same : y ≡ x = cc in ap (λ z. z ∷ xs) same
left_at (y ∷ xs) (suc k) x e = left_at xs k x e

-- a member that passes is the first one that does, and one that doesn't is passed over
pub found_at : {X : Type 0} (q : X → Bool) (xs : List X) (k : ℕ) (x : X) → slice_get xs k ≡ Some x → q x ≡ true → find q (drop k xs) ≡ Some x
found_at q xs k x e is = ap (find q) (left_at xs k x e) ∙ ap (λ b. cond b (Some x) (find q (drop (suc k) xs))) is

pub passed_at : {X : Type 0} (q : X → Bool) (xs : List X) (k : ℕ) (x : X) → slice_get xs k ≡ Some x → q x ≡ false → find q (drop k xs) ≡ find q (drop (k + 1) xs)
passed_at q xs k x e is = ap (find q) (left_at xs k x e) ∙ (ap (λ b. cond b (Some x) (find q (drop (suc k) xs))) is ∙ (let next : suc k ≡ k + 1 = omega arith in ap (λ j. find q (drop j xs)) next))
