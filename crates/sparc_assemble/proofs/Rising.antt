-- Gathered lists rise, and keep what each of their parts has.
use Rattle.std.proofs.Common.{◌≡◌, ℕ, zero, suc, ◌+◌, ◌<◌, ◌≤◌, add-one, List, [], ◌∷◌, ◌++◌, map, refl, ap, ◌∙◌, arith}
use Rattle.std.specs.List.{AllByRecursion}
use Rattle.std.specs.List.Sorted.{IsStrictlyIncreasing}
use Rattle.sparc_assemble.specs.Assembly.{gathered}
use Rattle.alw_num.proofs.Alls.{all_append}
use Rattle.std.proofs.lemmas.List.{map-append}

-- numbers from one on, each above those before it, all below another
abbrev pub Rises : ℕ → ℕ → List ℕ → Type 0
Rises low high [] = low ≤ high
Rises low high (x ∷ xs) = (low ≤ x) × Rises (x + 1) high xs

lower : (low next high : ℕ) (xs : List ℕ) → low ≤ next → Rises next high xs → Rises low high xs
lower low next high [] l h = omega arith
lower low next high (x ∷ xs) l h = (omega (arith, h.0), h.1)

rises_append : (low mid high : ℕ) (xs ys : List ℕ) → Rises low mid xs → Rises mid high ys → Rises low high (xs ++ ys)
rises_append low mid high [] ys h k = lower low mid high ys h k
rises_append low mid high (x ∷ xs) ys h k = (h.0, rises_append (x + 1) mid high xs ys h.1 k)

pub increasing : (low high : ℕ) (xs : List ℕ) → Rises low high xs → IsStrictlyIncreasing xs
increasing low high [] h k l = absurd (omega arith)
increasing low high (x ∷ []) h k l = absurd (omega arith)
increasing low high (x ∷ y ∷ rest) h zero l = omega (arith, h.1.0)
increasing low high (x ∷ y ∷ rest) h (suc k) l = rw add-one (rw add-one at (increasing (x + 1) high (y ∷ rest) h.1 k (omega arith)))

pub rises_gathered : (found : ℕ → List ℕ) (start : ℕ → ℕ) → ((n : ℕ) → Rises (start n) (start (suc n)) (found n)) → (n : ℕ) → Rises (start 0) (start n) (gathered found n)
rises_gathered found start each zero = omega arith
rises_gathered found start each (suc n) = rises_append (start 0) (start n) (start (suc n)) (gathered found n) (found n) (rises_gathered found start each n) (each n)

pub map_gathered : {A B : Type 0} (f : A → B) (found : ℕ → List A) (n : ℕ) → map f (gathered found n) ≡ gathered (λ k. map f (found k)) n
map_gathered f found zero = refl
map_gathered f found (suc n) = map-append f (gathered found n) (found n) ∙ ap (λ xs. xs ++ map f (found n)) (map_gathered f found n)

pub all_gathered : {A : Type 0} (P : A → Type 0) (found : ℕ → List A) (n : ℕ) → ((k : ℕ) → k < n → AllByRecursion P (found k)) → AllByRecursion P (gathered found n)
all_gathered P found zero each = tt
all_gathered P found (suc n) each = all_append P (gathered found n) (found n) (all_gathered P found n (λ k l. each k (omega arith))) (each n (omega arith))
