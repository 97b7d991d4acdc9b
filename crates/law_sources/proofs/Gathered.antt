-- Members whose keys ascend are gathered by their keys.
use Rattle.std.proofs.Common.{◌≡◌, ℕ, zero, suc, ◌+◌, ◌<◌, ◌≤◌, Bool, true, false, cond, ◌==◌, nat_lt, List, [], ◌∷◌, ◌++◌, map, slice_index, refl, sym, ap, subst, ◌∙◌, append_assoc, arith}
use Rattle.std.proofs.lemmas.Bool.{eqb-true, eqb-false, ltb-true, ltb-false}
use Rattle.std.proofs.lemmas.List.{append-nil}
use Rattle.std.specs.List.{AllByRecursion}
use Rattle.std.specs.List.Sorted.{IsStrictlyIncreasing}
use Rattle.sparc_assemble.specs.Assembly.{gathered}
use Rattle.sparc_assemble.proofs.Rising.{Rises}

-- ---- numbers that ascend

tail_ascends : (x : ℕ) (rest : List ℕ) → IsStrictlyIncreasing (x ∷ rest) → IsStrictlyIncreasing rest
tail_ascends x rest ascends = λ k within.
    let e : suc k + 1 ≡ suc (k + 1) = omega arith in
    subst (λ (m : ℕ). slice_index rest k < slice_index (x ∷ rest) m) e (ascends (suc k) (omega arith))

rises_from : (low high x : ℕ) (xs : List ℕ) → low ≤ x → AllByRecursion (λ n. n < high) (x ∷ xs) → IsStrictlyIncreasing (x ∷ xs) → Rises low high (x ∷ xs)
rises_from low high x [] least all ascends = let top = all.0 in (least, omega arith)
rises_from low high x (y ∷ ys) least all ascends =
    let first : x < y = ascends 0 (omega arith) in
    (least, rises_from (x + 1) high y ys (omega arith) all.1 (tail_ascends x (y ∷ ys) ascends))

-- numbers below another that ascend
pub rises : (high : ℕ) (xs : List ℕ) → AllByRecursion (λ n. n < high) xs → IsStrictlyIncreasing xs → Rises 0 high xs
rises high [] all ascends = omega arith
rises high (x ∷ xs) all ascends = rises_from 0 high x xs (omega arith) all ascends

least_below : (low high : ℕ) (xs : List ℕ) → Rises low high xs → low ≤ high
least_below low high [] up = up
least_below low high (x ∷ xs) up = let least = up.0 in omega (arith, least_below (x + 1) high xs up.1)

-- ---- members by their keys

module _ {A : Type 0} (key : A → ℕ) where
  -- the members with keys below a number
  abbrev pub before : ℕ → List A → List A
  before n [] = []
  before n (x ∷ xs) = cond (nat_lt (key x) n) (x ∷ before n xs) (before n xs)

  -- the members with a key
  abbrev pub with_key : ℕ → List A → List A
  with_key n [] = []
  with_key n (x ∷ xs) = cond (key x == n) (x ∷ with_key n xs) (with_key n xs)

  none_before : (low high n : ℕ) (xs : List A) → Rises low high (map key xs) → n ≤ low → before n xs ≡ []
  none_before low high n [] up small = refl
  none_before low high n (x ∷ xs) up small = let least = up.0 in go (nat_lt (key x) n) refl (none_before (key x + 1) high n xs up.1 (omega arith))
    where
      go : (b : Bool) → nat_lt (key x) n ≡ b → before n xs ≡ [] → cond b (x ∷ before n xs) (before n xs) ≡ []
      go true e rest = absurd (let below = ltb-true (key x) n e in let least = up.0 in omega arith)
      go false e rest = rest

  pub none_with_key : (low high n : ℕ) (xs : List A) → Rises low high (map key xs) → n < low → with_key n xs ≡ []
  none_with_key low high n [] up small = refl
  none_with_key low high n (x ∷ xs) up small = let least = up.0 in go (key x == n) refl (none_with_key (key x + 1) high n xs up.1 (omega arith))
    where
      go : (b : Bool) → (key x == n) ≡ b → with_key n xs ≡ [] → cond b (x ∷ with_key n xs) (with_key n xs) ≡ []
      go true e rest = absurd (let same = eqb-true (key x) n e in let least = up.0 in omega arith)
      go false e rest = rest

  pub all_before : (low high : ℕ) (xs : List A) → Rises low high (map key xs) → before high xs ≡ xs
  all_before low high [] up = refl
  all_before low high (x ∷ xs) up = go (nat_lt (key x) high) refl (all_before (key x + 1) high xs up.1)
    where
      go : (b : Bool) → nat_lt (key x) high ≡ b → before high xs ≡ xs → cond b (x ∷ before high xs) (before high xs) ≡ x ∷ xs
      go true e others = ap (λ rest. x ∷ rest) others
      go false e others = absurd (let above = ltb-false (key x) high e in let top = least_below (key x + 1) high (map key xs) up.1 in omega arith)

  -- the members with keys up to a number
  more_before : (low high n : ℕ) (xs : List A) → Rises low high (map key xs) → before (n + 1) xs ≡ before n xs ++ with_key n xs
  more_before low high n [] up = refl
  more_before low high n (x ∷ xs) up = go (nat_lt (key x) n) refl (key x == n) refl (nat_lt (key x) (n + 1)) refl (more_before (key x + 1) high n xs up.1)
    where
      go : (a : Bool) → nat_lt (key x) n ≡ a → (b : Bool) → (key x == n) ≡ b → (c : Bool) → nat_lt (key x) (n + 1) ≡ c → before (n + 1) xs ≡ before n xs ++ with_key n xs
          → cond c (x ∷ before (n + 1) xs) (before (n + 1) xs) ≡ cond a (x ∷ before n xs) (before n xs) ++ cond b (x ∷ with_key n xs) (with_key n xs)
      go true e false f true g more = ap (λ rest. x ∷ rest) more
      go false e true f true g more =
          let same = eqb-true (key x) n f in
          let none : before n xs ≡ [] = none_before (key x + 1) high n xs up.1 (omega arith) in
          rw (more, none) refl
      go false e false f false g more = more
      go true e true f c g more = absurd (let small = ltb-true (key x) n e in let same = eqb-true (key x) n f in omega arith)
      go true e false f false g more = absurd (let small = ltb-true (key x) n e in let large = ltb-false (key x) (n + 1) g in omega arith)
      go false e true f false g more = absurd (let same = eqb-true (key x) n f in let large = ltb-false (key x) (n + 1) g in omega arith)
      go false e false f true g more = absurd (let large = ltb-false (key x) n e in let other = eqb-false (key x) n f in let small = ltb-true (key x) (n + 1) g in omega arith)

  module _ (high : ℕ) (xs : List A) (up : Rises 0 high (map key xs)) where
    -- what a part of the numbers has, behind what those before it have
    pub gathered_behind : (found : ℕ → List A) (from n : ℕ) → ((k : ℕ) → k < n → found k ≡ with_key (from + k) xs) → before from xs ++ gathered found n ≡ before (from + n) xs
    gathered_behind found from zero each = append-nil (before from xs) ∙ ap (λ m. before m xs) (let e : from ≡ from + 0 = omega arith in e)
    gathered_behind found from (suc n) each =
        let next : from + n + 1 ≡ from + suc n = omega arith in
        sym (append_assoc (before from xs) (gathered found n) (found n))
        ∙ (ap (λ ys. ys ++ found n) (gathered_behind found from n (λ k small. each k (omega arith)))
        ∙ (ap (λ ys. before (from + n) xs ++ ys) (each n (omega arith))
        ∙ (sym (more_before 0 high (from + n) xs up) ∙ ap (λ m. before m xs) next)))

    pub nothing_before : before 0 xs ≡ []
    nothing_before = none_before 0 high 0 xs up (omega arith)

    -- all members, gathered from the numbers up to a bound
    pub gathered_all : (found : ℕ → List A) → ((k : ℕ) → k < high → found k ≡ with_key k xs) → gathered found high ≡ xs
    gathered_all found each =
        let zero_plus : (k : ℕ) → k ≡ 0 + k = λ k. omega arith in
        ap (λ ys. ys ++ gathered found high) (sym nothing_before)
        ∙ (gathered_behind found 0 high (λ k small. each k small ∙ ap (λ m. with_key m xs) (zero_plus k))
        ∙ (ap (λ m. before m xs) (sym (zero_plus high)) ∙ all_before 0 high xs up))
