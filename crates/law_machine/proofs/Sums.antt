-- Laws of sums over lists, over pairs of numbers, and of greatest members.
use Rattle.std.proofs.Common.{◌≡◌, ℕ, zero, suc, ◌+◌, ◌*◌, ◌<◌, ◌≤◌, ◌==◌, max, fold, Bool, true, false, cond, List, [], ◌∷◌, length, get_or, set, map, refl, sym, ap, ◌∙◌, arith}
use Rattle.std.proofs.lemmas.Bool.{eq-eqb, ne_eqb}
use Rattle.std.proofs.Math.Nat.{suc-mul}
use Rattle.law_machine.proofs.Vocabulary.{weigh, sum_below}
use Rattle.alw_num.proofs.Weigh.{is_node, sum_none, sum_both}

sum_first : (n : ℕ) (f : ℕ → ℕ) → sum_below (suc n) f ≡ f 0 + sum_below n (λ i. f (suc i))
sum_first zero f = omega arith
sum_first (suc n) f = omega (arith, sum_first n f)

-- ---- lists

module _ {X : Type 0} where
  -- one member changes
  pub weigh_set : (f : X → ℕ) (xs : List X) (i : ℕ) (y d : X) → i < length xs → weigh f (set xs i y) + f (get_or xs i d) ≡ weigh f xs + f y
  weigh_set f [] i y d l = absurd (omega arith)
  weigh_set f (x ∷ rest) zero y d l = omega arith
  weigh_set f (x ∷ rest) (suc i) y d l = omega (arith, weigh_set f rest i y d (omega arith))

  pub weigh_most : (f : X → ℕ) (most : ℕ) (xs : List X) (d : X) → ((i : ℕ) → i < length xs → f (get_or xs i d) ≤ most) → weigh f xs ≤ length xs * most
  weigh_most f most [] d few = omega arith
  weigh_most f most (x ∷ rest) d few = omega (arith, few 0 (omega arith), weigh_most f most rest d (λ i l. few (suc i) (omega arith)), suc-mul (length rest) most)

  -- a list's weight as a sum over places
  pub weigh_sum : (f : X → ℕ) (xs : List X) (d : X) → weigh f xs ≡ sum_below (length xs) (λ i. f (get_or xs i d))
  weigh_sum f [] d = refl
  weigh_sum f (x ∷ rest) d = ap (λ n. f x + n) (weigh_sum f rest d) ∙ sym (sum_first (length rest) (λ i. f (get_or (x ∷ rest) i d)))

  -- ---- greatest members

  pub max_above : (f : X → ℕ) (xs : List X) (from : ℕ) → from ≤ fold max from (map f xs)
  max_above f [] from = omega arith
  max_above f (x ∷ rest) from = omega (arith, max_above f rest (max from (f x)))

  pub max_at : (f : X → ℕ) (xs : List X) (from i : ℕ) (d : X) → i < length xs → f (get_or xs i d) ≤ fold max from (map f xs)
  max_at f [] from i d l = absurd (omega arith)
  max_at f (x ∷ rest) from zero d l = omega (arith, max_above f rest (max from (f x)))
  max_at f (x ∷ rest) from (suc i) d l = max_at f rest (max from (f x)) i d (omega arith)

  pub max_most : (f : X → ℕ) (xs : List X) (from most : ℕ) (d : X) → from ≤ most → ((i : ℕ) → i < length xs → f (get_or xs i d) ≤ most) → fold max from (map f xs) ≤ most
  max_most f [] from most d low few = low
  max_most f (x ∷ rest) from most d low few = let here = few 0 (omega arith) in max_most f rest (max from (f x)) most d (omega arith) (λ i l. few (suc i) (omega arith))

-- ---- sums below a number

sum_more : (k m : ℕ) (f : ℕ → ℕ) → sum_below (k + m) f ≡ sum_below k f + sum_below m (λ i. f (k + i))
sum_more k zero f = let e : k + 0 ≡ k = omega arith in ap (λ n. sum_below n f) e ∙ add_none (sum_below k f)
  where
    add_none : (n : ℕ) → n ≡ n + 0
    add_none n = omega arith
sum_more k (suc m) f = let e : k + suc m ≡ suc (k + m) = omega arith in ap (λ n. sum_below n f) e ∙ swap (f (k + m)) (sum_below (k + m) f) (sum_below k f) (sum_below m (λ i. f (k + i))) (sum_more k m f)
  where
    swap : (a b c d : ℕ) → b ≡ c + d → a + b ≡ c + (a + d)
    swap a b c d e = omega arith

-- a sum over places of pairs is a sum over pairs
pub sum_pairs : (n m : ℕ) (f : ℕ → ℕ) → sum_below (n * m) f ≡ sum_below n (λ a. sum_below m (λ b. f (a * m + b)))
sum_pairs zero m f = let e : 0 * m ≡ 0 = omega arith in ap (λ k. sum_below k f) e
sum_pairs (suc n) m f = let e : suc n * m ≡ n * m + m = omega (arith, suc-mul n m) in
    ap (λ k. sum_below k f) e ∙ (sum_more (n * m) m f ∙ turn (sum_below (n * m) f) (sum_below m (λ i. f (n * m + i))) (sum_below n (λ a. sum_below m (λ b. f (a * m + b)))) (sum_pairs n m f))
  where
    turn : (a b c : ℕ) → a ≡ c → a + b ≡ b + c
    turn a b c e = omega arith

pub sum_swap : (n m : ℕ) (f : ℕ → ℕ → ℕ) → sum_below n (λ i. sum_below m (λ j. f i j)) ≡ sum_below m (λ j. sum_below n (λ i. f i j))
sum_swap zero m f = sym (sum_none m (λ j. 0) (λ j l. refl))
sum_swap (suc n) m f = ap (λ k. sum_below m (λ j. f n j) + k) (sum_swap n m f) ∙ sym (sum_both m (λ j. f n j) (λ j. sum_below n (λ i. f i j)))

-- a term that only one number has
pub sum_pick : (n h : ℕ) (f : ℕ → ℕ) → h < n → sum_below n (λ b. cond (h == b) (f b) 0) ≡ f h
sum_pick zero h f l = absurd (omega arith)
sum_pick (suc n) h f l = is_node _ h n
    (λ same. here same (eq-eqb h n same) (sum_none n (λ b. cond (h == b) (f b) 0) (λ b k. ap (λ c. cond c (f b) 0) (ne_eqb h b (λ e. absurd (omega arith))))))
    (λ other. there (ne_eqb h n other) (sum_pick n h f (omega arith)))
  where
    here : h ≡ n → (h == n) ≡ true → sum_below n (λ b. cond (h == b) (f b) 0) ≡ 0 → cond (h == n) (f n) 0 + sum_below n (λ b. cond (h == b) (f b) 0) ≡ f h
    here same e none = ap (λ c. cond c (f n) 0 + sum_below n (λ b. cond (h == b) (f b) 0)) e ∙ omega (arith, ap f same)

    there : (h == n) ≡ false → sum_below n (λ b. cond (h == b) (f b) 0) ≡ f h → cond (h == n) (f n) 0 + sum_below n (λ b. cond (h == b) (f b) 0) ≡ f h
    there e is = ap (λ c. cond c (f n) 0 + sum_below n (λ b. cond (h == b) (f b) 0)) e ∙ omega arith

pub sum_cond : (n : ℕ) (c : Bool) (f : ℕ → ℕ) → sum_below n (λ b. cond c (f b) 0) ≡ cond c (sum_below n f) 0
sum_cond n true f = refl
sum_cond n false f = sum_none n (λ b. 0) (λ b l. refl)
