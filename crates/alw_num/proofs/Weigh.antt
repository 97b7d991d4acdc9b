-- Laws of the weight of a list and of sums over the nodes below a number.
use Rattle.std.proofs.Common.{◌≡◌, ℕ, zero, suc, ◌+◌, ◌*◌, ◌<◌, ◌≤◌, ◌≢◌, ◌==◌, Bool, true, false, cond, List, [], ◌∷◌, ◌++◌, map, length, refl, sym, subst, ap, ⊎_elim, arith}
use Rattle.std.specs.List.{flat_map}
use Rattle.std.proofs.lemmas.Bool.{eqb-true, eqb-false, eq-eqb, ne_eqb, cases_lt}
use Rattle.std.proofs.Math.Nat.{mul-add}
use Rattle.alw_num.specs.Weights.{digit, weigh, times, sum_below}

-- a fact where two numbers are one, and where they are not
pub is_node : (P : Type 0) (k i : ℕ) → (k ≡ i → P) → (k ≢ i → P) → P
is_node P k i same other = go (k == i) refl
  where
    go : (b : Bool) → (k == i) ≡ b → P
    go true e = same (eqb-true k i e)
    go false e = other (eqb-false k i e)

-- a fact at each place, of a function that is changed at one
pub at_nodes : {A : Type 0} (P : ℕ → A → Type 0) (f : ℕ → A) (i : ℕ) (v : A) → P i v → ((k : ℕ) → k ≢ i → P k (f k)) → (k : ℕ) → P k (cond (k == i) v (f k))
at_nodes P f i v here there k = go (k == i) refl
  where
    go : (b : Bool) → (k == i) ≡ b → P k (cond b v (f k))
    go true e = let same : i ≡ k = sym (eqb-true k i e) in subst (λ j. P j v) same here
    go false e = there k (eqb-false k i e)

-- a fact below a number, and from it on
pub cases_lt_then : {P : Type 0} (n j : ℕ) → (j < n → P) → (n ≤ j → P) → P
cases_lt_then n j below from = ⊎_elim below from (cases_lt j n)

pub digit_le : (b : Bool) → digit b ≤ 1
digit_le true = omega arith
digit_le false = omega arith

pub digit_of_more : (a b : Bool) → (a ≡ true → b ≡ true) → digit a ≤ digit b
digit_of_more true b more = rw (more refl) (omega arith)
digit_of_more false b more = omega arith

pub true_of_digit : (b : Bool) → 1 ≤ digit b → b ≡ true
true_of_digit true h = refl
true_of_digit false h = absurd (omega arith)

pub digit_same : (k i : ℕ) → k ≡ i → digit (k == i) ≡ 1
digit_same k i e = ap digit (eq-eqb k i e)

pub digit_other : (k i : ℕ) → k ≢ i → digit (k == i) ≡ 0
digit_other k i e = ap digit (ne_eqb k i e)

module _ {A : Type 0} where
  pub weigh-append : (f : A → ℕ) (xs ys : List A) → weigh f (xs ++ ys) ≡ weigh f xs + weigh f ys
  weigh-append f [] ys = omega arith
  weigh-append f (x ∷ xs) ys = omega (arith, weigh-append f xs ys)

  pub weigh_push : (f : A → ℕ) (xs : List A) (x : A) → weigh f (xs ++ x ∷ []) ≡ weigh f xs + f x
  weigh_push f xs x = omega (arith, weigh-append f xs (x ∷ []))

  pub weigh-le : (f g : A → ℕ) → ((x : A) → f x ≤ g x) → (xs : List A) → weigh f xs ≤ weigh g xs
  weigh-le f g le [] = omega arith
  weigh-le f g le (x ∷ xs) = omega (arith, le x, weigh-le f g le xs)

  pub weigh-same : (f g : A → ℕ) → ((x : A) → f x ≡ g x) → (xs : List A) → weigh f xs ≡ weigh g xs
  weigh-same f g is [] = refl
  weigh-same f g is (x ∷ xs) = omega (arith, is x, weigh-same f g is xs)

  pub weigh-both : (f g : A → ℕ) (xs : List A) → weigh (λ x. f x + g x) xs ≡ weigh f xs + weigh g xs
  weigh-both f g [] = refl
  weigh-both f g (x ∷ xs) = omega (arith, weigh-both f g xs)

  pub weigh-none : (f : A → ℕ) → ((x : A) → f x ≡ 0) → (xs : List A) → weigh f xs ≡ 0
  weigh-none f is [] = refl
  weigh-none f is (x ∷ xs) = omega (arith, is x, weigh-none f is xs)

  pub weigh-one : (f : A → ℕ) → ((x : A) → f x ≡ 1) → (xs : List A) → weigh f xs ≡ length xs
  weigh-one f is [] = refl
  weigh-one f is (x ∷ xs) = omega (arith, is x, weigh-one f is xs)

pub sum_same : (n : ℕ) (f g : ℕ → ℕ) → ((i : ℕ) → i < n → f i ≡ g i) → sum_below n f ≡ sum_below n g
sum_same zero f g is = refl
sum_same (suc n) f g is = omega (arith, is n (omega arith), sum_same n f g (λ i l. is i (omega arith)))

pub sum_le : (n : ℕ) (f g : ℕ → ℕ) → ((i : ℕ) → i < n → f i ≤ g i) → sum_below n f ≤ sum_below n g
sum_le zero f g le = omega arith
sum_le (suc n) f g le = omega (arith, le n (omega arith), sum_le n f g (λ i l. le i (omega arith)))

pub sum_none : (n : ℕ) (f : ℕ → ℕ) → ((i : ℕ) → i < n → f i ≡ 0) → sum_below n f ≡ 0
sum_none zero f is = refl
sum_none (suc n) f is = omega (arith, is n (omega arith), sum_none n f (λ i l. is i (omega arith)))

pub sum_ones : (n : ℕ) → sum_below n (λ k. 1) ≡ n
sum_ones zero = refl
sum_ones (suc n) = omega (arith, sum_ones n)

pub sum_both : (n : ℕ) (f g : ℕ → ℕ) → sum_below n (λ i. f i + g i) ≡ sum_below n f + sum_below n g
sum_both zero f g = refl
sum_both (suc n) f g = omega (arith, sum_both n f g)

pub sum_scale : (n a : ℕ) (f : ℕ → ℕ) → sum_below n (λ i. a * f i) ≡ a * sum_below n f
sum_scale zero a f = omega arith
sum_scale (suc n) a f = rw (mul-add, sum_scale n a f)

-- the node j alone
pub sum_one : (n j : ℕ) → j < n → sum_below n (λ i. digit (i == j)) ≡ 1
sum_one zero j l = absurd (omega arith)
sum_one (suc n) j l = is_node _ j n
    (λ same. omega (arith, digit_same n j (sym same), sum_none n (λ i. digit (i == j)) (λ i k. digit_other i j (λ e. omega arith))))
    (λ other. omega (arith, digit_other n j (λ e. other (sym e)), sum_one n j (omega arith)))

pub le_sum : (n : ℕ) (f : ℕ → ℕ) (i : ℕ) → i < n → f i ≤ sum_below n f
le_sum zero f i l = absurd (omega arith)
le_sum (suc n) f i l = is_node _ i n (λ same. omega (arith, ap f same)) (λ other. omega (arith, le_sum n f i (omega arith)))

pub two_le_sum : (n : ℕ) (f : ℕ → ℕ) (i j : ℕ) → i < n → j < n → i ≢ j → f i + f j ≤ sum_below n f
two_le_sum zero f i j l m d = absurd (omega arith)
two_le_sum (suc n) f i j l m d = is_node _ i n
    (λ same. omega (arith, ap f same, le_sum n f j (omega arith)))
    (λ other. is_node _ j n
    (λ same. omega (arith, ap f same, le_sum n f i (omega arith)))
    (λ apart. omega (arith, two_le_sum n f i j (omega arith) (omega arith) d)))

-- a sum that changes at one node
pub sum_at : (n : ℕ) (f g : ℕ → ℕ) (i : ℕ) → i < n → ((k : ℕ) → k ≢ i → f k ≡ g k) → sum_below n f + g i ≡ sum_below n g + f i
sum_at zero f g i l is = absurd (omega arith)
sum_at (suc n) f g i l is = is_node _ i n
    (λ same. omega (arith, ap f same, ap g same, sum_same n f g (λ k m. is k (λ e. omega arith))))
    (λ other. omega (arith, is n (λ e. other (sym e)), sum_at n f g i (omega arith) is))

-- a list whose numbers are all below n is as long as its counts say
pub sum_times : (n : ℕ) (js : List ℕ) → ((k : ℕ) → n ≤ k → times k js ≡ 0) → sum_below n (λ k. times k js) ≡ length js
sum_times n [] beyond = sum_none n (λ k. 0) (λ k l. refl)
sum_times n (j ∷ js) beyond =
    let rest = sum_times n js (λ k l. omega (arith, beyond k l)) in
    cases_lt_then n j
    (λ l. omega (arith, rest, sum_both n (λ k. digit (k == j)) (λ k. times k js), sum_one n j l))
    (λ l. absurd (omega (arith, beyond j l, digit_same j j refl)))

-- ---- the weight of what a list is made into

pub weigh-map : {A B : Type 0} (f : B → ℕ) (g : A → B) (xs : List A) → weigh f (map g xs) ≡ weigh (λ x. f (g x)) xs
weigh-map f g [] = refl
weigh-map f g (x ∷ rest) = ap (λ n. f (g x) + n) (weigh-map f g rest)

pub weigh_flat : {A B : Type 0} (f : B → ℕ) (g : A → List B) (xs : List A) → weigh f (flat_map g xs) ≡ weigh (λ x. weigh f (g x)) xs
weigh_flat f g [] = refl
weigh_flat f g (x ∷ rest) = omega (arith, weigh-append f (g x) (flat_map g rest), weigh_flat f g rest)
