-- Laws of finite maps: what a map answers after a change, and that two maps that answer alike are equal.
use Rattle.std.proofs.Common.{◌≡◌, ℕ, ◌+◌, ◌<◌, Bool, true, false, cond, ◌==◌, T, Some, None, List, [], ◌∷◌, refl, sym, ap, ◌∙◌, subst, ◌⊎◌, inl, inr, arith}
use Rattle.std.proofs.lemmas.Bool.Decides.{nat_tests}
use Rattle.std.proofs.lemmas.Bool.{cases_order}
use Rattle.std.proofs.lemmas.Option.{same_Some, none-some}
use Rattle.alw_num.specs.Maps.{Map, ascends_from, put, taken, found, empty_map, value_at, with_value, without_value}

found-put : {X : Type 0} (key : ℕ) (value : X) (at : ℕ) (entries : List (ℕ × X)) → found at (put key value entries) ≡ cond (at == key) (Some value) (found at entries)
found-put key value at [] = refl
found-put key value at (entry ∷ rest) = grind (arith, nat_tests, found-put key value at rest)

-- below all keys there is no value
pub not_below : {X : Type 0} (at low : ℕ) (entries : List (ℕ × X)) → at < low → T (ascends_from low entries) → found at entries ≡ None
not_below at low [] l a = refl
not_below at low (entry ∷ rest) l a = grind (arith, nat_tests, not_below at (entry.0 + 1) rest)

found-taken : {X : Type 0} (key low at : ℕ) (entries : List (ℕ × X)) → T (ascends_from low entries) → found at (taken key entries) ≡ cond (at == key) None (found at entries)
found-taken key low at [] a = grind (arith, nat_tests)
found-taken key low at (entry ∷ rest) a = grind (arith, nat_tests, not_below at (entry.0 + 1) rest, found-taken key (entry.0 + 1) at rest)

pub value-empty : {X : Type 0} (at : ℕ) → value_at (empty_map {X = X}) at ≡ None
unfolding value_at empty_map
value-empty at = refl

pub value-with : {X : Type 0} (map : Map X) (key : ℕ) (value : X) (at : ℕ) → value_at (with_value map key value) at ≡ cond (at == key) (Some value) (value_at map at)
unfolding value_at with_value
value-with map key value at = found-put key value at map.entries

pub value-without : {X : Type 0} (map : Map X) (key at : ℕ) → value_at (without_value map key) at ≡ cond (at == key) None (value_at map at)
unfolding value_at without_value
value-without map key at = found-taken key 0 at map.entries map.ascending

-- ---- equality

-- at its first key a list has its first value
pub first_found : {X : Type 0} (x : ℕ × X) (xs : List (ℕ × X)) → found x.0 (x ∷ xs) ≡ Some x.1
first_found x xs = grind (arith, nat_tests)

tails_alike : {X : Type 0} (x y : ℕ × X) (xs ys : List (ℕ × X)) → x.0 ≡ y.0 → T (ascends_from (x.0 + 1) xs) → T (ascends_from (y.0 + 1) ys) → (at : ℕ) → found at (x ∷ xs) ≡ found at (y ∷ ys) → found at xs ≡ found at ys
tails_alike x y xs ys e a b at same = grind (arith, nat_tests, not_below at (x.0 + 1) xs, not_below at (y.0 + 1) ys)

heads_alike : {X : Type 0} (low : ℕ) (x y : ℕ × X) (xs ys : List (ℕ × X)) → T (ascends_from low (x ∷ xs)) → T (ascends_from low (y ∷ ys)) → ((at : ℕ) → found at (x ∷ xs) ≡ found at (y ∷ ys)) → x.0 < y.0 → ⊥
heads_alike low x y xs ys a b same l = none-some x.1 (sym (sym (first_found x xs) ∙ (same x.0 ∙ not_below x.0 y.0 (y ∷ ys) l (grind (arith, nat_tests)))))

-- the entries behind the first ascend from above its key
pub rest_ascends : {X : Type 0} (low : ℕ) (x : ℕ × X) (xs : List (ℕ × X)) → T (ascends_from low (x ∷ xs)) → T (ascends_from (x.0 + 1) xs)
rest_ascends low x xs a = grind (arith, nat_tests)

-- a list may begin at its first key, or below it
raised : {X : Type 0} (low : ℕ) (x : ℕ × X) (xs : List (ℕ × X)) → T (ascends_from low (x ∷ xs)) → T (ascends_from x.0 (x ∷ xs))
raised low x xs a = grind (arith, nat_tests)

raised_to : {X : Type 0} (low : ℕ) (x : ℕ × X) (xs : List (ℕ × X)) → T (ascends_from low (x ∷ xs)) → (to : ℕ) → to < x.0 → T (ascends_from to (x ∷ xs))
raised_to low x xs a to l = grind (arith, nat_tests)

same_entries : {X : Type 0} (low high : ℕ) (xs ys : List (ℕ × X)) → T (ascends_from low xs) → T (ascends_from high ys) → ((at : ℕ) → found at xs ≡ found at ys) → xs ≡ ys
same_entries low high [] [] a b same = refl
same_entries low high [] (y ∷ ys) a b same = absurd (none-some y.1 (same y.0 ∙ first_found y ys))
same_entries low high (x ∷ xs) [] a b same = absurd (none-some x.1 (sym (same x.0) ∙ first_found x xs))
same_entries low high (x ∷ xs) (y ∷ ys) a b same =
    go (same_entries (x.0 + 1) (y.0 + 1) xs ys (rest_ascends low x xs a) (rest_ascends high y ys b)) (cases_order x.0 y.0)
  where
    go : (((at : ℕ) → found at xs ≡ found at ys) → xs ≡ ys) → (x.0 ≡ y.0) ⊎ ((x.0 < y.0) ⊎ (y.0 < x.0)) → x ∷ xs ≡ y ∷ ys
    go rest (inl e) =
        let tails : xs ≡ ys = rest (λ at. tails_alike x y xs ys e (rest_ascends low x xs a) (rest_ascends high y ys b) at (same at)) in
        let value : x.1 ≡ y.1 = same_Some x.1 y.1 (sym (first_found x xs) ∙ (same x.0 ∙ (ap (λ k. found k (y ∷ ys)) e ∙ first_found y ys))) in
        λ i. (e i, value i) ∷ tails i
    go rest (inr (inl l)) = absurd (heads_alike x.0 x y xs ys (raised low x xs a) (raised_to high y ys b x.0 l) same l)
    go rest (inr (inr l)) = absurd (heads_alike y.0 y x ys xs (raised high y ys b) (raised_to low x xs a y.0 l) (λ at. sym (same at)) l)

T_same : (b : Bool) (p q : T b) → p ≡ q
T_same true p q = refl
T_same false p q = absurd p

abbrev map_of : {X : Type 0} (entries : List (ℕ × X)) → T (ascends_from 0 entries) → Map X
map_of entries ascending = record { entries = entries; ascending = ascending }

same_map_of : {X : Type 0} (xs ys : List (ℕ × X)) → xs ≡ ys → (a : T (ascends_from 0 xs)) (b : T (ascends_from 0 ys)) → map_of xs a ≡ map_of ys b
same_map_of {X} xs ys e a b = subst (λ (zs : List (ℕ × X)). (c : T (ascends_from 0 zs)) → map_of xs a ≡ map_of zs c) e (λ c. ap (map_of xs) (T_same (ascends_from 0 xs) a c)) b

-- two maps that answer alike are equal
pub same_maps : {X : Type 0} (one other : Map X) → ((at : ℕ) → value_at one at ≡ value_at other at) → one ≡ other
unfolding value_at
same_maps one other same = same_map_of one.entries other.entries (same_entries 0 0 one.entries other.entries one.ascending other.ascending same) one.ascending other.ascending
