-- A table whose keys lie in a range has at most as many entries as the range has numbers.
use Rattle.std.proofs.Common.{◌≡◌, ℕ, ◌+◌, ◌<◌, ◌≤◌, T, Some, None, List, [], ◌∷◌, length, sym, ap, ◌∙◌, ◌⊎◌, inl, inr, arith}
use Rattle.std.proofs.lemmas.Bool.{cases_order, ne_eqb}
use Rattle.std.proofs.lemmas.Bool.Decides.{nat_tests}
use Rattle.alw_num.specs.Maps.{Map, ascends_from, found, value_at}
use Rattle.alw_num.proofs.MapLaws.{not_below}

-- each key lies in a range
abbrev Within : {X : Type 0} → ℕ → ℕ → List (ℕ × X) → Type 0
Within {X} low top entries = (k : ℕ) (x : X) → found k entries ≡ Some x → (low ≤ k) × (k < top)

first_key : {X : Type 0} (entry : ℕ × X) (rest : List (ℕ × X)) → found entry.0 (entry ∷ rest) ≡ Some entry.1
first_key entry rest = grind (arith, nat_tests)

some_is_none : {X : Type 0} (x : X) → None ≡ Some x → ⊥
some_is_none x e = cc

later_key : {X : Type 0} (entry : ℕ × X) (rest : List (ℕ × X)) (k : ℕ) (x : X) → T (ascends_from (entry.0 + 1) rest) → found k rest ≡ Some x → (entry.0 < k)
    × (found k (entry ∷ rest) ≡ Some x)
later_key entry rest k x a e = go (cases_order k entry.0)
  where
    go : (k ≡ entry.0) ⊎ ((k < entry.0) ⊎ (entry.0 < k)) → (entry.0 < k) × (found k (entry ∷ rest) ≡ Some x)
    go (inl same) = absurd (some_is_none x (sym (not_below k (entry.0 + 1) rest (omega arith) a) ∙ e))
    go (inr (inl l)) = absurd (some_is_none x (sym (not_below k (entry.0 + 1) rest (omega arith) a) ∙ e))
    go (inr (inr l)) = (l, rw (ne_eqb k entry.0 (λ same. omega arith)) e)

tail_within : {X : Type 0} (low top : ℕ) (entry : ℕ × X) (rest : List (ℕ × X)) → T (ascends_from (entry.0 + 1) rest) → Within low top (entry ∷ rest)
    → Within (entry.0 + 1) top rest
tail_within low top entry rest a w k x e = let n = later_key entry rest k x a e in (omega (arith, n.0), (w k x n.1).1)

rest_ascends : {X : Type 0} (low : ℕ) (entry : ℕ × X) (rest : List (ℕ × X)) → T (ascends_from low (entry ∷ rest)) → T (ascends_from (entry.0 + 1) rest)
rest_ascends low entry rest a = grind (arith, nat_tests)

count_fits : {X : Type 0} (from low top : ℕ) (entries : List (ℕ × X)) → low ≤ top → T (ascends_from from entries) → Within low top entries
    → length entries + low ≤ top
count_fits from low top [] l a w = omega arith
count_fits from low top (entry ∷ rest) l a w =
    let here = w entry.0 entry.1 (first_key entry rest) in
    let tail = rest_ascends from entry rest a in
    omega (arith, here.0, here.1, count_fits (entry.0 + 1) (entry.0 + 1) top rest (omega (arith, here.1)) tail (tail_within low top entry rest tail w))

count_below : {X : Type 0} (from low top line : ℕ) (entries : List (ℕ × X)) → low ≤ line → line < top → T (ascends_from from entries) → Within low top entries
    → found line entries ≡ None → length entries + low < top
count_below from low top line [] l m a w none = omega arith
count_below from low top line (entry ∷ rest) l m a w none =
    let here = w entry.0 entry.1 (first_key entry rest) in
    let tail = rest_ascends from entry rest a in
    let inner = tail_within low top entry rest tail w in
    go here inner (count_fits (entry.0 + 1) (entry.0 + 1) top rest (omega (arith, here.1)) tail inner)
    (λ l n. count_below (entry.0 + 1) (entry.0 + 1) top line rest l m tail inner n) (cases_order line entry.0)
  where
    go : (low ≤ entry.0) × (entry.0 < top) → Within (entry.0 + 1) top rest → length rest + (entry.0 + 1) ≤ top
        → (entry.0 + 1 ≤ line → found line rest ≡ None → length rest + (entry.0 + 1) < top)
        → (line ≡ entry.0) ⊎ ((line < entry.0) ⊎ (entry.0 < line)) → length (entry ∷ rest) + low < top
    go here inner fits next (inl same) = absurd (some_is_none entry.1 (sym none ∙ (ap (λ k. found k (entry ∷ rest)) same ∙ first_key entry rest)))
    go here inner fits next (inr (inl less)) = omega (arith, here.0, fits)
    go here inner fits next (inr (inr more)) =
        let later : found line rest ≡ None = rw (ne_eqb line entry.0 (λ same. omega arith)) at none in
        omega (arith, here.0, next (omega arith) later)

-- a line of the range without a value leaves room for one
pub free_place : {X : Type 0} (map : Map X) (first count line : ℕ) → first ≤ line → line < first + count
    → ((k : ℕ) (x : X) → value_at map k ≡ Some x → (first ≤ k) × (k < first + count)) → value_at map line ≡ None → length map.entries < count
unfolding value_at
free_place map first count line l m w none = omega (arith, count_below 0 first (first + count) line map.entries l m map.ascending w none)
