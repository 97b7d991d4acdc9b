-- Words that spell a number.
use Rattle.std.proofs.Common.{◌≡◌, ℕ, ◌<◌, ◌≤◌, ◌^◌, ◌==◌, nat_le, Bool, true, false, cond, ◌&&◌}
use Rattle.std.proofs.Common.{Some, None, List, [], ◌∷◌, ◌⊎◌, ⊎_elim, refl, subst, ap, ◌∙◌, decimal, arith}
use Rattle.std.proofs.lemmas.Slice.Eq.{bytes_eq-Decides}
use Rattle.std.proofs.lemmas.Bool.{and_parts}
use Rattle.std.proofs.lemmas.Bool.Decides.{nat_tests}
use Rattle.std.proofs.lemmas.Fmt.{decimal_is_IsNumeral}
use Rattle.std.specs.List.{list_any}
use Rattle.alw_image.specs.Parameters.{set_counts}
use Rattle.alw_config.specs.Values.{number_of, is_decimal, number_if}

-- what a number's spelling reads as
number_is : (word : List ℕ) (n : ℕ) → word ≡ decimal n → n < 2 ^ 64 → number_of word ≡ n
number_is word n spelled l = ap number_of spelled ∙ (decimal_is_IsNumeral n l).1

pub spelled_if : (test : ℕ → Bool) (word : List ℕ) (n : ℕ) → word ≡ decimal n → n < 2 ^ 64 → number_if test word ≡ cond (test n) (Some n) None
spelled_if test word n spelled l = rw (number_is word n spelled l, (bytes_eq-Decides word (decimal n)).1 spelled)

pub passes_if : (test : ℕ → Bool) (word : List ℕ) (n : ℕ) → word ≡ decimal n → n < 2 ^ 64 → test n ≡ true → number_if test word ≡ Some n
passes_if test word n spelled l passed = rw (spelled_if test word n spelled l, passed)

pub fails_if : (test : ℕ → Bool) (word : List ℕ) (n : ℕ) → word ≡ decimal n → n < 2 ^ 64 → test n ≡ false → number_if test word ≡ None
fails_if test word n spelled l failed = rw (spelled_if test word n spelled l, failed)

-- a number that passes
pub passed_if : (test : ℕ → Bool) (word : List ℕ) (n : ℕ) → number_if test word ≡ Some n → test n ≡ true
passed_if test word n found = go (is_decimal word && test (number_of word)) refl found
  where
    go : (b : Bool) → (is_decimal word && test (number_of word)) ≡ b → cond b (Some (number_of word)) None ≡ Some n → test n ≡ true
    go true e is = let same : number_of word ≡ n = cc in subst (λ m. test m ≡ true) same (and_parts (is_decimal word) (test (number_of word)) e).1
    go false e is = absurd (cc)

-- ---- a test that passes less

abbrev Narrows : (ℕ → Bool) → (ℕ → Bool) → Type 0
Narrows wide test = (n : ℕ) → test n ≡ true → wide n ≡ true

pub fails_wide : (wide test : ℕ → Bool) (word : List ℕ) → Narrows wide test → number_if wide word ≡ None → number_if test word ≡ None
fails_wide wide test word narrows none = go (is_decimal word && test (number_of word)) refl
  where
    go : (b : Bool) → (is_decimal word && test (number_of word)) ≡ b → cond b (Some (number_of word)) None ≡ None
    go true e =
        let parts = and_parts (is_decimal word) (test (number_of word)) e in
        let found : number_if wide word ≡ Some (number_of word) = rw (parts.0, narrows (number_of word) parts.1) refl in
        absurd (cc)
    go false e = refl

pub passes_wide : (wide test : ℕ → Bool) (word : List ℕ) (n : ℕ) → number_if wide word ≡ Some n → number_if test word ≡ cond (test n) (Some n) None
passes_wide wide test word n found = go (is_decimal word) (wide (number_of word)) refl found
  where
    go : (d w : Bool) → is_decimal word ≡ d → cond (d && w) (Some (number_of word)) None ≡ Some n → number_if test word ≡ cond (test n) (Some n) None
    go true true e is = let same : number_of word ≡ n = cc in rw (e, same) refl
    go true false e is = absurd (cc)
    go false w e is = absurd (cc)

-- ---- ranges

pub is_between : (least most n : ℕ) → least ≤ n → n ≤ most → (nat_le least n && nat_le n most) ≡ true
is_between least most n above below = grind (arith, nat_tests)

pub is_outside : (least most n : ℕ) → (n < least) ⊎ (most < n) → (nat_le least n && nat_le n most) ≡ false
is_outside least most n far = ⊎_elim (λ below. grind (arith, nat_tests)) (λ above. grind (arith, nat_tests)) far

-- ---- numbers of sets

abbrev pub is_set_count : ℕ → Bool
is_set_count n = list_any (λ count. n == count) set_counts

pub set_count_is_between : (n : ℕ) → is_set_count n ≡ true → (nat_le 4 n && nat_le n 4096) ≡ true
set_count_is_between n is = grind (arith, nat_tests)

turned : (n : ℕ) (counts : List ℕ) → list_any (λ count. count == n) counts ≡ list_any (λ count. n == count) counts
turned n [] = refl
turned n (count ∷ counts) = let flipped : (count == n) ≡ (n == count) = grind (arith, nat_tests) in rw (flipped, turned n counts) refl

pub set_count_is : (n : ℕ) → list_any (λ count. count == n) set_counts ≡ is_set_count n
set_count_is n = turned n set_counts
