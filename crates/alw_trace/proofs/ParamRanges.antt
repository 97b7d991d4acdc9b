-- Parameters in range, as a test and as a fact.
use Rattle.std.proofs.Common.{◌≡◌, ℕ, ◌≤◌, ◌==◌, ◌||◌, Bool, true, false, List, [], ◌∷◌, refl, arith}
use Rattle.std.specs.List.{list_any, AllByRecursion}
use Rattle.std.proofs.lemmas.Bool.{false≢true, eqb-true, and_from, and_parts}
use Rattle.std.proofs.lemmas.Bool.Decides.{nat_tests}
use Rattle.alw_image.specs.Parameters.{Parameters, AreParameters, may_point, set_counts}
use Rattle.alw_image.specs.Faults.{is_within}
use Rattle.alw_trace.specs.Readings.{are_parameters}

within : (least most n : ℕ) → least ≤ n → n ≤ most → is_within least most n ≡ true
within least most n low high = grind (arith, nat_tests)

low : (least most n : ℕ) → is_within least most n ≡ true → least ≤ n
low least most n is = grind (arith, nat_tests)

high : (least most n : ℕ) → is_within least most n ≡ true → n ≤ most
high least most n is = grind (arith, nat_tests)

some_pointer : (nodes pointers : ℕ) → 1 ≤ nodes → may_point nodes pointers ≡ true → 1 ≤ pointers
some_pointer nodes pointers some points = grind (arith, nat_tests)

few_pointers : (nodes pointers : ℕ) → nodes ≤ 256 → may_point nodes pointers ≡ true → pointers ≤ 256
few_pointers nodes pointers few points = grind (arith, nat_tests)

pub fit : (nodes : ℕ) (p : Parameters) → AreParameters p → may_point nodes p.pointers ≡ true → are_parameters nodes p ≡ true
fit nodes p are points = and_from _ _ points (and_from _ _ are.sets (within _ _ p.limit are.some_limit are.limit))

allowed : (nodes : ℕ) (p : Parameters) → 1 ≤ nodes → nodes ≤ 256 → p.evict ≡ 0 → are_parameters nodes p ≡ true → AreParameters p
allowed nodes p some few none is =
    let first = and_parts _ _ is in
    let second = and_parts _ _ first.1 in
    record {
      some_pointer = some_pointer nodes p.pointers some first.0;
      pointers = few_pointers nodes p.pointers few first.0;
      sets = second.0;
      some_limit = low _ _ p.limit second.1;
      limit = high _ _ p.limit second.1;
      evict = omega (arith, none);
    }

pub unfit : (nodes : ℕ) (p : Parameters) → 1 ≤ nodes → nodes ≤ 256 → p.evict ≡ 0 → ¬ AreParameters p → are_parameters nodes p ≡ false
unfit nodes p some few none other = go (are_parameters nodes p) refl
  where
    go : (b : Bool) → are_parameters nodes p ≡ b → are_parameters nodes p ≡ false
    go true e = absurd (other (allowed nodes p some few none e))
    go false e = e

pub unpointed : (nodes : ℕ) (p : Parameters) → may_point nodes p.pointers ≡ false → are_parameters nodes p ≡ false
unpointed nodes p none = rw none refl

-- ---- the most sets

any_within : (most x : ℕ) (xs : List ℕ) → AllByRecursion (λ n. n ≤ most) xs → list_any (λ n. x == n) xs ≡ true → x ≤ most
any_within most x [] all is = absurd (false≢true is)
any_within most x (n ∷ rest) all is = go (x == n) refl is (any_within most x rest all.1)
  where
    go : (b : Bool) → (x == n) ≡ b → (b || list_any (λ n. x == n) rest) ≡ true → (list_any (λ n. x == n) rest ≡ true → x ≤ most) → x ≤ most
    go true e is more = let same = eqb-true x n e in omega (arith, all.0)
    go false e is more = more is

pub sets_within : (p : Parameters) → AreParameters p → p.sets ≤ 4096
sets_within p are = any_within 4096 p.sets set_counts (
  omega arith,
  (
    omega arith,
    (
      omega arith,
      (omega arith, (omega arith, (omega arith, (omega arith, (omega arith, (omega arith, (omega arith, (omega arith, tt)))))))),
    ),
  ),
) are.sets
