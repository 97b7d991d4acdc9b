-- Sets of numbers as marks.
use Rattle.std.proofs.Common.{◌≡◌, true, false, Bool, ℕ, zero, suc, ◌+◌, ◌*◌, ◌<◌, ◌≤◌, max, List, [], ◌∷◌, ◌++◌, refl, arith, ⊎_elim}
use Rattle.std.specs.Prelude.{replicate}
use Rattle.std.proofs.Math.Bool.{or-true}
use Rattle.std.proofs.lemmas.Bool.{cases_lt}
use Rattle.std.proofs.lemmas.Bool.Decides.{nat_tests}
use Rattle.sparc_place.specs.Marks.{is_marked, is_context_marked, any_below}
use Rattle.sparc_place.specs.Places.{with_range, with_start}

-- a number that passes the test is found
pub any_found : (n i : ℕ) (test : ℕ → Bool) → i < n → test i ≡ true → any_below n test ≡ true
any_found zero i test l here = absurd (omega arith)
any_found (suc n) i test l here = ⊎_elim
    (λ (less : i < n). rw (any_found n i test less here))
    (λ (other : n ≤ i). let same : n ≡ i = omega arith in rw (same, here) (or-true (any_below i test)))
    (cases_lt i n)

blank : (k n : ℕ) → is_marked (replicate k false) n ≡ false
blank zero n = refl
blank (suc k) zero = refl
blank (suc k) (suc n) = blank k n

-- marks of no number behind the others change nothing
grown : (old : List Bool) (k n : ℕ) → is_marked (old ++ replicate k false) n ≡ is_marked old n
grown [] k n = blank k n
grown (x ∷ xs) k zero = refl
grown (x ∷ xs) k (suc n) = grown xs k n

-- the last mark
pub whole_range : (from to i n : ℕ) (set : ℕ → Bool) → from ≤ i → to ≤ i → i ≤ max from to → with_range from i set n ≡ with_range from to set n
whole_range from to i n set low past stop = grind (arith, nat_tests)

-- one more context
pub more_contexts : (old new : List Bool) (node slot n s : ℕ) → node < 65536 → slot < 256 → ((k : ℕ) → is_marked new k ≡ with_range (256 * node + slot) (256 * node + slot + 1) (is_marked old) k) → is_context_marked new n s ≡ with_start node slot (is_context_marked old) n s
more_contexts old new node slot n s small few marked = grind (arith, nat_tests, marked (256 * n + s))

pub no_context : (n s : ℕ) → is_context_marked [] n s ≡ false
no_context n s = grind (arith, nat_tests)
