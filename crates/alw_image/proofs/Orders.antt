-- Tables without a fault: all members are in range, and they ascend.
use Rattle.std.proofs.Common.{◌≡◌, ℕ, zero, suc, ◌+◌, ◌<◌, ◌≤◌, Bool, true, false, not, if◌then◌else◌, Option, Some, None, List, [], ◌∷◌, length, map, slice_index, refl, sym, subst, IsTrue, arith}
use Rattle.std.proofs.lemmas.Bool.Decides.{nat_tests}
use Rattle.std.specs.List.{AllByRecursion}
use Rattle.std.specs.List.Sorted.{IsStrictlyIncreasing}
use Rattle.alw_image.specs.declared.faults.ImageErr.{ImageErr}
use Rattle.alw_image.specs.declared.faults.ImageErr.TheVariants.{Range, Order}
use Rattle.alw_image.specs.Faults.{is_above, table_fault, first_fault}

-- the head of a table without a fault fits, is above what stands before it, and the rest has no fault
pub record HeadFits {X : Type 0} (fits : X → Bool) (key : X → ℕ) (size at : ℕ) (before : Option ℕ) (x : X) (rest : List X) : Type 0 where
  pub fit : IsTrue (fits x)
  pub above : IsTrue (is_above before (key x))
  pub behind : table_fault fits key size (at + size) (Some (key x)) rest ≡ None

by_tests : (fit above : Bool) (at : ℕ) (rest : Option ImageErr) → (if not fit then Some (Range at) else (if not above then Some (Order at) else rest)) ≡ None → IsTrue fit × (IsTrue above × (rest ≡ None))
by_tests true true at rest none = (refl, (refl, none))
by_tests true false at rest none = absurd (let e : Some (Order at) ≡ None = none in cc)
by_tests false above at rest none = absurd (let e : Some (Range at) ≡ None = none in cc)

pub head_fits : {X : Type 0} (fits : X → Bool) (key : X → ℕ) (size at : ℕ) (before : Option ℕ) (x : X) (rest : List X) → table_fault fits key size at before (x ∷ rest) ≡ None → HeadFits fits key size at before x rest
head_fits fits key size at before x rest none =
    let t = by_tests (fits x) (is_above before (key x)) at (table_fault fits key size (at + size) (Some (key x)) rest) none in
    record { fit = t.0; above = t.1.0; behind = t.1.1 }

-- all fit
pub all_fit : {X : Type 0} (fits : X → Bool) (key : X → ℕ) (size at : ℕ) (before : Option ℕ) (xs : List X) → table_fault fits key size at before xs ≡ None → AllByRecursion (λ x. IsTrue (fits x)) xs
all_fit fits key size at before [] none = tt
all_fit fits key size at before (x ∷ rest) none = let h = head_fits fits key size at before x rest none in (h.fit, all_fit fits key size (at + size) (Some (key x)) rest h.behind)

-- the keys ascend from what stands before them
ascends-from : {X : Type 0} (fits : X → Bool) (key : X → ℕ) (size at before : ℕ) (xs : List X) → table_fault fits key size at (Some before) xs ≡ None → IsStrictlyIncreasing (before ∷ map key xs)
ascends-from fits key size at before [] none = λ k within. absurd (omega arith)
ascends-from fits key size at before (x ∷ rest) none =
    let h = head_fits fits key size at (Some before) x rest none in
    let first : before < key x = grind (arith, nat_tests, h.above) in
    let others = ascends-from fits key size (at + size) (key x) rest h.behind in
    step before (key x) (map key rest) first others
  where
    step : (a b : ℕ) (rest : List ℕ) → a < b → IsStrictlyIncreasing (b ∷ rest) → IsStrictlyIncreasing (a ∷ b ∷ rest)
    step a b rest first others zero within = first
    step a b rest first others (suc k) within =
        let e : suc k + 1 ≡ suc (k + 1) = omega arith in
        subst (λ (m : ℕ). slice_index (b ∷ rest) k < slice_index (a ∷ b ∷ rest) m) (sym e) (others k (omega arith))

pub tail_ascends : (a : ℕ) (rest : List ℕ) → IsStrictlyIncreasing (a ∷ rest) → IsStrictlyIncreasing rest
tail_ascends a rest ascends = λ k within.
    let e : suc k + 1 ≡ suc (k + 1) = omega arith in
    subst (λ (m : ℕ). slice_index rest k < slice_index (a ∷ rest) m) e (ascends (suc k) (omega arith))

pub ascends : {X : Type 0} (fits : X → Bool) (key : X → ℕ) (size at : ℕ) (xs : List X) → table_fault fits key size at None xs ≡ None → IsStrictlyIncreasing (map key xs)
ascends fits key size at [] none = λ k within. absurd (omega arith)
ascends fits key size at (x ∷ rest) none = ascends-from fits key size (at + size) (key x) rest (head_fits fits key size at None x rest none).behind

-- ---- the other way round

joined : (fit above : Bool) (at : ℕ) (rest : Option ImageErr) → IsTrue fit → IsTrue above → rest ≡ None → (if not fit then Some (Range at) else (if not above then Some (Order at) else rest)) ≡ None
joined true true at rest fit above none = none
joined true false at rest fit above none = absurd (let e : false ≡ true = above in cc)
joined false _ at rest fit above none = absurd (let e : false ≡ true = fit in cc)

no_fault-from : {X : Type 0} (fits : X → Bool) (key : X → ℕ) (size at before : ℕ) (xs : List X) → AllByRecursion (λ x. IsTrue (fits x)) xs → IsStrictlyIncreasing (before ∷ map key xs) → table_fault fits key size at (Some before) xs ≡ None
no_fault-from fits key size at before [] all ascends = refl
no_fault-from fits key size at before (x ∷ rest) all ascends =
    let first : before < key x = ascends 0 (omega arith) in
    joined (fits x) (is_above (Some before) (key x)) at _ all.0 (grind (arith, nat_tests)) (no_fault-from fits key size (at + size) (key x) rest all.1 (tail_ascends before (key x ∷ map key rest) ascends))

pub no_fault : {X : Type 0} (fits : X → Bool) (key : X → ℕ) (size at : ℕ) (xs : List X) → AllByRecursion (λ x. IsTrue (fits x)) xs → IsStrictlyIncreasing (map key xs) → table_fault fits key size at None xs ≡ None
no_fault fits key size at [] all ascends = refl
no_fault fits key size at (x ∷ rest) all ascends = joined (fits x) true at _ all.0 refl (no_fault-from fits key size (at + size) (key x) rest all.1 ascends)

-- ---- how many there are

few-from : (before most : ℕ) (keys : List ℕ) → before < most → AllByRecursion (λ key. key < most) keys → IsStrictlyIncreasing (before ∷ keys) → length keys + before < most
few-from before most [] within all ascends = omega arith
few-from before most (key ∷ rest) within all ascends =
    let first : before < key = ascends 0 (omega arith) in
    omega (arith, few-from key most rest all.0 all.1 (tail_ascends before (key ∷ rest) ascends))

-- numbers below another that ascend strictly are at most as many
pub few : (most : ℕ) (keys : List ℕ) → AllByRecursion (λ key. key < most) keys → IsStrictlyIncreasing keys → length keys ≤ most
few most [] all ascends = omega arith
few most (key ∷ rest) all ascends = omega (arith, few-from key most rest all.0 all.1 ascends)

pub all_map : {X : Type 0} (P : X → Type 0) (Q : ℕ → Type 0) (key : X → ℕ) (xs : List X) → ((x : X) → P x → Q (key x)) → AllByRecursion P xs → AllByRecursion Q (map key xs)
all_map P Q key [] each all = tt
all_map P Q key (x ∷ rest) each all = (each x all.0, all_map P Q key rest each all.1)

pub all_weaker : {X : Type 0} (P Q : X → Type 0) (xs : List X) → ((x : X) → P x → Q x) → AllByRecursion P xs → AllByRecursion Q xs
all_weaker P Q [] each all = tt
all_weaker P Q (x ∷ rest) each all = (each x all.0, all_weaker P Q rest each all.1)

pub both_none : (a b : Option ImageErr) → first_fault a b ≡ None → (a ≡ None) × (b ≡ None)
both_none None b none = (refl, none)
both_none (Some e) b none = absurd (let w : Some e ≡ None = none in cc)
