-- What a header whose fields are all within their ranges says.
use Rattle.std.proofs.Common.{◌≡◌, ℕ, zero, suc, ◌*◌, ◌≤◌, Bool, true, false, Option, Some, None, List, [], ◌∷◌, refl, sym, ap, IsTrue, slice_get, arith}
use Rattle.std.proofs.lemmas.Bool.Decides.{nat_tests}
use Rattle.alw_image.specs.declared.headers.Header.{Header}
use Rattle.alw_image.specs.Faults.{is_within, most_side, least_height, fields, first_unfit, range_fault}
use Rattle.alw_image.specs.Sizes.{ImageIsShort}

test_of : Option (ℕ × Bool) → Bool
test_of None = true
test_of (Some field) = field.1

-- a field of those that all are within their ranges
fits-at : (fs : List (ℕ × Bool)) (k at : ℕ) (fits : Bool) → first_unfit fs ≡ None → slice_get fs k ≡ Some (at, fits) → IsTrue fits
unfolding test_of
fits-at [] k at fits none found = absurd (let e : None ≡ Some (at, fits) = found in cc)
fits-at ((place, true) ∷ rest) zero at fits none found = sym (ap test_of found)
fits-at ((place, true) ∷ rest) (suc k) at fits none found = fits-at rest k at fits none found
fits-at ((place, false) ∷ rest) k at fits none found = absurd (let e : Some place ≡ None = none in cc)

pub within-both : (least most n : ℕ) → IsTrue (is_within least most n) → (least ≤ n) × (n ≤ most)
within-both least most n within = (grind (arith, nat_tests), grind (arith, nat_tests))

-- each field is within its range
pub record AreWithin (h : Header) : Type 0 where
  pub width : (1 ≤ h.width) × (h.width ≤ most_side h.version)
  pub height : (least_height h ≤ h.height) × (h.height ≤ most_side h.version)
  pub contexts : (1 ≤ h.contexts) × (h.contexts ≤ 4)
  pub blank : h.blank ≡ 0
  pub per_node : (1 ≤ h.per_node) × (h.per_node ≤ 4096)
  pub code : (1 ≤ h.code) × (h.code ≤ 65536)
  pub bodies : h.bodies ≤ h.width * h.height * h.per_node
  pub starts : (1 ≤ h.starts) × (h.starts ≤ h.width * h.height * h.contexts)
  pub always : h.always ≤ h.width * h.height * h.per_node

pub are_within : (h : Header) → range_fault h ≡ None → AreWithin h
unfolding fields
are_within h none =
    let blank = within-both 0 0 h.blank (fits-at (fields h) 3 9 (is_within 0 0 h.blank) none refl) in
    record {
      width = within-both 1 (most_side h.version) h.width (fits-at (fields h) 0 6 (is_within 1 (most_side h.version) h.width) none refl);
      height = within-both (least_height h) (most_side h.version) h.height (fits-at (fields h) 1 7 (is_within (least_height h) (most_side h.version) h.height) none refl);
      contexts = within-both 1 4 h.contexts (fits-at (fields h) 2 8 (is_within 1 4 h.contexts) none refl);
      blank = omega arith;
      per_node = within-both 1 4096 h.per_node (fits-at (fields h) 4 10 (is_within 1 4096 h.per_node) none refl);
      code = within-both 1 65536 h.code (fits-at (fields h) 5 12 (is_within 1 65536 h.code) none refl);
      bodies = (within-both 0 (h.width * h.height * h.per_node) h.bodies (fits-at (fields h) 6 16 (is_within 0 (h.width * h.height * h.per_node) h.bodies) none refl)).1;
      starts = within-both 1 (h.width * h.height * h.contexts) h.starts (fits-at (fields h) 7 20 (is_within 1 (h.width * h.height * h.contexts) h.starts) none refl);
      always = (within-both 0 (h.width * h.height * h.per_node) h.always (fits-at (fields h) 8 24 (is_within 0 (h.width * h.height * h.per_node) h.always) none refl)).1;
    }

most : (version : ℕ) → most_side version ≤ 16
most version = grind (arith, nat_tests)

pub product : (a b m n : ℕ) → a ≤ m → b ≤ n → a * b ≤ m * n
product a b m n a_fits b_fits = grind arith

pub is_short : (h : Header) → range_fault h ≡ None → ImageIsShort h
is_short h none =
    let w = are_within h none in
    let sides = most h.version in
    let nodes : h.width * h.height ≤ 16 * 16 = product h.width h.height 16 16 (let a = w.width.1 in omega arith) (let a = w.height.1 in omega arith) in
    let lines : h.width * h.height * h.per_node ≤ 256 * 4096 = product (h.width * h.height) h.per_node 256 4096 nodes w.per_node.1 in
    let contexts : h.width * h.height * h.contexts ≤ 256 * 4 = product (h.width * h.height) h.contexts 256 4 nodes w.contexts.1 in
    let bodies = w.bodies in
    let starts = w.starts.1 in
    let always = w.always in
    record { code = w.code.1; bodies = omega arith; starts = omega arith; always = omega arith }
