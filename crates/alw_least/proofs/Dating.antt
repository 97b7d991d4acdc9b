-- Numbers on days: the least of them, and the first place of it.
use Rattle.std.proofs.Common.{◌≡◌, ℕ, ◌+◌, ◌-◌, ◌<◌, ◌≤◌, ◌==◌, ◌&&◌, nat_lt, min, Bool, true, false, ◌⊎◌, inl, inr, List, length, replicate, slice_index, refl, sym, ap, ◌∙◌, arith}
use Rattle.std.proofs.lemmas.List.{get_or-replicate}
use Rattle.std.proofs.lemmas.Bool.{cases_lt, cases_eq, eq-eqb, eqb-true, lt-ltb, ltb-true, and_parts, false≢true}
use Rattle.alw_num.specs.declared.node_sets.NodeSet.{NodeSet}
use Rattle.alw_least.specs.Days.{stands_on, NothingStands, StandsFirst}
use Rattle.alw_least.specs.Leasts.{is_dated, AreDated, AreOnDays, IsLeastBelow, IsFirstLeast}

pub one_number : (count number k : ℕ) → k < count → number ≤ slice_index (replicate count number) k
one_number count number k within = omega (arith, get_or-replicate count k number 0 within)

-- ---- the least of them

pub least_next : (numbers : List ℕ) (n least : ℕ) → n < length numbers → IsLeastBelow numbers n least → IsLeastBelow numbers (n + 1) (min least (slice_index numbers n))
least_next numbers n least within is = by_order (cases_lt (slice_index numbers n) least)
  where
    by_order : (slice_index numbers n < least) ⊎ (least ≤ slice_index numbers n) → IsLeastBelow numbers (n + 1) (min least (slice_index numbers n))
    by_order (inl lt) = record {
      place = n;
      within = within;
      is = omega (arith, lt);
      lowest = λ k below. by_place k (cases_eq k n) below;
    }
      where
        by_place : (k : ℕ) → (k ≡ n) ⊎ (k ≡ n → ⊥) → k < n + 1 → min least (slice_index numbers n) ≤ slice_index numbers k
        by_place k (inl same) below = omega (arith, lt, ap (λ (j : ℕ). slice_index numbers j) same)
        by_place k (inr apart) below = omega (arith, lt, is.lowest k (omega (arith, below, apart)))
    by_order (inr le) = record {
      place = is.place;
      within = is.within;
      is = omega (arith, le, is.is);
      lowest = λ k below. by_place k (cases_eq k n) below;
    }
      where
        by_place : (k : ℕ) → (k ≡ n) ⊎ (k ≡ n → ⊥) → k < n + 1 → min least (slice_index numbers n) ≤ slice_index numbers k
        by_place k (inl same) below = omega (arith, le, ap (λ (j : ℕ). slice_index numbers j) same)
        by_place k (inr apart) below = omega (arith, le, is.lowest k (omega (arith, below, apart)))

-- ---- the first that stands

module _ (numbers : List ℕ) (first : ℕ) (days : List NodeSet) (many : length numbers ≡ 256) (are : AreDated numbers first 256 days) where
  number_of : (day place : ℕ) → stands_on days day place ≡ true → (place < 256) × ((day < 256) × (slice_index numbers place ≡ first + day))
  number_of day place stands =
      let is = and_parts (nat_lt place 256) (nat_lt day 256 && slice_index numbers place == first + day) (sym (are day place) ∙ stands) in
      let more = and_parts (nat_lt day 256) (slice_index numbers place == first + day) is.1 in
      (ltb-true place 256 is.0, (ltb-true day 256 more.0, eqb-true (slice_index numbers place) (first + day) more.1))

  stands_at : (day place : ℕ) → place < 256 → day < 256 → slice_index numbers place ≡ first + day → stands_on days day place ≡ true
  stands_at day place within early is =
      are day place
      ∙ (ap (λ b. b && (nat_lt day 256 && slice_index numbers place == first + day)) (lt-ltb place 256 within)
      ∙ (ap (λ b. b && slice_index numbers place == first + day) (lt-ltb day 256 early)
      ∙ eq-eqb (slice_index numbers place) (first + day) is))

  -- it is the first place of the least
  pub first_least : (place : ℕ) → ((k : ℕ) → k < 256 → first ≤ slice_index numbers k) → StandsFirst days place → IsFirstLeast numbers place
  first_least place none_before stands = record {
    within = omega (arith, many, here.0);
    least = λ k within. no_less k (omega (arith, many, within));
    first = λ k before. later k before (cases_eq (slice_index numbers k) (slice_index numbers place));
  }
    where
      here : (place < 256) × ((stands.day < 256) × (slice_index numbers place ≡ first + stands.day))
      here = number_of stands.day place stands.stands

      no_less : (k : ℕ) → k < 256 → slice_index numbers place ≤ slice_index numbers k
      no_less k within = by_order (cases_lt (slice_index numbers k) (slice_index numbers place))
        where
          by_order : (slice_index numbers k < slice_index numbers place) ⊎ (slice_index numbers place ≤ slice_index numbers k) → slice_index numbers place ≤ slice_index numbers k
          by_order (inr le) = le
          by_order (inl lt) =
              let above = none_before k within in
              let day = slice_index numbers k - first in
              absurd (false≢true (sym (stands.first day k (omega (arith, lt, above, here.1.1))) ∙ stands_at day k within (omega (arith, lt, above, here.1.0, here.1.1)) (omega (arith, above))))

      later : (k : ℕ) → k < place → (slice_index numbers k ≡ slice_index numbers place) ⊎ (slice_index numbers k ≡ slice_index numbers place → ⊥) → slice_index numbers place < slice_index numbers k
      later k before (inl same) = absurd (false≢true (sym (stands.lowest k before) ∙ stands_at stands.day k (omega (arith, before, here.0)) here.1.0 (same ∙ here.1.1)))
      later k before (inr apart) = omega (arith, no_less k (omega (arith, before, here.0)), apart)

  -- on the day of the least something stands
  pub some_stands : IsLeastBelow numbers 256 first → NothingStands days → ⊥
  some_stands least none = false≢true (sym (none 0 least.place) ∙ stands_at 0 least.place (omega (arith, many, least.within)) (omega arith) (omega (arith, least.is)))
