-- Sums of counts by parts of so many places: what a change of one count does to them, and how number k is found by them.
use Rattle.std.proofs.Common.{◌≡◌, ◌≢◌, ℕ, zero, suc, add-one, mul-add, ◌+◌, ◌-◌, ◌*◌, ◌/◌, ◌^◌, ◌<◌, ◌≤◌, List, [], ◌∷◌, length, replicate, take, set, slice_index, refl, sym, ap, ◌∙◌, arith}
use Rattle.std.proofs.lemmas.List.{get_or-set_same, get_or-set_other, get_or_past, length-set, length-replicate, get_or-replicate}
use Rattle.alw_num.proofs.Weigh.{is_node, sum_same, sum_le, sum_none, sum_scale, sum_ones, sum_at, cases_lt_then}
use Rattle.alw_num.proofs.Ranks.{sum_cat}
use Rattle.alw_num.specs.PlaceCounts.{sum_before, total, IsPlace, IsInPart, AreSumsBy, AreSummed}

module _ (counts : List ℕ) where
  -- one count more
  sum_more : (n : ℕ) → sum_before counts (n + 1) ≡ sum_before counts n + slice_index counts n
  sum_more n = rw add-one (omega arith)

  -- a longer front has no less
  sum_up : (n m : ℕ) → n ≤ m → sum_before counts n ≤ sum_before counts m
  sum_up n m l =
      let whole : n + (m - n) ≡ m = omega arith in
      omega (arith, ap (sum_before counts) whole, sum_cat n (m - n) (slice_index counts))

  beyond : (k : ℕ) → length counts ≤ k → slice_index counts k ≡ 0
  beyond k l = get_or_past counts k 0 l

  -- no front has more than all
  sum_most : (n : ℕ) → sum_before counts n ≤ total counts
  sum_most n = cases_lt_then (length counts) n (λ l. sum_up n (length counts) (omega arith)) (λ l.
      let whole : length counts + (n - length counts) ≡ n = omega arith in
      omega (
        arith,
        ap (sum_before counts) whole,
        sum_cat (length counts) (n - length counts) (slice_index counts),
        sum_none (n - length counts) (λ k. slice_index counts (length counts + k)) (λ k m. beyond (length counts + k) (omega arith)),
      ))

  -- small counts of a few places have a small sum
  total_small : length counts ≤ 256 → ((k : ℕ) → slice_index counts k < 65536) → total counts ≤ 16776960
  total_small few small = omega (
    arith,
    sum_le (length counts) (slice_index counts) (λ k. 65535 * 1) (λ k l. omega (arith, small k)),
    sum_scale (length counts) 65535 (λ k. 1),
    sum_ones (length counts),
  )

  -- ---- finding

  -- what stands behind a front and not behind one place more is of that place
  is_place : (p place k left : ℕ) → place ≡ p → sum_before counts p + left ≡ k → k < sum_before counts (p + 1) → IsPlace counts k place left
  is_place p place k left same before below =
      let front : sum_before counts place ≡ sum_before counts p = ap (sum_before counts) same in
      let here : slice_index counts place ≡ slice_index counts p = ap (slice_index counts) same in
      record { before = omega (arith, front, before); below = omega (arith, sum_more p, here, before, below) }

  pub place_exists : (k place left : ℕ) → IsPlace counts k place left → place < length counts
  place_exists k place left found = cases_lt_then (length counts) place (λ l. l) (λ l. absurd (omega (arith, found.below, beyond place l)))

  -- a part of all places has every number
  pub in_all : (width k : ℕ) → length counts ≤ width → k < total counts → IsInPart width counts k 0 k
  in_all width k l below =
      let none : width * 0 ≡ 0 = omega arith in
      let one : width * (0 + 1) ≡ width = omega arith in
      let front : sum_before counts (width * 0) ≡ 0 = ap (sum_before counts) none in
      record { before = omega (arith, front); below = omega (arith, below, ap (sum_before counts) one, sum_up (length counts) width l) }

  -- a part of one place is the place
  pub in_one : (k place left : ℕ) → IsInPart 1 counts k place left → IsPlace counts k place left
  in_one k place left found =
      let this : 1 * place ≡ place = omega arith in
      let next : 1 * (place + 1) ≡ place + 1 = omega arith in
      is_place place place k left refl (omega (arith, found.before, ap (sum_before counts) this)) (omega (arith, found.below, ap (sum_before counts) next))

module _ (width : ℕ) (counts sums : List ℕ) (are : AreSumsBy width counts sums) where
  -- the sums in front of a part are what stands in front of it
  front_is : (part : ℕ) → sum_before sums part ≡ sum_before counts (width * part)
  front_is zero = let none : width * 0 ≡ 0 = omega arith in sym (ap (sum_before counts) none)
  front_is (suc part) =
      let next : part + 1 ≡ suc part = omega arith in
      omega (arith, front_is part, are part, ap (λ n. sum_before counts (width * n)) next)

  pub sums_small : (n : ℕ) → length counts ≤ 256 → ((k : ℕ) → slice_index counts k < 65536) → sum_before sums n < 2 ^ 32
  sums_small n few small = omega (arith, front_is n, sum_most counts (width * n), total_small counts few small)

  -- so many sums that have all places have every number
  pub has_all : (n k : ℕ) → length counts ≤ width * n → k < total counts → sum_before sums 0 + k < sum_before sums (0 + n)
  has_all n k l below =
      let none : 0 + n ≡ n = omega arith in
      omega (arith, below, ap (sum_before sums) none, front_is n, sum_up counts (length counts) (width * n) l)

  -- which sum has a number says which part has it
  pub in_part : (number k part left : ℕ) → number ≡ k → IsPlace sums number part left → IsInPart width counts k part left
  in_part number k part left same found = record {
    before = omega (arith, same, front_is part, found.before);
    below = omega (arith, same, front_is part, are part, found.before, found.below);
  }

  module _ (wide k part left : ℕ) (found : IsInPart wide counts k part left) where
    -- a part that has a number is four parts that have it
    pub has_four : width * (4 * part) ≡ wide * part → width * (4 * part + 4) ≡ wide * (part + 1) → sum_before sums (4 * part) + left < sum_before sums (4 * part + 4)
    has_four low high = omega (
      arith,
      front_is (4 * part),
      front_is (4 * part + 4),
      ap (sum_before counts) low,
      ap (sum_before counts) high,
      found.before,
      found.below,
    )

    -- and one of the four is the part that has it
    pub found_in : (place rest : ℕ) → width * (4 * part) ≡ wide * part → IsPlace sums (sum_before sums (4 * part) + left) place rest → IsInPart width counts k place rest
    found_in place rest low is = in_part (sum_before sums (4 * part) + left) k place rest (omega (arith, front_is (4 * part), ap (sum_before counts) low, found.before)) is

ones_are : (counts ones : List ℕ) → AreSumsBy 1 counts ones → (k : ℕ) → slice_index ones k ≡ slice_index counts k
ones_are counts ones are k =
    let this : 1 * k ≡ k = omega arith in
    let next : 1 * (k + 1) ≡ k + 1 = omega arith in
    omega (arith, are k, ap (sum_before counts) this, ap (sum_before counts) next, sum_more counts k)

-- ---- a change of one count

module _ (counts : List ℕ) (place count : ℕ) (here : place < length counts) (few : length counts ≤ 256) (small : (k : ℕ) → slice_index counts k < 65536) (new_small : count < 65536) where
  next_here : slice_index (set counts place count) place ≡ count
  next_here = get_or-set_same counts place count 0 here

  next_other : (k : ℕ) → k ≢ place → slice_index (set counts place count) k ≡ slice_index counts k
  next_other k other = get_or-set_other counts place k count 0 other

  before_it : (n : ℕ) → n ≤ place → sum_before (set counts place count) n ≡ sum_before counts n
  before_it n l = sum_same n (slice_index (set counts place count)) (slice_index counts) (λ k m. next_other k (λ e. omega arith))

  behind_it : (n : ℕ) → place < n → sum_before (set counts place count) n + slice_index counts place ≡ sum_before counts n + count
  behind_it n l = omega (arith, next_here, sum_at n (slice_index counts) (slice_index (set counts place count)) place l (λ k d. sym (next_other k d)))

  -- a sum that is exchanged is that of all
  pub total_next : (sum old new : ℕ) → sum ≡ total counts → old ≡ slice_index counts place → (old ≤ sum → sum + count < 2 ^ 32 → new ≡ sum - old + count) → new ≡ total (set counts place count)
  total_next sum old new all was exchanged =
      let length_is : length (set counts place count) ≡ length counts = length-set counts place count in
      let there : old ≤ sum = omega (arith, all, was, sum_more counts place, sum_up counts (place + 1) (length counts) (omega arith)) in
      omega (arith, exchanged there (omega (arith, all, total_small counts few small)), there, all, was, behind_it (length counts) here, ap (sum_before (set counts place count)) length_is)

  module _ (width : ℕ) (sums : List ℕ) (are : AreSumsBy width counts sums) (mine : ℕ) (room : mine < length sums) (from : width * mine ≤ place) (to : place < width * (mine + 1))
      (less : (part : ℕ) → part < mine → width * (part + 1) ≤ place) (more : (part : ℕ) → mine < part → place < width * part) where
    part_has : slice_index counts place ≤ slice_index sums mine
    part_has = omega (arith, are mine, sum_up counts (width * mine) place from, sum_more counts place, sum_up counts (place + 1) (width * (mine + 1)) (omega arith))

    part_small : slice_index sums mine + count < 2 ^ 32
    part_small = omega (arith, are mine, sum_most counts (width * (mine + 1)), total_small counts few small)

    pub resummed_by : (old new : ℕ) → old ≡ slice_index counts place → (old ≤ slice_index sums mine → slice_index sums mine + count < 2 ^ 32 → new ≡ slice_index sums mine - old + count)
        → AreSumsBy width (set counts place count) (set sums mine new)
    resummed_by old new was exchanged part = is_node _ part mine
        (λ same.
        let is : slice_index (set sums mine new) part ≡ new = ap (slice_index (set sums mine new)) same ∙ get_or-set_same sums mine new 0 room in
        let low : width * part ≡ width * mine = ap (λ n. width * n) same in
        let high : width * (part + 1) ≡ width * (mine + 1) = ap (λ n. width * (n + 1)) same in
        omega (
          arith,
          is,
          was,
          part_has,
          exchanged (omega (arith, was, part_has)) part_small,
          are mine,
          ap (sum_before (set counts place count)) low,
          ap (sum_before (set counts place count)) high,
          before_it (width * mine) from,
          behind_it (width * (mine + 1)) to,
        ))
        (λ other. cases_lt_then mine part
        (λ l. omega (arith, are part, get_or-set_other sums mine part new 0 other, before_it (width * part) (omega (arith, less part l, under part)), before_it (width * (part + 1)) (less part l)))
        (λ l. omega (arith, are part, get_or-set_other sums mine part new 0 other, behind_it (width * part) (more part (omega arith)), behind_it (width * (part + 1)) (more (part + 1) (omega arith)))))
      where
        under : (part : ℕ) → width * part ≤ width * (part + 1)
        under part = rw mul-add (omega arith)

-- a count and its sums are exchanged
pub resummed : (places : ℕ) (counts ones fours sixteens quarters : List ℕ) (sum : ℕ) → AreSummed places counts ones fours sixteens quarters sum
    → length fours ≡ 64 → length sixteens ≡ 16 → length quarters ≡ 4
    → (place count old : ℕ) → place < length counts → count < 65536 → old ≡ slice_index ones place
    → (four sixteen quarter all : ℕ)
    → (old ≤ slice_index fours (place / 4) → slice_index fours (place / 4) + count < 2 ^ 32 → four ≡ slice_index fours (place / 4) - old + count)
    → (old ≤ slice_index sixteens (place / 16) → slice_index sixteens (place / 16) + count < 2 ^ 32 → sixteen ≡ slice_index sixteens (place / 16) - old + count)
    → (old ≤ slice_index quarters (place / 64) → slice_index quarters (place / 64) + count < 2 ^ 32 → quarter ≡ slice_index quarters (place / 64) - old + count)
    → (old ≤ sum → sum + count < 2 ^ 32 → all ≡ sum - old + count)
    → AreSummed places (set counts place count) (set ones place count) (set fours (place / 4) four) (set sixteens (place / 16) sixteen) (set quarters (place / 64) quarter) all
resummed places counts ones fours sixteens quarters sum are four_is sixteen_is quarter_is place count old here new_small was four sixteen quarter all in_four in_sixteen in_quarter in_all =
    let few : length counts ≤ 256 = omega (arith, are.counted, are.few) in
    let in_ones = ones_are counts ones are.by_one place in
    let old_is : old ≡ slice_index counts place = was ∙ in_ones in
    record {
      counted = length-set counts place count ∙ are.counted;
      few = are.few;
      room = length-set ones place count ∙ are.room;
      small = λ k. is_node _ k place
          (λ same. omega (arith, ap (slice_index (set counts place count)) same, get_or-set_same counts place count 0 here))
          (λ other. omega (arith, get_or-set_other counts place k count 0 other, are.small k));
      by_one = resummed_by counts place count here few are.small new_small 1 ones are.by_one place (omega (arith, are.room)) (omega arith) (omega arith) (λ part l. omega arith) (λ part l. omega arith) old count old_is (λ l m. omega (arith, was));
      by_four = resummed_by counts place count here few are.small new_small 4 fours are.by_four (place / 4) (omega arith) (omega arith) (omega arith) (λ part l. omega arith) (λ part l. omega arith) old four old_is in_four;
      by_sixteen =
          resummed_by counts place count here few are.small new_small 16 sixteens are.by_sixteen (place / 16) (omega arith) (omega arith) (omega arith) (λ part l. omega arith) (λ part l. omega arith) old sixteen old_is in_sixteen;
      by_quarter =
          resummed_by counts place count here few are.small new_small 64 quarters are.by_quarter (place / 64) (omega arith) (omega arith) (omega arith) (λ part l. omega arith) (λ part l. omega arith) old quarter old_is in_quarter;
      all = total_next counts place count here few are.small new_small sum old all are.all old_is in_all;
    }

-- a front of a list in which one member is exchanged
pub take_set : (n : ℕ) (xs : List ℕ) (place x : ℕ) → take n (set xs place x) ≡ set (take n xs) place x
take_set zero xs place x = refl
take_set (suc n) [] place x = refl
take_set (suc n) (y ∷ ys) zero x = refl
take_set (suc n) (y ∷ ys) (suc place) x = ap (λ zs. y ∷ zs) (take_set n ys place x)

-- ---- no counts but zeros

no_count : (n k : ℕ) → slice_index (replicate n 0) k ≡ 0
no_count n k = cases_lt_then n k
    (λ l. get_or-replicate n k 0 0 l)
    (λ l. get_or_past (replicate n 0) k 0 (omega (arith, length-replicate {A = ℕ} n 0)))

no_sums : (width places n : ℕ) → AreSumsBy width (replicate places 0) (replicate n 0)
no_sums width places n part = omega (
  arith,
  no_count n part,
  sum_none (width * part) (slice_index (replicate places 0)) (λ k l. no_count places k),
  sum_none (width * (part + 1)) (slice_index (replicate places 0)) (λ k l. no_count places k),
)

pub zeros_summed : (places n : ℕ) → places ≤ 256 → n ≡ 256 → AreSummed places (replicate places 0) (replicate n 0) (replicate 64 0) (replicate 16 0) (replicate 4 0) 0
zeros_summed places n few all = record {
  counted = length-replicate {A = ℕ} places 0;
  few = few;
  room = length-replicate {A = ℕ} n 0 ∙ all;
  small = λ k. omega (arith, no_count places k);
  by_one = no_sums 1 places n;
  by_four = no_sums 4 places 64;
  by_sixteen = no_sums 16 places 16;
  by_quarter = no_sums 64 places 4;
  all = sym (sum_none (length (replicate places 0)) (slice_index (replicate places 0)) (λ k l. no_count places k));
}
