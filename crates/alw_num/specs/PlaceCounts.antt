-- Counts by place: where number k of what they count stands.
use Rattle.std.specs.Prelude.{◌≡◌, ℕ, ◌+◌, ◌*◌, ◌<◌, ◌≤◌, List, length, slice_index}
use Rattle.alw_num.specs.Weights.{sum_below}

-- the sum of the counts in front of a place
abbrev pub sum_before : List ℕ → ℕ → ℕ
sum_before counts place = sum_below place (slice_index counts)

-- the sum of all counts
abbrev pub total : List ℕ → ℕ
total counts = sum_before counts (length counts)

-- number k of what the counts count is this number among what they count at a place
pub record IsPlace (counts : List ℕ) (k place number : ℕ) : Type 0 where
  pub before : sum_before counts place + number ≡ k
  pub below : number < slice_index counts place

-- number k of what the counts count is this number among what they count in a part, where parts have so many places each
pub record IsInPart (width : ℕ) (counts : List ℕ) (k part number : ℕ) : Type 0 where
  pub before : sum_before counts (width * part) + number ≡ k
  pub below : k < sum_before counts (width * (part + 1))

-- sums of the counts by parts of so many places
abbrev pub AreSumsBy : ℕ → List ℕ → List ℕ → Type 0
AreSumsBy width counts sums = (part : ℕ) → sum_before counts (width * part) + slice_index sums part ≡ sum_before counts (width * (part + 1))

-- so many small counts, at most 256, with the list that they stand in front of, their sums by 4, 16 and 64 places, and the sum of all
pub record AreSummed (places : ℕ) (counts ones fours sixteens quarters : List ℕ) (sum : ℕ) : Type 0 where
  pub counted : length counts ≡ places
  pub few : places ≤ 256
  pub room : length ones ≡ 256
  pub small : (place : ℕ) → slice_index counts place < 65536
  pub by_one : AreSumsBy 1 counts ones
  pub by_four : AreSumsBy 4 counts fours
  pub by_sixteen : AreSumsBy 16 counts sixteens
  pub by_quarter : AreSumsBy 64 counts quarters
  pub all : sum ≡ total counts
