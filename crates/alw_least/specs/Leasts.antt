-- Numbers by place, on days: the first place of the least of all.
use Rattle.std.specs.Prelude.{◌≡◌, ℕ, ◌+◌, ◌<◌, ◌≤◌, ◌==◌, ◌&&◌, nat_lt, Bool, Option, Some, None, List, length, slice_index}
use Rattle.alw_num.specs.declared.node_sets.NodeSet.{NodeSet}
use Rattle.alw_least.specs.Days.{stands_on}

-- no number is less than the one at a place, and each before it is greater
pub record IsFirstLeast (numbers : List ℕ) (place : ℕ) : Type 0 where
  pub within : place < length numbers
  pub least : (k : ℕ) → k < length numbers → slice_index numbers place ≤ slice_index numbers k
  pub first : (k : ℕ) → k < place → slice_index numbers place < slice_index numbers k

-- ---- what is kept

-- a place below a bound stands on the day of its number, where that is one of the 256 from the first on
abbrev pub is_dated : List ℕ → ℕ → ℕ → ℕ → ℕ → Bool
is_dated numbers first bound day place = nat_lt place bound && (nat_lt day 256 && slice_index numbers place == first + day)

-- each place below a bound stands on its day, and nothing else
abbrev pub AreDated : List ℕ → ℕ → ℕ → List NodeSet → Type 0
AreDated numbers first bound days = (day place : ℕ) → stands_on days day place ≡ is_dated numbers first bound day place

-- no number comes before the first day, and each stands on its day
pub record AreOnDays (numbers : List ℕ) (first : ℕ) (days : List NodeSet) : Type 0 where
  pub none_before : (k : ℕ) → k < 256 → first ≤ slice_index numbers k
  pub dated : AreDated numbers first 256 days

-- the day of a number from a first one on
abbrev pub IsDayOf : ℕ → ℕ → Option ℕ → Type 0
IsDayOf first number (Some day) = (day < 256) × (number ≡ first + day)
IsDayOf first number None = first + 256 ≤ number

-- the least of the numbers below a place
pub record IsLeastBelow (numbers : List ℕ) (bound least : ℕ) : Type 0 where
  pub place : ℕ
  pub within : place < length numbers
  pub is : slice_index numbers place ≡ least
  pub lowest : (k : ℕ) → k < bound → least ≤ slice_index numbers k
