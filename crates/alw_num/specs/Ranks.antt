-- A part of a word, in which one of the word's ones is looked for.
use Rattle.std.specs.Prelude.{◌≡◌, ℕ, ◌+◌, ◌^◌, ◌<◌, ◌≤◌, count_ones}
use Rattle.std.specs.Int.{bit_at}
use Rattle.alw_num.specs.Weights.{sum_below}

-- of the ones of a word number k is number `left` of those of a part, which has these digits from a place on
pub record RankIsOfPart (word k rest left at width : ℕ) : Type 0 where
  pub some : 1 ≤ width
  pub within : at + width ≤ 64
  pub fits : rest < 2 ^ width
  pub digits : (j : ℕ) → j < width → bit_at rest j ≡ bit_at word (at + j)
  pub before : sum_below at (bit_at word) + left ≡ k
  pub here : left < count_ones rest

-- the place of number k of the ones of a word
pub record RankIsFound (word k at : ℕ) : Type 0 where
  pub within : at < 64
  pub one : bit_at word at ≡ 1
  pub before : sum_below at (bit_at word) ≡ k
