-- Number k of a set of nodes stands where k members stand below it, and a word is halved by counts of bits.
use Rattle.std.proofs.Common.{◌≡◌, ℕ, zero, suc, add-zero, add-suc, subst, ◌+◌, ◌-◌, ◌*◌, ◌/◌, ◌%◌, ◌^◌, ◌<◌, ◌≤◌, ◌==◌, nat_lt, true, List, [], ◌∷◌, slice_get, slice_index, Some, refl, sym, ap, ◌∙◌, ◌⊎◌, inl, inr, arith, bit_and, count_ones}
use Rattle.std.specs.Int.{bit_at}
use Rattle.std.proofs.lemmas.Bool.{lt-ltb, le-ltb, cases_order}
use Rattle.std.proofs.lemmas.Bool.Decides.{nat_tests}
use Rattle.std.proofs.lemmas.Nat.{and_mask, one_shl, shr_split, shr-shr, mod_below, shr_below, pow_pos, ones_cat, ones_le_self}
use Rattle.std.proofs.lemmas.Nat.Bits.{bit_at-lt, bit_at_above, bit_at_cat_low}
use Rattle.alw_num.specs.declared.node_sets.NodeSet.{NodeSet}
use Rattle.alw_num.specs.NodeSets.{Nodes, has_node, members, nodes_of}
use Rattle.alw_num.specs.Weights.{digit, weigh, times, sum_below}
use Rattle.alw_num.specs.Ranks.{RankIsOfPart, RankIsFound}
use Rattle.alw_num.proofs.Sets.{AscendsFrom, times_before, member, members-ascend, count-bits, count-sum}
use Rattle.alw_num.proofs.Weigh.{cases_lt_then, true_of_digit, digit_other, sum_same, sum_both, sum_one, sum_none}
use Rattle.alw_num.proofs.Words.{has_digit}

-- ---- lists that ascend

-- how many members of a list stand below n
abbrev pub below : ℕ → List ℕ → ℕ
below n xs = weigh (λ j. digit (nat_lt j n)) xs

digit_lt : (j n : ℕ) → j < n → digit (nat_lt j n) ≡ 1
digit_lt j n l = ap digit (lt-ltb j n l)

digit_ge : (j n : ℕ) → n ≤ j → digit (nat_lt j n) ≡ 0
digit_ge j n l = ap digit (le-ltb j n l)

none_below : (n low : ℕ) (xs : List ℕ) → n ≤ low → AscendsFrom low xs → below n xs ≡ 0
none_below n low [] l a = refl
none_below n low (x ∷ xs) l (h, a) = omega (arith, digit_ge x n (omega arith), none_below n (x + 1) xs (omega arith) a)

-- a member with k others below it is number k
number_is : (low : ℕ) (xs : List ℕ) (n k : ℕ) → AscendsFrom low xs → times n xs ≡ 1 → below n xs ≡ k → slice_get xs k ≡ Some n
number_is low [] n k a here is = absurd (omega arith)
number_is low (x ∷ xs) n k (h, a) here is = go k (cases_order x n) is (λ k. number_is (x + 1) xs n k a)
  where
    go : (k : ℕ) → (x ≡ n) ⊎ ((x < n) ⊎ (n < x)) → below n (x ∷ xs) ≡ k → ((k : ℕ) → times n xs ≡ 1 → below n xs ≡ k → slice_get xs k ≡ Some n) → slice_get (x ∷ xs) k ≡ Some n
    go zero (inl same) is rest = ap Some same
    go (suc k) (inl same) is rest = absurd (omega (arith, digit_ge x n (omega arith), none_below n (x + 1) xs (omega arith) a))
    go zero (inr (inl less)) is rest = absurd (omega (arith, digit_lt x n less))
    go (suc k) (inr (inl less)) is rest = rest k (omega (arith, digit_other n x (λ e. omega arith))) (omega (arith, digit_lt x n less))
    go k (inr (inr more)) is rest = absurd (omega (arith, digit_other n x (λ e. omega arith), times_before (x + 1) xs n a (omega arith)))

-- how many stand below n, number by number
below_sum : (n : ℕ) (xs : List ℕ) → sum_below n (λ k. times k xs) ≡ below n xs
below_sum n [] = sum_none n (λ k. 0) (λ k l. refl)
below_sum n (j ∷ js) = cases_lt_then n j
    (λ l. omega (arith, below_sum n js, sum_both n (λ k. digit (k == j)) (λ k. times k js), sum_one n j l, digit_lt j n l))
    (λ l. omega (arith, below_sum n js, sum_both n (λ k. digit (k == j)) (λ k. times k js), sum_none n (λ k. digit (k == j)) (λ k m. digit_other k j (λ e. omega arith)), digit_ge j n l))

-- number k of a set is the member with k others below it
pub nth_is : (P : Nodes) (n k : ℕ) → has_node P n ≡ true → sum_below n (λ j. digit (has_node P j)) ≡ k → slice_get (members P) k ≡ Some n
nth_is P n k here is =
    number_is 0 (members P) n k (members-ascend P) (member P n ∙ ap digit here)
    (sym (below_sum n (members P)) ∙ (sum_same n (λ j. times j (members P)) (λ j. digit (has_node P j)) (λ j l. member P j) ∙ is))

-- ---- the ones of a word

-- a sum over two parts
pub sum_cat : (a b : ℕ) (f : ℕ → ℕ) → sum_below (a + b) f ≡ sum_below a f + sum_below b (λ k. f (a + k))
sum_cat a zero f = rw add-zero (omega arith)
sum_cat a (suc b) f = rw add-suc (omega (arith, sum_cat a b f))

digit_bit : (word k : ℕ) → digit (bit_at word k == 1) ≡ bit_at word k
digit_bit word k = grind (arith, nat_tests, bit_at-lt word k)

-- a word of w digits has as many ones as the sum of its digits
ones_sum : (w word : ℕ) → word < 2 ^ w → sum_below w (bit_at word) ≡ count_ones word
unfolding has_node
ones_sum w word l =
    let P : Nodes = record { bits = word } in
    sum_same w (bit_at word) (λ k. digit (has_node P k)) (λ k m. sym (digit_bit word k))
    ∙ (sym (count-sum P w (λ k m. rw (bit_at_above word w k l m) refl)) ∙ count-bits P)

bit_at-low : (word w k : ℕ) → k < w → bit_at (word % 2 ^ w) k ≡ bit_at word k
bit_at-low word w k l = sym (bit_at_cat_low (word / 2 ^ w) w (word % 2 ^ w) k l) ∙ ap (λ m. bit_at m k) (shr_split word w)

low_below : (word w : ℕ) → word % 2 ^ w < 2 ^ w
low_below word w = mod_below word (2 ^ w) (pow_pos w)

bit_at-high : (word w k : ℕ) → bit_at (word / 2 ^ w) k ≡ bit_at word (w + k)
bit_at-high word w k = ap (λ n. n % 2) (shr-shr word w k)

-- the ones of a word are those of its two parts
ones_parts : (word w : ℕ) → count_ones word ≡ count_ones (word / 2 ^ w) + count_ones (word % 2 ^ w)
ones_parts word w = sym (ap count_ones (shr_split word w)) ∙ ones_cat w (word / 2 ^ w) (word % 2 ^ w) (low_below word w)

pub begins : (word k : ℕ) → word < 2 ^ 64 → k < count_ones word → RankIsOfPart word k word k 0 64
begins word k fits here = record {
  some = omega arith;
  within = omega arith;
  fits = fits;
  digits = λ j l. ap (bit_at word) (omega arith);
  before = omega arith;
  here = here;
}

-- the low digits of a word, by a mask
masked : (rest half : ℕ) → half < 64 → bit_and rest (1 * 2 ^ half % 2 ^ 64 - 1) ≡ rest % 2 ^ half
masked rest half l = rw (one_shl half 64 l) (and_mask rest half)

abbrev pub low_part : ℕ → ℕ → ℕ
low_part rest half = bit_and rest (1 * 2 ^ half % 18446744073709551616 - 1)

module _ (word k rest left at half : ℕ) (window : RankIsOfPart word k rest left at (half * 2)) where
  low_is : low_part rest half ≡ rest % 2 ^ half
  low_is = masked rest half (omega (arith, window.some, window.within))

  pub goes_low : left < count_ones (low_part rest half) → RankIsOfPart word k (low_part rest half) left at half
  goes_low here = record {
    some = omega (arith, window.some);
    within = omega (arith, window.within);
    fits = rw low_is (low_below rest half);
    digits = λ j l. rw low_is (bit_at-low rest half j l ∙ window.digits j (omega arith));
    before = window.before;
    here = here;
  }

  pub goes_high : count_ones (low_part rest half) ≤ left → RankIsOfPart word k (rest / 2 ^ half) (left - count_ones (low_part rest half)) (at + half) half
  goes_high past =
      let ones : count_ones (low_part rest half) ≡ count_ones (rest % 2 ^ half) = ap count_ones low_is in
      let whole : rest < 2 ^ (half + half) = let e : half * 2 ≡ half + half = omega arith in subst (λ w. rest < 2 ^ w) e window.fits in
      let low : sum_below half (λ j. bit_at word (at + j)) ≡ count_ones (rest % 2 ^ half) =
      sum_same half (λ j. bit_at word (at + j)) (bit_at (rest % 2 ^ half)) (λ j l. sym (bit_at-low rest half j l ∙ window.digits j (omega arith))) ∙ ones_sum half (rest % 2 ^ half) (low_below rest half) in
      record {
        some = omega (arith, window.some);
        within = omega (arith, window.within);
        fits = shr_below rest half half whole;
        digits = λ j l. bit_at-high rest half j ∙ (window.digits (half + j) (omega arith) ∙ ap (bit_at word) (omega arith));
        before = omega (arith, window.before, sum_cat at half (bit_at word), low, ones);
        here = omega (arith, window.here, ones_parts rest half, ones);
      }

-- a part of one digit is the one
pub ends : (word k rest left at : ℕ) → RankIsOfPart word k rest left at 1 → RankIsFound word k at
ends word k rest left at window =
    let few : rest < 2 = window.fits in
    let some : rest ≡ 1 = omega (arith, window.here, ones_le_self rest) in
    let digit_is : bit_at rest 0 ≡ bit_at word at = window.digits 0 (omega arith) ∙ ap (bit_at word) (omega arith) in
    record {
      within = omega (arith, window.within);
      one = sym digit_is ∙ ap (λ n. bit_at n 0) some;
      before = omega (arith, window.before, window.here, ones_le_self rest);
    }

-- ---- the words of a set

module _ (s : NodeSet) where
  abbrev has : ℕ → ℕ
  has k = digit (has_node (nodes_of s) k)

  abbrev ones_at : ℕ → ℕ
  ones_at i = count_ones (slice_index s.words i)

  has_in : (i j : ℕ) → i < 4 → j < 64 → has (i * 64 + j) ≡ bit_at (slice_index s.words i) j
  has_in i j l m = ap digit (has_digit s i j l m) ∙ digit_bit (slice_index s.words i) j

  -- as many members stand in a word as it has ones
  of_word : (i : ℕ) → i < 4 → slice_index s.words i < 2 ^ 64 → sum_below 64 (λ j. has (i * 64 + j)) ≡ ones_at i
  of_word i l fits = sum_same 64 (λ j. has (i * 64 + j)) (bit_at (slice_index s.words i)) (λ j m. has_in i j l m) ∙ ones_sum 64 (slice_index s.words i) fits

  -- and in the words in front of a word
  of_words : (i : ℕ) → i ≤ 4 → ((j : ℕ) → j < i → slice_index s.words j < 2 ^ 64) → sum_below (i * 64) has ≡ sum_below i ones_at
  of_words zero l fits = refl
  of_words (suc i) l fits =
      let whole : i * 64 + 64 ≡ suc i * 64 = omega arith in
      sym (ap (λ n. sum_below n has) whole) ∙ (sum_cat (i * 64) 64 has ∙ turned (of_words i (omega arith) (λ j m. fits j (omega arith))) (of_word i (omega arith) (fits i (omega arith))))
    where
      turned : {a b c d : ℕ} → a ≡ c → b ≡ d → a + b ≡ d + c
      turned e f = omega arith

  -- number k is the one of a word that has as many ones before it, with those of the words in front
  pub nth_in : (i k left n at : ℕ) → i < 4 → ((j : ℕ) → j < i → slice_index s.words j < 2 ^ 64) → sum_below i ones_at + left ≡ k → at ≡ i * 64 + n → RankIsFound (slice_index s.words i) left n → slice_get (members (nodes_of s)) k ≡ Some at
  nth_in i k left n at l fits front place found =
      let here : has (i * 64 + n) ≡ 1 = has_in i n l found.within ∙ found.one in
      nth_is (nodes_of s) (i * 64 + n) k (true_of_digit (has_node (nodes_of s) (i * 64 + n)) (omega arith))
      (sum_cat (i * 64) n has ∙ (both
      (of_words i (omega arith) fits)
      (sum_same n (λ j. has (i * 64 + j)) (bit_at (slice_index s.words i)) (λ j m. has_in i j l (omega (arith, found.within))) ∙ found.before) ∙ front))
      ∙ ap Some (sym place)
    where
      both : {a b c d : ℕ} → a ≡ c → b ≡ d → a + b ≡ c + d
      both e f = omega arith
