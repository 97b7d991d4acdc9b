-- What the four words of a set say, for the functions over them.
use Rattle.std.proofs.Common.{◌≡◌, ℕ, zero, suc, ◌+◌, ◌-◌, ◌*◌, ◌/◌, ◌%◌, ◌^◌, ◌<◌, ◌≤◌, ◌≢◌, ◌==◌, ◌↔◌, Bool, true, false, cond, List, [], ◌∷◌, length, take, replicate, slice_index, slice_set, IsTrue, refl, sym, ap, ◌∙◌, arith, bit_and, bit_or, count_ones, ⊎_elim}
use Rattle.std.specs.Int.Count.{ones}
use Rattle.std.specs.Int.{bit_at, bit_not, w64, trailing_zeros, from_bool}
use Rattle.std.proofs.Math.Nat.{mod-eq_of_lt}
use Rattle.std.proofs.lemmas.Nat.{shr_split, mod_below, ones_cat, or_lt, le_or_l, le_or_r}
use Rattle.std.proofs.lemmas.Bool.Decides.{nat_tests}
use Rattle.std.proofs.lemmas.Bool.{cases_lt, eqb-true, eqb-false, eq-eqb, ne_eqb, true≢false}
use Rattle.std.proofs.lemmas.List.{get_or-take, get_or_past, get_or-set_same, get_or-set_other}
use Rattle.std.proofs.lemmas.Nat.Bits.{shr_and_one, same_from_bits_below, bit_at-lt, bit_at-zero, bit_at_or, bit_at_cat_low, bit_at_cat_high, bit_at_set_same, bit_at_set_other, bit_at_clear_same, bit_at_clear_other, bit_at-trailing_zeros}
use Rattle.alw_num.specs.declared.node_sets.NodeSet.{NodeSet}
use Rattle.alw_num.specs.NodeSets.{no_nodes, has_node, add_node, drop_node, join_nodes, members, count_nodes, bits_in, nodes_of}
use Rattle.alw_num.specs.Weights.{digit, weigh}
use Rattle.alw_num.proofs.Weigh.{is_node}
use Rattle.alw_num.proofs.Sets.{same_nodes, has-none, has-add, has-drop, has-put, has-join, members-least, members-none, count-bits, count_below}

-- ---- the number that words spell

bit_at-mod : (n w k : ℕ) → k < w → bit_at (n % 2 ^ w) k ≡ bit_at n k
bit_at-mod n w k l = sym (bit_at_cat_low (n / 2 ^ w) w (n % 2 ^ w) k l) ∙ ap (λ m. bit_at m k) (shr_split n w)

low_below : (word : ℕ) → word % 2 ^ 64 < 2 ^ 64
low_below word = mod_below word (2 ^ 64) (omega arith)

digit_at : (words : List ℕ) (k i j : ℕ) → k / 64 ≡ i → k % 64 ≡ j → bit_at (slice_index words (k / 64)) (k % 64) ≡ bit_at (slice_index words i) j
digit_at words k i j e f = ap (λ m. bit_at (slice_index words m) (k % 64)) e ∙ ap (bit_at (slice_index words i)) f

-- digit k of it is digit k % 64 of word k / 64
bits_at : (words : List ℕ) (k : ℕ) → bit_at (bits_in words) k ≡ bit_at (slice_index words (k / 64)) (k % 64)
bits_at [] k = bit_at-zero k ∙ sym (bit_at-zero (k % 64))
bits_at (word ∷ rest) k = ⊎_elim
    (λ l. bit_at_cat_low (bits_in rest) 64 (word % 2 ^ 64) k l ∙ (bit_at-mod word 64 k l ∙ sym (digit_at (word ∷ rest) k 0 k (omega arith) (omega arith))))
    (λ l. bit_at_cat_high (bits_in rest) 64 (word % 2 ^ 64) k (low_below word) l
    ∙ (bits_at rest (k - 64) ∙ sym (digit_at (word ∷ rest) k (suc ((k - 64) / 64)) ((k - 64) % 64) (omega arith) (omega arith))))
    (cases_lt k 64)

no_more : (n : ℕ) (words : List ℕ) → length (take n words) ≤ n
no_more zero words = omega arith
no_more (suc n) [] = omega arith
no_more (suc n) (word ∷ rest) = omega (arith, no_more n rest)

pub has-word : (s : NodeSet) (k : ℕ) → k < 256 → has_node (nodes_of s) k ≡ (bit_at (slice_index s.words (k / 64)) (k % 64) == 1)
unfolding has_node nodes_of
has-word s k l = ap (λ b. b == 1) (bits_at (take 4 s.words) k ∙ ap (λ word. bit_at word (k % 64)) (get_or-take 4 s.words (k / 64) 0 (omega arith)))

pub has-past : (s : NodeSet) (k : ℕ) → 256 ≤ k → has_node (nodes_of s) k ≡ false
unfolding has_node nodes_of
has-past s k l = ap (λ b. b == 1) (bits_at (take 4 s.words) k ∙ (ap (λ word. bit_at word (k % 64)) (get_or_past (take 4 s.words) (k / 64) 0 (omega (arith, no_more 4 s.words))) ∙ bit_at-zero (k % 64)))

-- a node by its word and its place there
pub has_digit : (s : NodeSet) (i j : ℕ) → i < 4 → j < 64 → has_node (nodes_of s) (i * 64 + j) ≡ (bit_at (slice_index s.words i) j == 1)
has_digit s i j l m = has-word s (i * 64 + j) (omega arith) ∙ ap (λ b. b == 1) (digit_at s.words (i * 64 + j) i j (omega arith) (omega arith))

-- the nodes of four words are below 256
pub nodes_below : (s : NodeSet) (k : ℕ) → has_node (nodes_of s) k ≡ true → k < 256
nodes_below s k here = ⊎_elim (λ l. l) (λ l. absurd (true≢false (sym here ∙ has-past s k l))) (cases_lt k 256)

pub count_at_most : (s : NodeSet) → count_nodes (nodes_of s) ≤ 256
count_at_most s = count_below (nodes_of s) 256 (has-past s)

pub has_word : (s : NodeSet) (n i : ℕ) → i ≡ n / 64 → n < 256 → (bit_and (slice_index s.words i / 2 ^ (n % 64)) 1 == 1) ≡ has_node (nodes_of s) n
has_word s n i at l = ap (λ b. b == 1) (shr_and_one (slice_index s.words i) (n % 64) ∙ ap (λ m. bit_at (slice_index s.words m) (n % 64)) at) ∙ sym (has-word s n l)

-- ---- one word is written

digit_is : (b : Bool) → (digit b == 1) ≡ b
digit_is true = refl
digit_is false = refl

-- a word of which one digit says whether a node is a member, and the others say what they said
module _ (s : NodeSet) (n i word : ℕ) (at : i ≡ n / 64) (l : n < 256) (four : length s.words ≡ 4) (b : Bool) (here : bit_at word (n % 64) ≡ digit b)
    (there : (j : ℕ) → j < 64 → j ≢ n % 64 → bit_at word j ≡ bit_at (slice_index s.words i) j) where
  abbrev next : NodeSet
  next = record { words = slice_set s.words i word }

  other : (k : ℕ) → k ≢ n → has_node (nodes_of s) k ≡ cond (k == n) b (has_node (nodes_of s) k)
  other k apart = sym (ap (λ t. cond t b (has_node (nodes_of s) k)) (ne_eqb k n apart))

  in_word : (k : ℕ) → k < 256 → k / 64 ≡ i → has_node (nodes_of next) k ≡ (bit_at word (k % 64) == 1)
  in_word k m e = has-word next k m
      ∙ (ap (λ j. bit_at (slice_index (slice_set s.words i word) j) (k % 64) == 1) e ∙ ap (λ w. bit_at w (k % 64) == 1) (get_or-set_same s.words i word 0 (omega arith)))

  changed : (k : ℕ) → k < 256 → has_node (nodes_of next) k ≡ cond (k == n) b (has_node (nodes_of s) k)
  changed k m = is_node _ (k / 64) i
      (λ e. is_node _ (k % 64) (n % 64)
      (λ f.
      let same : k ≡ n = omega arith in
      in_word k m e ∙ (ap (λ j. bit_at word j == 1) f ∙ (ap (λ d. d == 1) here ∙ (digit_is b ∙ sym (ap (λ t. cond t b (has_node (nodes_of s) k)) (eq-eqb k n same))))))
      (λ f. in_word k m e
      ∙ (ap (λ d. d == 1) (there (k % 64) (omega arith) f)
      ∙ (sym (has-word s k m ∙ ap (λ j. bit_at (slice_index s.words j) (k % 64) == 1) e) ∙ other k (λ same. f (ap (λ x. x % 64) same))))))
      (λ e. has-word next k m
      ∙ (ap (λ w. bit_at w (k % 64) == 1) (get_or-set_other s.words i (k / 64) word 0 e) ∙ (sym (has-word s k m) ∙ other k (λ same. e (ap (λ x. x / 64) same ∙ sym at)))))

  written : (k : ℕ) → has_node (nodes_of next) k ≡ cond (k == n) b (has_node (nodes_of s) k)
  written k = ⊎_elim
      (λ m. changed k m)
      (λ m. has-past next k m ∙ (sym (has-past s k m) ∙ other k (λ same. omega arith)))
      (cases_lt k 256)

pub with_word : (s : NodeSet) (n i : ℕ) → i ≡ n / 64 → n < 256 → length s.words ≡ 4 → nodes_of (record { words = slice_set s.words i (bit_or (slice_index s.words i) (1 * 2 ^ (n % 64) % 2 ^ 64)) }) ≡ add_node (nodes_of s) n
with_word s n i at l four =
    let place : n % 64 < 64 = omega arith in
    let old : ℕ = slice_index s.words i in
    same_nodes _ _ (λ k. written s n i (bit_or old (1 * 2 ^ (n % 64) % 2 ^ 64)) at l four true (bit_at_set_same w64 old (n % 64) place) (λ j m d. bit_at_set_other w64 old (n % 64) place j d) k
    ∙ sym (has-add (nodes_of s) n k))

pub without_word : (s : NodeSet) (n i : ℕ) → i ≡ n / 64 → n < 256 → length s.words ≡ 4
    → nodes_of (record { words = slice_set s.words i (bit_and (slice_index s.words i) (bit_not w64 (1 * 2 ^ (n % 64) % 2 ^ 64))) }) ≡ drop_node (nodes_of s) n
without_word s n i at l four =
    let place : n % 64 < 64 = omega arith in
    let old : ℕ = slice_index s.words i in
    same_nodes _ _ (λ k. written s n i (bit_and old (bit_not w64 (1 * 2 ^ (n % 64) % 2 ^ 64))) at l four false (bit_at_clear_same w64 old (n % 64) place)
    (λ j m d. bit_at_clear_other w64 old (n % 64) place j m d) k
    ∙ sym (has-drop (nodes_of s) n k))

pub without_past : (s : NodeSet) (n : ℕ) → 256 ≤ n → nodes_of s ≡ drop_node (nodes_of s) n
without_past s n l = same_nodes _ _ (λ k. grind (arith, nat_tests, has-drop (nodes_of s) n k, has-past s k))

or_none : (x p j : ℕ) → bit_at (bit_or x (0 * 2 ^ p % 2 ^ 64)) j ≡ bit_at x j
or_none x p j =
    let none : 0 * 2 ^ p % 2 ^ 64 ≡ 0 = omega arith in
    ap (λ y. bit_at (bit_or x y) j) none ∙ (bit_at_or x 0 j ∙ omega (arith, bit_at-zero j))

-- a digit that is 0 becomes the number of a test
put_here : (x p d : ℕ) (b : Bool) → p < 64 → bit_at x p ≡ 0 → d ≡ from_bool b → bit_at (bit_or x (d * 2 ^ p % 2 ^ 64)) p ≡ digit b
put_here x p d true l none is = ap (λ m. bit_at (bit_or x (m * 2 ^ p % 2 ^ 64)) p) is ∙ bit_at_set_same w64 x p l
put_here x p d false l none is = ap (λ m. bit_at (bit_or x (m * 2 ^ p % 2 ^ 64)) p) is ∙ (or_none x p p ∙ none)

put_there : (x p d : ℕ) (b : Bool) → p < 64 → d ≡ from_bool b → (j : ℕ) → j ≢ p → bit_at (bit_or x (d * 2 ^ p % 2 ^ 64)) j ≡ bit_at x j
put_there x p d true l is j apart = ap (λ m. bit_at (bit_or x (m * 2 ^ p % 2 ^ 64)) j) is ∙ bit_at_set_other w64 x p l j apart
put_there x p d false l is j apart = ap (λ m. bit_at (bit_or x (m * 2 ^ p % 2 ^ 64)) j) is ∙ or_none x p j

pub put_word : (s : NodeSet) (n i d : ℕ) (b : Bool) → i ≡ n / 64 → d ≡ from_bool b → n < 256 → length s.words ≡ 4
    → nodes_of (record { words = slice_set s.words i (bit_or (bit_and (slice_index s.words i) (bit_not w64 (1 * 2 ^ (n % 64) % 2 ^ 64))) (d * 2 ^ (n % 64) % 2 ^ 64)) }) ≡ cond b (add_node (nodes_of s) n) (drop_node (nodes_of s) n)
put_word s n i d b at is l four =
    let place : n % 64 < 64 = omega arith in
    let old : ℕ = slice_index s.words i in
    let others : ℕ = bit_and old (bit_not w64 (1 * 2 ^ (n % 64) % 2 ^ 64)) in
    same_nodes _ _ (λ k. written s n i (bit_or others (d * 2 ^ (n % 64) % 2 ^ 64)) at l four b
    (put_here others (n % 64) d b place (bit_at_clear_same w64 old (n % 64) place) is)
    (λ j m e. put_there others (n % 64) d b place is j e ∙ bit_at_clear_other w64 old (n % 64) place j m e) k
    ∙ sym (has-put (nodes_of s) b n k))

-- ---- all words

-- what holds of each of four numbers holds of each number below four
pub each_of_four : (P : ℕ → Type 0) → P 0 → P 1 → P 2 → P 3 → (i : ℕ) → i < 4 → P i
each_of_four P a b c d zero l = a
each_of_four P a b c d (suc zero) l = b
each_of_four P a b c d (suc (suc zero)) l = c
each_of_four P a b c d (suc (suc (suc zero))) l = d
each_of_four P a b c d (suc (suc (suc (suc i)))) l = absurd (omega arith)

one_of_four : (f : ℕ → ℕ) (i : ℕ) → i < 4 → slice_index (f 0 ∷ f 1 ∷ f 2 ∷ f 3 ∷ []) i ≡ f i
one_of_four f = each_of_four (λ i. slice_index (f 0 ∷ f 1 ∷ f 2 ∷ f 3 ∷ []) i ≡ f i) refl refl refl refl

abbrev union_of : NodeSet → NodeSet → NodeSet
union_of s t = record {
  words = bit_or (slice_index s.words 0) (slice_index t.words 0) ∷ bit_or (slice_index s.words 1) (slice_index t.words 1) ∷ bit_or (slice_index s.words 2) (slice_index t.words 2) ∷ bit_or (slice_index s.words 3) (slice_index t.words 3) ∷ [];
}

pub joined : (s t : NodeSet) → nodes_of (union_of s t) ≡ join_nodes (nodes_of s) (nodes_of t)
joined s t = same_nodes _ _ (λ k. ⊎_elim (within k) (past k) (cases_lt k 256))
  where
    within : (k : ℕ) → k < 256 → has_node (nodes_of (union_of s t)) k ≡ has_node (join_nodes (nodes_of s) (nodes_of t)) k
    within k l =
        let a : ℕ = slice_index s.words (k / 64) in
        let b : ℕ = slice_index t.words (k / 64) in
        let word : slice_index (union_of s t).words (k / 64) ≡ bit_or a b = one_of_four (λ i. bit_or (slice_index s.words i) (slice_index t.words i)) (k / 64) (omega arith) in
        has-word (union_of s t) k l ∙ (ap (λ w. bit_at w (k % 64) == 1) word
        ∙ grind (arith, nat_tests, has-join (nodes_of s) (nodes_of t) k, has-word s k l, has-word t k l, bit_at_or a b (k % 64), bit_at-lt a (k % 64), bit_at-lt b (k % 64)))

    past : (k : ℕ) → 256 ≤ k → has_node (nodes_of (union_of s t)) k ≡ has_node (join_nodes (nodes_of s) (nodes_of t)) k
    past k l = has-past (union_of s t) k l ∙ grind (arith, nat_tests, has-join (nodes_of s) (nodes_of t) k, has-past s k l, has-past t k l)

pub nothing : nodes_of (record { words = replicate 4 0 }) ≡ no_nodes
unfolding nodes_of no_nodes
nothing = refl

as_four : (words : List ℕ) → length words ≡ 4 → words ≡ slice_index words 0 ∷ slice_index words 1 ∷ slice_index words 2 ∷ slice_index words 3 ∷ []
as_four [] four = absurd (omega arith)
as_four (a ∷ []) four = absurd (omega arith)
as_four (a ∷ b ∷ []) four = absurd (omega arith)
as_four (a ∷ b ∷ c ∷ []) four = absurd (omega arith)
as_four (a ∷ b ∷ c ∷ d ∷ []) four = refl
as_four (a ∷ b ∷ c ∷ d ∷ e ∷ rest) four = absurd (omega arith)

ones_none : count_ones 0 ≡ 0
unfolding ones
ones_none = refl

ones_in : (words : List ℕ) → count_ones (bits_in words) ≡ weigh (λ word. count_ones (word % 2 ^ 64)) words
ones_in [] = ones_none
ones_in (word ∷ rest) = ones_cat 64 (bits_in rest) (word % 2 ^ 64) (low_below word) ∙ omega (arith, ones_in rest)

ones_of_four : (a b c d : ℕ) → a < 2 ^ 64 → b < 2 ^ 64 → c < 2 ^ 64 → d < 2 ^ 64 → count_ones (bits_in (a ∷ b ∷ c ∷ d ∷ [])) ≡ count_ones a + count_ones b + count_ones c + count_ones d
ones_of_four a b c d k l m n = ones_in (a ∷ b ∷ c ∷ d ∷ []) ∙ omega (arith, ap count_ones (mod-eq_of_lt k), ap count_ones (mod-eq_of_lt l), ap count_ones (mod-eq_of_lt m), ap count_ones (mod-eq_of_lt n))

pub counted : (s : NodeSet) → length s.words ≡ 4 → slice_index s.words 0 < 2 ^ 64 → slice_index s.words 1 < 2 ^ 64 → slice_index s.words 2 < 2 ^ 64 → slice_index s.words 3 < 2 ^ 64
    → count_ones (slice_index s.words 0) + count_ones (slice_index s.words 1) + count_ones (slice_index s.words 2) + count_ones (slice_index s.words 3) ≡ count_nodes (nodes_of s)
unfolding nodes_of
counted s four k l m n = sym (count-bits (nodes_of s) ∙ (ap (λ (words : List ℕ). count_ones (bits_in (take 4 words))) (as_four s.words four) ∙ ones_of_four _ _ _ _ k l m n))

-- ---- the least member

-- in the first word that isn't 0, at its lowest one
module _ (s : NodeSet) (i : ℕ) (before : (j : ℕ) → j < i → slice_index s.words j ≡ 0) where
  none_here : i ≡ 3 → slice_index s.words i ≡ 0 → nodes_of s ≡ no_nodes
  none_here last none = same_nodes _ _ (λ k. ⊎_elim (λ l. within k l) (λ l. has-past s k l) (cases_lt k 256) ∙ sym (has-none k))
    where
      zero_word : (j : ℕ) → j < 4 → slice_index s.words j ≡ 0
      zero_word j l = ⊎_elim (λ m. before j m) (λ m. let same : j ≡ i = omega arith in ap (slice_index s.words) same ∙ none) (cases_lt j i)

      within : (k : ℕ) → k < 256 → has_node (nodes_of s) k ≡ false
      within k l = has-word s k l ∙ ap (λ b. b == 1) (ap (λ word. bit_at word (k % 64)) (zero_word (k / 64) (omega arith)) ∙ bit_at-zero (k % 64))

  pub no_node : (slice_index s.words i ≡ 0 → i ≡ 3) → slice_index s.words i ≡ 0 → nodes_of s ≡ no_nodes
  no_node last none = none_here (last none) none

  pub no_members : (slice_index s.words i ≡ 0 → i ≡ 3) → slice_index s.words i ≡ 0 → members (nodes_of s) ≡ []
  no_members last none = ap members (no_node last none) ∙ members-none

  module _ (l : i < 4) (some : 0 < slice_index s.words i) (fits : slice_index s.words i < 2 ^ 64) where
    abbrev least : ℕ
    least = i * 64 + trailing_zeros w64 (slice_index s.words i)

    is_member : has_node (nodes_of s) least ≡ true
    is_member = let z = bit_at-trailing_zeros w64 (slice_index s.words i) some fits in has_digit s i (trailing_zeros w64 (slice_index s.words i)) l z.0 ∙ ap (λ b. b == 1) z.1

    none_below : (k : ℕ) → k < least → has_node (nodes_of s) k ≡ false
    none_below k m =
        let z = bit_at-trailing_zeros w64 (slice_index s.words i) some fits in
        has-word s k (omega arith) ∙ ap (λ b. b == 1) (⊎_elim
        (λ p. ap (λ word. bit_at word (k % 64)) (before (k / 64) p) ∙ bit_at-zero (k % 64))
        (λ p. (let same : k / 64 ≡ i = omega arith in ap (λ j. bit_at (slice_index s.words j) (k % 64)) same ∙ z.2 (k % 64) (omega arith)))
        (cases_lt (k / 64) i))

    pub first_member : members (nodes_of s) ≡ (i * 64 + trailing_zeros w64 (slice_index s.words i)) ∷ members (drop_node (nodes_of s) (i * 64 + trailing_zeros w64 (slice_index s.words i)))
    first_member = members-least (nodes_of s) least is_member none_below

    pub some_node : nodes_of s ≢ no_nodes
    some_node e = true≢false (sym is_member ∙ (ap (λ P. has_node P least) e ∙ has-none least))

-- ---- the first word that isn't 0

or_zero : (a b : ℕ) → a ≡ 0 → b ≡ 0 → bit_or a b ≡ 0
or_zero a b e f = omega (arith, or_lt 0 a b (omega arith) (omega arith))

-- a test whether a number is 0, as a number
record IsTest (x n : ℕ) : Type 0 where
  few : x ≤ 1
  holds : 1 ≤ x → n ≡ 0
  is : n ≡ 0 → 1 ≤ x

tests : (x n : ℕ) → x ≡ from_bool (n == 0) → IsTest x n
tests x n e = go (n == 0) refl e
  where
    go : (b : Bool) → (n == 0) ≡ b → x ≡ from_bool b → IsTest x n
    go true none x_is = record { few = omega arith; holds = λ l. eqb-true n 0 none; is = λ l. omega arith }
    go false some x_is = record { few = omega arith; holds = λ l. absurd (omega arith); is = λ l. absurd (eqb-false n 0 some l) }

-- its place is the sum of three tests
module _ (words : List ℕ) where
  abbrev word0 : ℕ
  word0 = slice_index words 0

  abbrev word1 : ℕ
  word1 = slice_index words 1

  abbrev word2 : ℕ
  word2 = slice_index words 2

  module _ (x y z : ℕ) (one : IsTest x word0) (two : IsTest y (bit_or word0 word1)) (three : IsTest z (bit_or (bit_or word0 word1) word2)) where
    second : 1 ≤ y → (word0 ≡ 0) × (word1 ≡ 0)
    second l = let none = two.holds l in (omega (arith, le_or_l word0 word1), omega (arith, le_or_r word0 word1))

    third : 1 ≤ z → (bit_or word0 word1 ≡ 0) × (word2 ≡ 0)
    third l = let none = three.holds l in (omega (arith, le_or_l (bit_or word0 word1) word2), omega (arith, le_or_r (bit_or word0 word1) word2))

    falls : (y ≤ x) × (z ≤ y)
    falls = (
      ⊎_elim (λ l. omega arith) (λ l. (let few = two.few in let is = one.is (second l).0 in omega arith)) (cases_lt y 1),
      ⊎_elim (λ l. omega arith) (λ l. (let few = three.few in let is = two.is (third l).0 in omega arith)) (cases_lt z 1),
    )

    zeros_before : (i : ℕ) → i < x + y + z → slice_index words i ≡ 0
    zeros_before zero l = let few = falls in one.holds (omega arith)
    zeros_before (suc zero) l = let few = falls in let most = one.few in (second (omega arith)).1
    zeros_before (suc (suc zero)) l = let most = one.few in let next = two.few in (third (omega arith)).1
    zeros_before (suc (suc (suc i))) l = absurd (omega (arith, one.few, two.few, three.few))

    last_of_all : (i : ℕ) → i ≡ x + y + z → slice_index words i ≡ 0 → i ≡ 3
    last_of_all zero at none = absurd (omega (arith, one.is none))
    last_of_all (suc zero) at none = let few = falls in absurd (omega (arith, one.few, two.is (or_zero word0 word1 (one.holds (omega arith)) none)))
    last_of_all (suc (suc zero)) at none =
        let few = falls in
        let both = second (omega (arith, one.few, two.few)) in
        absurd (omega (arith, one.few, two.few, three.is (or_zero (bit_or word0 word1) word2 (or_zero word0 word1 both.0 both.1) none)))
    last_of_all (suc (suc (suc zero))) at none = refl
    last_of_all (suc (suc (suc (suc i)))) at none = absurd (omega (arith, one.few, two.few, three.few))

module _ (words : List ℕ) (x y z : ℕ) (first_is : x ≡ from_bool (slice_index words 0 == 0)) (second_is : y ≡ from_bool (bit_or (slice_index words 0) (slice_index words 1) == 0))
    (third_is : z ≡ from_bool (bit_or (bit_or (slice_index words 0) (slice_index words 1)) (slice_index words 2) == 0)) where
  pub first_before : (i : ℕ) → i < x + y + z → slice_index words i ≡ 0
  first_before = zeros_before words x y z (tests x _ first_is) (tests y _ second_is) (tests z _ third_is)

  pub first_last : slice_index words (x + y + z) ≡ 0 → x + y + z ≡ 3
  first_last = last_of_all words x y z (tests x _ first_is) (tests y _ second_is) (tests z _ third_is) (x + y + z) refl

-- ---- no member

word_none : (s : NodeSet) (i : ℕ) → i < 4 → slice_index s.words i < 2 ^ 64 → nodes_of s ≡ no_nodes → slice_index s.words i ≡ 0
word_none s i l fits none = same_from_bits_below 64 (slice_index s.words i) 0 fits (omega arith) (λ j m.
    let gone : (bit_at (slice_index s.words i) j == 1) ≡ false = sym (has_digit s i j l m) ∙ (ap (λ P. has_node P (i * 64 + j)) none ∙ has-none (i * 64 + j)) in
    grind (arith, nat_tests, bit_at-lt (slice_index s.words i) j, bit_at-zero j))

abbrev all_words : NodeSet → ℕ
all_words s = bit_or (bit_or (bit_or (slice_index s.words 0) (slice_index s.words 1)) (slice_index s.words 2)) (slice_index s.words 3)

words_none : (s : NodeSet) → all_words s ≡ 0 → nodes_of s ≡ no_nodes
words_none s none =
    let a : ℕ = slice_index s.words 0 in
    let b : ℕ = slice_index s.words 1 in
    let c : ℕ = slice_index s.words 2 in
    let d : ℕ = slice_index s.words 3 in
    let three : bit_or (bit_or a b) c ≡ 0 = omega (arith, none, le_or_l (bit_or (bit_or a b) c) d) in
    let two : bit_or a b ≡ 0 = omega (arith, three, le_or_l (bit_or a b) c) in
    let each = each_of_four (λ i. slice_index s.words i ≡ 0)
    (omega (arith, two, le_or_l a b)) (omega (arith, two, le_or_r a b)) (omega (arith, three, le_or_r (bit_or a b) c)) (omega (arith, none, le_or_r (bit_or (bit_or a b) c) d)) in
    none_here s 3 (λ i l. each i (omega arith)) refl (each 3 (omega arith))

pub empty_is : (s : NodeSet) → slice_index s.words 0 < 2 ^ 64 → slice_index s.words 1 < 2 ^ 64 → slice_index s.words 2 < 2 ^ 64 → slice_index s.words 3 < 2 ^ 64
    → IsTrue (bit_or (bit_or (bit_or (slice_index s.words 0) (slice_index s.words 1)) (slice_index s.words 2)) (slice_index s.words 3) == 0) ↔ (nodes_of s ≡ no_nodes)
empty_is s k l m n = (
  λ zeros. words_none s (eqb-true (all_words s) 0 zeros),
  λ none. eq-eqb (all_words s) 0 (or_zero _ _ (or_zero _ _ (or_zero _ _ (word_none s 0 (omega arith) k none) (word_none s 1 (omega arith) l none)) (word_none s 2 (omega arith) m none)) (word_none s 3 (omega arith) n none)),
)

-- what the functions over the four words are proved by
pub ruleset words = (nothing, has_word, with_word, without_word, without_past, put_word, joined, counted, empty_is)
