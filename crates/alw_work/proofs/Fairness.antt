-- Each step of a queue keeps its rule, and a number that is held finds room.
use Rattle.std.proofs.Common.{◌≡◌, ◌≢◌, ℕ, zero, suc, ◌+◌, ◌<◌, ◌≤◌, ◌==◌, nat_lt, None, Some, List, [], ◌∷◌, length, set, refl, sym, ap, ◌∙◌, subst, arith}
use mathlib.Core.Option.{some, some-injective, some-ne-none}
use lib.ListN.{get_elem?}
use Rattle.std.proofs.lemmas.Bool.{lt-ltb, le-ltb, ltb-true}
use Rattle.crossbeam_queue.specs.Fifo.{Pushes, Pops, Admits, Learns}
use Rattle.crossbeam_queue.proofs.Lists.{set_here, set_else, at_longer}
use Rattle.alw_num.specs.Weights.{digit, weigh, times}
use Rattle.alw_num.proofs.Weigh.{is_node, cases_lt_then, digit_le, true_of_digit, digit_same, digit_other, weigh_push, sum_both, sum_one, sum_ones, sum_le, sum_times}
use Rattle.alw_work.specs.declared.ready.Hand.{Hand}
use Rattle.alw_work.specs.declared.ready.Hand.TheVariants.{Has, Fills}
use Rattle.alw_work.specs.Ready.{filled_by, holds, HasFilled, IsFair}

-- ---- lists

module _ {A : Type 0} where
  -- a weight, where one member is changed
  weigh_set : (f : A → ℕ) (xs : List A) (i : ℕ) (v w : A) → get_elem? xs i ≡ some v → weigh f (set xs i w) + f v ≡ weigh f xs + f w
  weigh_set f [] i v w at = absurd (some-ne-none v (sym at))
  weigh_set f (x ∷ xs) zero v w at = omega (arith, ap f (some-injective x v at))
  weigh_set f (x ∷ xs) (suc i) v w at = omega (arith, weigh_set f xs i v w at)

  weigh_at : (f : A → ℕ) (xs : List A) (i : ℕ) (v : A) → get_elem? xs i ≡ some v → f v ≤ weigh f xs
  weigh_at f [] i v at = absurd (some-ne-none v (sym at))
  weigh_at f (x ∷ xs) zero v at = omega (arith, ap f (some-injective x v at))
  weigh_at f (x ∷ xs) (suc i) v at = omega (arith, weigh_at f xs i v at)

  within_of : (xs : List A) (i : ℕ) (v : A) → get_elem? xs i ≡ some v → i < length xs
  within_of [] i v at = absurd (some-ne-none v (sym at))
  within_of (x ∷ xs) zero v at = omega arith
  within_of (x ∷ xs) (suc i) v at = omega (arith, within_of xs i v at)

-- ---- tests as numbers

below_of : (k n : ℕ) → 1 ≤ digit (nat_lt k n) → k < n
below_of k n one = ltb-true k n (true_of_digit (nat_lt k n) one)

digit_below : (k n : ℕ) → k < n → digit (nat_lt k n) ≡ 1
digit_below k n below = ap digit (lt-ltb k n below)

digit_from : (k n : ℕ) → n ≤ k → digit (nat_lt k n) ≡ 0
digit_from k n from = ap digit (le-ltb k n from)

-- ---- how many numbers stand in the queue

-- a list without x, which has each number below n at most once, is shorter than n
short : (n x : ℕ) (items : List ℕ) → x < n → ((k : ℕ) → times k items + digit (k == x) ≤ 1)
    → ((k : ℕ) → n ≤ k → times k items ≡ 0) → length items < n
short n x items below once none = omega (
  arith,
  sum_le n (λ k. times k items + digit (k == x)) (λ k. 1) (λ k l. once k),
  sum_both n (λ k. times k items) (λ k. digit (k == x)),
  sum_one n x below,
  sum_ones n,
  sum_times n items none,
)

-- no number from that of the nodes on stands in the queue
none_from : (n : ℕ) (items : List ℕ) (views : List Hand) (fair : IsFair n items views) (k : ℕ) → n ≤ k → times k items ≡ 0
none_from n items views fair k from = omega (arith, fair.once k, digit_from k fair.filled (omega (arith, from, fair.within)))

most_once : (n : ℕ) (items : List ℕ) (views : List Hand) (fair : IsFair n items views) (k : ℕ) → times k items + weigh (holds k) views ≤ 1
most_once n items views fair k = omega (arith, fair.once k, digit_le (nat_lt k fair.filled))

-- ---- the rule, where a pass's view changes

at_first : (views : List Hand) (port : ℕ) (v : Hand) → port ≡ 0 → get_elem? views port ≡ some v → get_elem? views 0 ≡ some v
at_first views port v first at = subst (λ (i : ℕ). get_elem? views i ≡ some v) first at

-- what the first pass has put in is the same where another pass's view changes
filler_kept : (views : List Hand) (port filled : ℕ) (w : Hand) → port ≢ 0
    → (hand : Hand) × ((get_elem? views 0 ≡ some hand) × HasFilled filled hand)
    → (hand : Hand) × ((get_elem? (set views port w) 0 ≡ some hand) × HasFilled filled hand)
filler_kept views port filled w other filler = (filler.0, (set_else views port 0 w (λ e. other (sym e)) ∙ filler.1.0, filler.1.1))

-- the view of the first pass tells it
filled_then : (n : ℕ) (items : List ℕ) (views : List Hand) (fair : IsFair n items views) (v : Hand) → get_elem? views 0 ≡ some v → HasFilled fair.filled v
filled_then n items views fair v at =
    subst (λ hand. HasFilled fair.filled hand) (some-injective fair.filler.0 v (sym fair.filler.1.0 ∙ at)) fair.filler.1.1

-- ---- the steps

pub begins : (n : ℕ) → IsFair n [] (Has None ∷ [])
begins n = record { filled = 0; within = omega arith; filler = (Has None, (refl, refl)); once = λ k. omega (arith, digit_from k 0 (omega arith)) }

pub admits : (n : ℕ) → Admits (IsFair n) (Has None)
admits n items views fair = record {
  filled = fair.filled;
  within = fair.within;
  filler = (fair.filler.0, (at_longer views (Has None ∷ []) 0 fair.filler.0 fair.filler.1.0, fair.filler.1.1));
  once = λ k. omega (arith, fair.once k, weigh_push (holds k) views (Has None));
}

module _ (n port : ℕ) where
  -- the number at the front goes to a pass
  pub takes : Pops (IsFair n) port (Has None) (λ x w. (w ≡ Has (Some x)) × (x < n))
  takes x items views fair at =
      let some_filled = below_of x fair.filled (omega (arith, fair.once x, digit_same x x refl)) in
      let none_filled = λ (first : port ≡ 0). filled_then n (x ∷ items) views fair (Has None) (at_first views port (Has None) first at) in
      let other : port ≢ 0 = λ first. absurd (omega (arith, some_filled, none_filled first)) in (
        Has (Some x),
        record {
          filled = fair.filled;
          within = fair.within;
          filler = filler_kept views port fair.filled (Has (Some x)) other fair.filler;
          once = λ k. omega (arith, fair.once k, weigh_set (holds k) views port (Has None) (Has (Some x)) at);
        },
        (refl, omega (arith, some_filled, fair.within)),
      )

  module _ (x : ℕ) where
    -- the number that a pass holds goes to the back
    pub gives : (places : ℕ) → Pushes (IsFair n) places port (Has (Some x)) x (λ w. w ≡ Has None)
    gives places items views room fair at =
        let other : port ≢ 0 = λ first. filled_then n items views fair (Has (Some x)) (at_first views port (Has (Some x)) first at) in (
          Has None,
          record {
            filled = fair.filled;
            within = fair.within;
            filler = filler_kept views port fair.filled (Has None) other fair.filler;
            once = λ k. omega (
              arith,
              fair.once k,
              weigh_push (λ j. digit (k == j)) items x,
              weigh_set (holds k) views port (Has (Some x)) (Has None) at,
            );
          },
          refl,
        )

    -- and there is room for it
    pub has_room : Learns (IsFair n) port (Has (Some x)) (λ items. length items < n)
    has_room items views fair at =
        let held = λ (k : ℕ). weigh_at (holds k) views port (Has (Some x)) at in
        let below = below_of x fair.filled (omega (arith, fair.once x, held x, digit_same x x refl)) in
        short n x items (omega (arith, below, fair.within)) (λ k. omega (arith, most_once n items views fair k, held k))
        (none_from n items views fair)

pub filled_is : (v : Hand) (filled : ℕ) → HasFilled filled v → filled_by v ≡ filled
filled_is (Has None) filled is = sym is
filled_is (Has (Some number)) filled is = absurd is
filled_is (Fills next) filled is = sym is

filled_same : (v : Hand) (a b : ℕ) → HasFilled a v → HasFilled b v → a ≡ b
filled_same (Has None) a b is same = is ∙ sym same
filled_same (Has (Some number)) a b is same = absurd is
filled_same (Fills next) a b is same = is ∙ sym same

filler_holds : (v : Hand) (filled k : ℕ) → HasFilled filled v → holds k v ≡ 0
filler_holds (Has None) filled k is = refl
filler_holds (Has (Some number)) filled k is = absurd is
filler_holds (Fills next) filled k is = refl

-- one number more stands below the next number
one_more : (k filled x : ℕ) → filled ≡ x → digit (nat_lt k filled) + digit (k == x) ≡ digit (nat_lt k (x + 1))
one_more k filled x is = cases_lt_then filled k
    (λ below. omega (
      arith,
      digit_below k filled below,
      digit_below k (x + 1) (omega (arith, below, is)),
      digit_other k x (λ e. absurd (omega (arith, e, below, is))),
    ))
    (λ from. is_node _ k x
    (λ same. omega (arith, digit_from k filled from, digit_same k x same, digit_below k (x + 1) (omega (arith, same))))
    (λ other. omega (arith, digit_from k filled from, digit_other k x other, digit_from k (x + 1) (omega (arith, from, is, other)))))

-- the next number goes into the queue that is being filled
module _ (n x : ℕ) (v : Hand) (filled : HasFilled x v) (below : x < n) where
  next_is : (items : List ℕ) (views : List Hand) (fair : IsFair n items views) → get_elem? views 0 ≡ some v → fair.filled ≡ x
  next_is items views fair at = filled_same v fair.filled x (filled_then n items views fair v at) filled

  pub adds : (places : ℕ) → Pushes (IsFair n) places 0 v x (λ w. w ≡ Fills (x + 1))
  adds places items views room fair at =
      let is = next_is items views fair at in (
        Fills (x + 1),
        record {
          filled = x + 1;
          within = omega (arith, below);
          filler = (Fills (x + 1), (set_here views 0 (Fills (x + 1)) (within_of views 0 v at), refl));
          once = λ k. omega (
            arith,
            fair.once k,
            one_more k fair.filled x is,
            weigh_push (λ j. digit (k == j)) items x,
            weigh_set (holds k) views 0 v (Fills (x + 1)) at,
            filler_holds v x k filled,
          );
        },
        refl,
      )

  pub adds_room : Learns (IsFair n) 0 v (λ items. length items < n)
  adds_room items views fair at =
      let is = next_is items views fair at in
      short n x items below (λ k. omega (arith, fair.once k, one_more k fair.filled x is, digit_le (nat_lt k (x + 1))))
      (none_from n items views fair)
