-- The least of heads that are due, in order, and of those in a heap; and what is counted of heads.
use Rattle.std.proofs.Common.{◌≡◌, ℕ, ◌+◌, ◌≤◌, ◌==◌, nat_lt, nat_le, Bool, true, false, cond, Option, Some, None, List, [], ◌∷◌, ◌++◌, length, drop, refl, sym, subst, ap, ◌∙◌, arith}
use Rattle.std.specs.Prelude.{IfSome, IfNone}
use Rattle.std.specs.List.{AllByRecursion, sum_by}
use Rattle.std.specs.List.Sorted.{IsPermutation}
use Rattle.std.specs.BinaryHeap.{IsUpperBound}
use Rattle.std.specs.Ordering.{is_lt}
use Rattle.std.specs.declared.cmp.Ordering.TheVariants.{Less, Equal, Greater}
use Rattle.std.specs.declared.cmp.Reverse.{Reverse}
use Rattle.std.proofs.lemmas.Bool.{leb-true, eqb-true}
use Rattle.std.proofs.lemmas.Bool.Decides.{nat_tests}
use Rattle.std.proofs.lemmas.Option.{same_Some}
use Rattle.std.proofs.lemmas.List.Sums.{sum_by-cons}
use Rattle.std.proofs.lemmas.List.Sorted.{sum_by_popped, sum_by_pushed}
use Rattle.alw_num.specs.Weights.{digit, weigh}
use Rattle.alw_num.proofs.Weigh.{digit_same, weigh-append, weigh_push, weigh-one}
use Rattle.alw_msg.specs.Lists.{front}
use Rattle.alw_merge.specs.Heads.{NoneBefore, IsLeast, HaveJoined, IsInOrder, heap_cmp, heads_in, is_due, first_of}

-- ---- the heads of a heap

compares : (p q : Bool) → is_lt (cond p Less (cond q Equal Greater)) ≡ p
compares true q = refl
compares false true = refl
compares false false = refl

heap_says : (one other : Reverse ℕ) → is_lt (heap_cmp one other) ≡ nat_lt other.0 one.0
heap_says one other = compares (nat_lt other.0 one.0) (other.0 == one.0)

-- none of them comes before an upper bound of the heap
pub none_in : (top : Reverse ℕ) (heap : List (Reverse ℕ)) → IsUpperBound heap_cmp top heap → NoneBefore top.0 (heads_in heap)
none_in top [] bound = tt
none_in top (first ∷ rest) bound = (sym (heap_says top first) ∙ bound.0, none_in top rest bound.1)

counted_in : (f : ℕ → ℕ) (heap : List (Reverse ℕ)) → weigh f (heads_in heap) ≡ sum_by (λ (reverse : Reverse ℕ). f reverse.0) heap
counted_in f [] = refl
counted_in f (first ∷ rest) =
    let g : Reverse ℕ → ℕ = λ reverse. f reverse.0 in
    omega (arith, sum_by-cons g first rest, counted_in f rest)

-- without its top, and with one more
pub top_taken : (top : Reverse ℕ) (heap rest : List (Reverse ℕ)) → IsPermutation heap (top ∷ rest) → HaveJoined (heads_in rest) (top.0 ∷ []) (heads_in heap)
top_taken top heap rest popped f =
    omega (arith, counted_in f heap, counted_in f rest, sum_by_popped (λ (reverse : Reverse ℕ). f reverse.0) top heap rest popped)

pub one_put : (one : Reverse ℕ) (heap more : List (Reverse ℕ)) → IsPermutation (one ∷ heap) more → HaveJoined (heads_in heap) (one.0 ∷ []) (heads_in more)
one_put one heap more pushed f =
    omega (arith, counted_in f heap, counted_in f more, sum_by_pushed (λ (reverse : Reverse ℕ). f reverse.0) one heap more pushed)

-- ---- the least

later : (least head other : ℕ) → nat_lt head other ≡ false → least ≤ other → nat_lt head least ≡ false
later least head other none below = grind (arith, nat_tests)

not_before : (least head : ℕ) → least ≤ head → nat_lt head least ≡ false
not_before least head below = grind (arith, nat_tests)

none_behind : (least : ℕ) (due : List ℕ) → AllByRecursion (λ (head : ℕ). least ≤ head) due → NoneBefore least due
none_behind least [] all = tt
none_behind least (first ∷ rest) all = (not_before least first all.0, none_behind least rest all.1)

none_lower : (least other : ℕ) (heads : List ℕ) → least ≤ other → NoneBefore other heads → NoneBefore least heads
none_lower least other [] below none = tt
none_lower least other (first ∷ rest) below none = (later least first other none.0 below, none_lower least other rest below none.1)

none_of_both : (least : ℕ) (some others : List ℕ) → NoneBefore least some → NoneBefore least others → NoneBefore least (some ++ others)
none_of_both least [] others none also = also
none_of_both least (first ∷ rest) others none also = (none.0, none_of_both least rest others none.1 also)

-- what is said of the head that comes first of two lists
abbrev pub IsFirst : Option ℕ → List ℕ → Type 0
IsFirst head heads = IfSome head (λ one. IsLeast one heads) × IfNone head (heads ≡ [])

below : (n m : ℕ) → nat_le n m ≡ false → m ≤ n
below n m is = grind (arith, nat_tests)

-- the first of those that are due, or the top of the others
first_is : (due others : List ℕ) → IsInOrder due → IfSome (front others) (λ top. NoneBefore top others) → IsFirst (first_of (front due) (front others)) (due ++ others)
first_is [] [] order bound = (tt, refl)
first_is [] (top ∷ others) order bound = (record { among = let same = digit_same top top refl in omega (arith, same); first = bound }, tt)
first_is (first ∷ due) [] order bound = (
  record {
    among = let same = digit_same first first refl in omega (arith, same);
    first = none_of_both first (first ∷ due) [] (not_before first first (omega arith), none_behind first due order.0) tt;
  },
  tt,
)
first_is (first ∷ due) (top ∷ others) order bound = go (nat_le first top) refl
  where
    behind_first : NoneBefore first (first ∷ due)
    behind_first = (not_before first first (omega arith), none_behind first due order.0)

    go : (b : Bool) → nat_le first top ≡ b → IsFirst (cond b (Some first) (Some top)) ((first ∷ due) ++ top ∷ others)
    go true is = (
      record {
        among = let same = digit_same first first refl in omega (arith, same);
        first = none_of_both first (first ∷ due) (top ∷ others) behind_first (none_lower first top (top ∷ others) (leb-true first top is) bound);
      },
      tt,
    )
    go false is = (
      record {
        among =
            let same = digit_same top top refl in
            omega (arith, same, weigh-append (λ (head : ℕ). digit (head == top)) (first ∷ due) (top ∷ others));
        first = none_of_both top (first ∷ due) (top ∷ others) (none_lower top first (first ∷ due) (below first top is) behind_first) bound;
      },
      tt,
    )

pub least_is : (due others : List ℕ) (first top found : Option ℕ) → IsInOrder due → first ≡ front due → top ≡ front others → IfSome top (λ one. NoneBefore one others)
    → found ≡ first_of first top → IsFirst found (due ++ others)
least_is due others first top found order first_is_front top_is_front bound is =
    let bound_there = subst (λ (o : Option ℕ). IfSome o (λ one. NoneBefore one others)) top_is_front bound in
    let found_is : found ≡ first_of (front due) (front others) = is ∙ (λ x. first_of (first_is_front x) (top_is_front x)) in
    subst (λ (o : Option ℕ). IsFirst o (due ++ others)) (sym found_is) (first_is due others order bound_there)

-- ---- as callers see it

pub joined_length : (before more after : List ℕ) → HaveJoined before more after → length after ≡ length before + length more
joined_length before more after joined =
    let one : ℕ → ℕ = λ _. 1 in
    omega (arith, joined one, weigh-one one (λ x. refl) before, weigh-one one (λ x. refl) more, weigh-one one (λ x. refl) after)

-- one of some heads isn't below one before which none comes
not_below : (head bound : ℕ) (heads : List ℕ) → 1 ≤ weigh (λ (one : ℕ). digit (one == head)) heads → NoneBefore bound heads → nat_lt head bound ≡ false
not_below head bound [] among none = absurd (omega (arith, among))
not_below head bound (first ∷ rest) among none = go (first == head) refl (λ more. not_below head bound rest more none.1) among
  where
    go : (b : Bool) → (first == head) ≡ b → (1 ≤ weigh (λ (one : ℕ). digit (one == head)) rest → nat_lt head bound ≡ false)
        → 1 ≤ digit b + weigh (λ (one : ℕ). digit (one == head)) rest → nat_lt head bound ≡ false
    go true same deeper among = subst (λ n. nat_lt n bound ≡ false) (eqb-true first head same) none.0
    go false other deeper among = deeper (omega (arith, among))

both_ways : (n m : ℕ) → nat_lt n m ≡ false → nat_lt m n ≡ false → n ≡ m
both_ways n m above below = grind (arith, nat_tests)

-- there is one least
least_same : (one other : ℕ) (heads : List ℕ) → IsLeast one heads → IsLeast other heads → one ≡ other
least_same one other heads is also = both_ways one other (not_below one other heads is.among also.first) (not_below other one heads also.among is.first)

-- the one that comes first of two lists is the least
same_first : (found : Option ℕ) (head : ℕ) (heads : List ℕ) → IsFirst found heads → IsLeast head heads → found ≡ Some head
same_first None head heads is least = absurd (let gone = ap (weigh (λ (one : ℕ). digit (one == head))) is.1 in omega (arith, gone, least.among))
same_first (Some one) head heads is least = ap Some (least_same one head heads is.0 least)

-- ---- one taken off, and one more

popped_due : (due rest others : List ℕ) (head : ℕ) → IsInOrder due → IfSome (front others) (λ top. NoneBefore top others) → is_due (front due) (front others) ≡ true
    → rest ≡ drop 1 due → IsLeast head (due ++ others) → HaveJoined (rest ++ others) (head ∷ []) (due ++ others)
popped_due [] rest others head order bound is left least = absurd (cc)
popped_due (first ∷ due) rest others head order bound is left least =
    let found : Some first ≡ Some head =
    sym (ap (λ b. cond b (Some first) (front others)) is) ∙ same_first (first_of (Some first) (front others)) head ((first ∷ due) ++ others) (first_is (first ∷ due) others order bound) least in
    λ f.
    let same : f first ≡ f head = ap f (same_Some first head found) in
    let after : weigh f (rest ++ others) ≡ weigh f (due ++ others) = ap (λ (heads : List ℕ). weigh f (heads ++ others)) left in
    omega (arith, same, after)

popped_heap : (due others rest : List ℕ) (popped : Option ℕ) (head : ℕ) → IsInOrder due → IfSome (front others) (λ top. NoneBefore top others) → is_due (front due) (front others) ≡ false
    → popped ≡ front others → IfSome popped (λ top. HaveJoined rest (top ∷ []) others) → IsLeast head (due ++ others) → HaveJoined (due ++ rest) (head ∷ []) (due ++ others)
popped_heap due others rest popped head order bound is top left least =
    let found : popped ≡ Some head = top ∙ (sym (ap (λ b. cond b (front due) (front others)) is) ∙ same_first (first_of (front due) (front others)) head (due ++ others) (first_is due others order bound) least) in
    let joined : HaveJoined rest (head ∷ []) others = subst (λ (o : Option ℕ). IfSome o (λ one. HaveJoined rest (one ∷ []) others)) found left in
    λ f. omega (arith, joined f, weigh-append f due rest, weigh-append f due others)

module _ (due others rest : List ℕ) (first top : Option ℕ) (head : ℕ) (order : IsInOrder due) (first_is_front : first ≡ front due) (top_is_front : top ≡ front others)
    (bound : IfSome top (λ one. NoneBefore one others)) (least : IsLeast head (due ++ others)) where
  bound_there : IfSome (front others) (λ one. NoneBefore one others)
  bound_there = subst (λ (o : Option ℕ). IfSome o (λ one. NoneBefore one others)) top_is_front bound

  is_there : (b : Bool) → is_due first top ≡ b → is_due (front due) (front others) ≡ b
  is_there b is = (λ x. is_due (sym first_is_front x) (sym top_is_front x)) ∙ is

  pub due_popped : is_due first top ≡ true → rest ≡ drop 1 due → HaveJoined (rest ++ others) (head ∷ []) (due ++ others)
  due_popped is left = popped_due due rest others head order bound_there (is_there true is) left least

  pub heap_popped : (popped : Option ℕ) → is_due first top ≡ false → popped ≡ front others → IfSome popped (λ one. HaveJoined rest (one ∷ []) others) → HaveJoined (due ++ rest) (head ∷ []) (due ++ others)
  heap_popped popped is top left = popped_heap due others rest popped head order bound_there (is_there false is) top left least

pub due_more : (head : ℕ) (due others : List ℕ) → HaveJoined (due ++ others) (head ∷ []) ((due ++ head ∷ []) ++ others)
due_more head due others f = omega (arith, weigh-append f due others, weigh-append f (due ++ head ∷ []) others, weigh_push f due head)

pub heap_more : (head : ℕ) (due others more : List ℕ) → HaveJoined others (head ∷ []) more → HaveJoined (due ++ others) (head ∷ []) (due ++ more)
heap_more head due others more joined f = omega (arith, joined f, weigh-append f due others, weigh-append f due more)

-- those that are due, with one behind them that isn't below the latest
all_within : (latest head : ℕ) (due : List ℕ) → latest ≤ head → AllByRecursion (λ (one : ℕ). one ≤ latest) due → AllByRecursion (λ (one : ℕ). one ≤ head) (due ++ head ∷ [])
all_within latest head [] above all = (omega arith, tt)
all_within latest head (first ∷ rest) above all = (omega (arith, above, all.0), all_within latest head rest above all.1)

all_more : (least head : ℕ) (due : List ℕ) → least ≤ head → AllByRecursion (λ (one : ℕ). least ≤ one) due → AllByRecursion (λ (one : ℕ). least ≤ one) (due ++ head ∷ [])
all_more least head [] above all = (above, tt)
all_more least head (first ∷ rest) above all = (all.0, all_more least head rest above all.1)

order_more : (latest head : ℕ) (due : List ℕ) → latest ≤ head → AllByRecursion (λ (one : ℕ). one ≤ latest) due → IsInOrder due → IsInOrder (due ++ head ∷ [])
order_more latest head [] above all order = (tt, tt)
order_more latest head (first ∷ rest) above all order =
    (all_more first head rest (omega (arith, above, all.0)) order.0, order_more latest head rest above all.1 order.1)

pub joined_order : (latest head : ℕ) (due : List ℕ) → latest ≤ head → AllByRecursion (λ (one : ℕ). one ≤ latest) due → IsInOrder due
    → IsInOrder (due ++ head ∷ []) × AllByRecursion (λ (one : ℕ). one ≤ head) (due ++ head ∷ [])
joined_order latest head due above all order = (order_more latest head due above all order, all_within latest head due above all)

-- without the first of them
pub left_order : (latest : ℕ) (due : List ℕ) → AllByRecursion (λ (one : ℕ). one ≤ latest) due → IsInOrder due → IsInOrder (drop 1 due) × AllByRecursion (λ (one : ℕ). one ≤ latest) (drop 1 due)
left_order latest [] all order = (tt, tt)
left_order latest (first ∷ due) all order = (order.1, all.1)
