-- The order of endings is total, and two lists in strict order with the same members are one.
use Rattle.std.proofs.Common.{◌≡◌, ℕ, zero, suc, ◌⊎◌, inl, inr, List, [], ◌∷◌, refl, sym, ap, ◌∙◌, subst, arith}
use Rattle.std.specs.List.{Contains, AllByRecursion}
use Rattle.std.specs.List.Sorted.{IsStrictlySortedBy}
use Rattle.std.specs.declared.cmp.Ordering.{Ordering}
use Rattle.std.specs.declared.cmp.Ordering.TheVariants.{Less}
use Rattle.std.specs.Ordering.{is_lt, nat_cmp, ordering_then, then_cmp, on}
use Rattle.std.specs.Cmp.{IsTotalOrder}
use Rattle.std.specs.Cmp.Lexicographic.{slice_cmp}
use Rattle.std.proofs.lemmas.Bool.{false≢true}
use Rattle.std.proofs.lemmas.Cmp.{nat_cmp_total, nat_list_cmp_total, lists_total, on_total, then_total, tied_itself}
use Rattle.alw_num.specs.declared.addresses.Line.{Line}
use Rattle.alw_image.specs.declared.parts.Parts.{Parts}
use Rattle.alw_places.specs.Outcomes.{Ending, Halts, Traps, HasEvery}
use Rattle.alw_outcomes.specs.Endings.{list_cmp, memory_words, memory_cmp, ending_cmp, AreDifferent}
use Rattle.alw_outcomes.proofs.Keying.{then_Equal}

-- ---- the order of endings

abbrev Shape : Type 0
Shape = ℕ × (List (List ℕ) × (List Line × List ℕ))

shape : Ending → Shape
shape (Halts printed memory) = (0, (printed, (memory, [])))
shape (Traps context pc type) = (1, ([], ([], context ∷ pc ∷ type ∷ [])))

abbrev shape_cmp : Shape → Shape → Ordering
shape_cmp =
    then_cmp (on (λ (s : Shape). s.0) nat_cmp) (then_cmp (on (λ (s : Shape). s.1.0) (slice_cmp list_cmp)) (then_cmp (on (λ (s : Shape). s.1.1.0) memory_cmp) (on (λ (s : Shape). s.1.1.1) list_cmp)))

memory_total : IsTotalOrder memory_cmp
memory_total = on_total memory_words (lists_total (then_total (on_total (λ (w : ℕ × ℕ). w.0) nat_cmp_total) (on_total (λ (w : ℕ × ℕ). w.1) nat_cmp_total)))

shape_total : IsTotalOrder shape_cmp
shape_total =
    then_total (on_total (λ (s : Shape). s.0) nat_cmp_total)
    (then_total (on_total (λ (s : Shape). s.1.0) (lists_total nat_list_cmp_total)) (then_total (on_total (λ (s : Shape). s.1.1.0) memory_total) (on_total (λ (s : Shape). s.1.1.1) nat_list_cmp_total)))

shape_agrees : (one two : Ending) → on shape shape_cmp one two ≡ ending_cmp one two
unfolding shape
shape_agrees (Halts printed memory) (Halts printed' memory') = ap (ordering_then (slice_cmp list_cmp printed printed')) (then_Equal (memory_cmp memory memory'))
shape_agrees (Halts printed memory) (Traps context pc type) = refl
shape_agrees (Traps context pc type) (Halts printed memory) = refl
shape_agrees (Traps context pc type) (Traps context' pc' type') = ap (λ (o : Ordering). ordering_then (nat_cmp context context') (ordering_then (nat_cmp pc pc') o)) (then_Equal (nat_cmp type type'))

pub ending_total : IsTotalOrder ending_cmp
ending_total = subst (λ (c : Ending → Ending → Ordering). IsTotalOrder c) (λ i one two. shape_agrees one two i) (on_total shape shape_total)

-- ---- lists in strict order

at_member : {A : Type 0} (P : A → Type 0) (xs : List A) (x : A) → AllByRecursion P xs → Contains xs x → P x
at_member P [] x all (k, less, e) = absurd (omega arith)
at_member P (y ∷ xs) x all (zero, less, e) = subst P e all.0
at_member P (y ∷ xs) x all (suc k, less, e) = at_member P xs x all.1 (k, omega (arith, less), e)

member_cases : {A : Type 0} (y : A) (xs : List A) (x : A) → Contains (y ∷ xs) x → (y ≡ x) ⊎ Contains xs x
member_cases y xs x (zero, less, e) = inl e
member_cases y xs x (suc k, less, e) = inr (k, omega (arith, less), e)

first_member : {A : Type 0} (x : A) (xs : List A) → Contains (x ∷ xs) x
first_member x xs = (0, omega arith, refl)

later_member : {A : Type 0} (y : A) (xs : List A) (x : A) → Contains xs x → Contains (y ∷ xs) x
later_member y xs x (k, less, e) = (suc k, omega (arith, less), e)

no_member : {A : Type 0} (x : A) → Contains [] x → ⊥
no_member x (k, less, e) = omega arith

module _ {K : Type 0} (c : K → K → Ordering) (o : IsTotalOrder c) where
  not_below_itself : (x : K) → c x x ≡ Less → ⊥
  not_below_itself x less = false≢true (ap is_lt (sym (tied_itself o x) ∙ less))

  heads : (x y : K) (xs ys : List K) → AllByRecursion (λ z. c x z ≡ Less) xs → AllByRecursion (λ z. c y z ≡ Less) ys → (y ≡ x) ⊎ Contains ys x → (x ≡ y) ⊎ Contains xs y → x ≡ y
  heads x y xs ys above above' (inl same) other = sym same
  heads x y xs ys above above' (inr later) (inl same) = same
  heads x y xs ys above above' (inr later) (inr later') =
      absurd (not_below_itself x (o.trans x y x (at_member (λ z. c x z ≡ Less) xs y above later') (at_member (λ z. c y z ≡ Less) ys x above' later)))

  tail_member : (x y z : K) (xs ys : List K) → AllByRecursion (λ z. c x z ≡ Less) xs → x ≡ y → Contains xs z → (y ≡ z) ⊎ Contains ys z → Contains ys z
  tail_member x y z xs ys above same has (inl here) = absurd (not_below_itself x (ap (c x) (same ∙ here) ∙ at_member (λ w. c x w ≡ Less) xs z above has))
  tail_member x y z xs ys above same has (inr there) = there

  pub same_sorted : (xs ys : List K) → IsStrictlySortedBy c xs → IsStrictlySortedBy c ys → ((z : K) → Contains xs z → Contains ys z) → ((z : K) → Contains ys z → Contains xs z) → xs ≡ ys
  unfolding IsStrictlySortedBy
  same_sorted [] [] sorted sorted' there back = refl
  same_sorted [] (y ∷ ys) sorted sorted' there back = absurd (no_member y (back y (first_member y ys)))
  same_sorted (x ∷ xs) [] sorted sorted' there back = absurd (no_member x (there x (first_member x xs)))
  same_sorted (x ∷ xs) (y ∷ ys) sorted sorted' there back =
      let head = heads x y xs ys sorted.0 sorted'.0 (member_cases y ys x (there x (first_member x xs))) (member_cases x xs y (back y (first_member y ys))) in
      let tail = same_sorted xs ys sorted.1 sorted'.1
      (λ z has. tail_member x y z xs ys sorted.0 head has (member_cases y ys z (there z (later_member x xs z has))))
      (λ z has. tail_member y x z ys xs sorted'.0 (sym head) has (member_cases x xs z (back z (later_member y ys z has)))) in
      λ i. head i ∷ tail i

-- the different endings of a list, ascending, are one list
pub different_once : (all one two : List Ending) → AreDifferent all one → AreDifferent all two → one ≡ two
different_once all one two first second =
    same_sorted ending_cmp ending_total one two first.ascending second.ascending (λ ending has. second.every ending (first.within ending has))
    (λ ending has. first.every ending (second.within ending has))

-- they have all that runs come to, where the list does
pub different_every : (parts : Parts) (all some : List Ending) → HasEvery parts all → AreDifferent all some → HasEvery parts some
different_every parts all some every is ending comes = is.every ending (every ending comes)
