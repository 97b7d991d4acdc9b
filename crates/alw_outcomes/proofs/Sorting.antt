-- One of each different key, from numbers that are sorted by their keys.
use Rattle.std.proofs.Common.{◌≡◌, ◌≢◌, ℕ, zero, suc, ◌+◌, ◌-◌, ◌<◌, ◌≤◌, ◌⊎◌, inl, inr, Bool, true, false, not, nat_eq, Some, List, [], ◌∷◌, ◌++◌, length, map, slice_index_or, refl, sym, ap, ◌∙◌, subst, arith}
use Rattle.std.specs.List.{slice_get, Contains, AllByRecursion}
use Rattle.std.specs.List.Sorted.{IsStrictlySortedBy, IsPermutation}
use Rattle.std.specs.declared.cmp.Ordering.{Ordering}
use Rattle.std.specs.declared.cmp.Ordering.TheVariants.{Less, Equal, Greater}
use Rattle.std.specs.Ordering.{is_lt, nat_cmp, ordering_then, ordering_reverse}
use Rattle.std.specs.Cmp.{IsTotalOrder}
use Rattle.std.specs.Cmp.Lexicographic.{pointwise, bytes_decides}
use Rattle.std.specs.FinMap.{slice_cmp-IsAntisymmetric, nat_cmp-IsAntisymmetric}
use Rattle.std.proofs.lemmas.Cmp.{nat_list_cmp_total}
use Rattle.std.proofs.lemmas.Bool.{false≢true, cases_lt}
use Rattle.std.proofs.lemmas.Option.{slice_get_within, slice_get-get_or, get_or_from_slice_get}
use Rattle.std.proofs.lemmas.List.{map-append, get_or-map, length-map}
use Rattle.std.proofs.lemmas.List.Elements.{Contains-append_left, Contains-push, Contains-push_cases}
use Rattle.std.proofs.lemmas.List.Sorted.{Contains-permutation, IsPermutation-sym}
use Rattle.alw_outcomes.specs.declared.endings.Keyed.{Keyed}
use Rattle.alw_outcomes.specs.Endings.{list_cmp}
use Rattle.alw_outcomes.specs.Keys.{numbers_of, AreKeyed, IsUpTo, IsRising, IsNew, SortIsUnderWay, AreOneOfEach}
use Rattle.alw_outcomes.proofs.Pooling.{get_read}
use Rattle.alw_outcomes.proofs.Steps.{some_member}

-- ---- members

pub contains_map : {A B : Type 0} (f : A → B) (xs : List A) (x : A) → Contains xs x → Contains (map f xs) (f x)
contains_map f xs x (k, less, e) = (k, omega (arith, less, length-map xs f), get_or-map f xs k x (f x) less ∙ ap f e)

pub from_map : {A B : Type 0} (f : A → B) (xs : List A) (y : B) → Contains (map f xs) y → (x : A) × (Contains xs x × (f x ≡ y))
from_map f [] y (k, less, e) = absurd (omega arith)
from_map f (x ∷ xs) y (zero, less, e) = (x, ((zero, omega arith, refl), e))
from_map f (x ∷ xs) y (suc k, less, e) = let r = from_map f xs y (k, omega (arith, less), e) in (r.0, ((suc r.1.0.0, (let l = r.1.0.1 in omega (arith, l)), r.1.0.2), r.1.1))

pub contains_get : {A : Type 0} (xs : List A) (k : ℕ) (x : A) → slice_get xs k ≡ Some x → Contains xs x
contains_get xs k x e = (k, slice_get_within xs k x e, get_or_from_slice_get xs k x x e)

pub get_contained : {A : Type 0} (xs : List A) (x : A) → Contains xs x → (k : ℕ) × (slice_get xs k ≡ Some x)
get_contained xs x (k, less, e) = (k, slice_get-get_or xs k x less ∙ ap (λ y. Some y) e)

-- ---- strictly sorted lists

module _ {K : Type 0} (c : K → K → Ordering) (o : IsTotalOrder c) where
  below_all : (ys : List K) (w z : K) → AllByRecursion (λ y. (c y w ≡ Less) ⊎ (y ≡ w)) ys → c w z ≡ Less → AllByRecursion (λ y. c y z ≡ Less) ys
  below_all [] w z all less = tt
  below_all (y ∷ ys) w z all less = (go all.0, below_all ys w z all.1 less)
    where
      go : (c y w ≡ Less) ⊎ (y ≡ w) → c y z ≡ Less
      go (inl l) = o.trans y w z l less
      go (inr e) = ap (λ (k : K). c k z) e ∙ less

  up_all : (ys : List K) (z : K) → AllByRecursion (λ y. c y z ≡ Less) ys → AllByRecursion (λ y. (c y z ≡ Less) ⊎ (y ≡ z)) (ys ++ z ∷ [])
  up_all [] z all = (inr refl, tt)
  up_all (y ∷ ys) z all = (inl all.0, up_all ys z all.1)

  all_push : (P : K → Type 0) (ys : List K) (z : K) → AllByRecursion P ys → P z → AllByRecursion P (ys ++ z ∷ [])
  all_push P [] z all here = (here, tt)
  all_push P (y ∷ ys) z all here = (all.0, all_push P ys z all.1 here)

  sorted_push : (ys : List K) (z : K) → IsStrictlySortedBy c ys → AllByRecursion (λ y. c y z ≡ Less) ys → IsStrictlySortedBy c (ys ++ z ∷ [])
  unfolding IsStrictlySortedBy
  sorted_push [] z sorted all = (tt, tt)
  sorted_push (y ∷ ys) z sorted all = (all_push (λ x. c y x ≡ Less) ys z sorted.0 all.0, sorted_push ys z sorted.1 all.1)

-- ---- the walk along a sorted list

up_by : (one two : List ℕ) (rest r : Ordering) → list_cmp two one ≡ r → is_lt (ordering_then r rest) ≡ false → (list_cmp one two ≡ Less) ⊎ (one ≡ two)
up_by one two rest Less e not_less = absurd (false≢true (sym not_less))
up_by one two rest Equal e not_less = inr (sym (slice_cmp-IsAntisymmetric nat_cmp-IsAntisymmetric two one e))
up_by one two rest Greater e not_less = inl (nat_list_cmp_total.antisymm one two ∙ ap ordering_reverse e)

pub rising : (sorted : List Keyed)
    →
    ((k : ℕ) (d : Keyed) → 0 ≤ k → k + 1 < length sorted → is_lt (ordering_then (list_cmp (slice_index_or sorted (k + 1) d).key.items (slice_index_or sorted k d).key.items)
    (nat_cmp (slice_index_or sorted (k + 1) d).number (slice_index_or sorted k d).number)) ≡ false)
    → IsRising sorted
rising sorted is k one two e f =
    let next : suc k ≡ k + 1 = omega arith in
    let here = get_or_from_slice_get sorted k one one e in
    let there = get_or_from_slice_get sorted (k + 1) two one (ap (slice_get sorted) (sym next) ∙ f) in
    let not_less = is k one (omega arith) (let w = slice_get_within sorted (suc k) two f in omega (arith, w)) in
    up_by one.key.items two.key.items (nat_cmp two.number one.number) (list_cmp two.key.items one.key.items) refl
    ((λ i. is_lt (ordering_then (list_cmp (sym there i).key.items (sym here i).key.items) (nat_cmp (sym there i).number (sym here i).number))) ∙ not_less)

pub way_none : (key : ℕ → List ℕ) (sorted : List Keyed) (kept : List ℕ) → kept ≡ [] → SortIsUnderWay key sorted 0 kept
unfolding IsStrictlySortedBy
way_none key sorted kept empty = subst (SortIsUnderWay key sorted 0) (sym empty) (record {
  within = λ n has. absurd (let l = has.1 in omega arith);
  every = λ k one less e. absurd (omega arith);
  ascending = tt;
  none = λ _. refl;
  last = λ k one e there. absurd (omega (arith, e));
})

module _ (key : ℕ → List ℕ) (sorted : List Keyed) (past : ℕ) (kept : List ℕ) (one : Keyed) (keyed : AreKeyed key sorted) (rises : IsRising sorted) (is : SortIsUnderWay key sorted past kept)
    (here : slice_get sorted past ≡ Some one) where
  key_is : (k : ℕ) (x : Keyed) → slice_get sorted k ≡ Some x → x.key.items ≡ key x.number
  key_is k x e = keyed x (contains_get sorted k x e)

  same_one : (x : Keyed) (k : ℕ) → k ≡ past → slice_get sorted k ≡ Some x → one ≡ x
  same_one x k same e = some_is one x (sym here ∙ ap (slice_get sorted) (sym same) ∙ e)
    where
      some_is : (x y : Keyed) → Some x ≡ Some y → x ≡ y
      some_is x y f = cc

  Below : Type 0
  Below = AllByRecursion (λ y. list_cmp y (key one.number) ≡ Less) (map key kept)

  below_none : past ≡ 0 → Below
  unfolding Below
  below_none first = subst (λ (l : List ℕ). AllByRecursion (λ y. list_cmp y (key one.number) ≡ Less) (map key l)) (sym (is.none first)) tt

  below_last : (k : ℕ) (before : Keyed) → past ≡ suc k → slice_get sorted k ≡ Some before → before.key.items ≢ one.key.items → Below
  unfolding Below
  below_last k before next e other = go (rises k before one e (ap (slice_get sorted) (sym next) ∙ here))
    where
      go : (list_cmp before.key.items one.key.items ≡ Less) ⊎ (before.key.items ≡ one.key.items) → Below
      go (inl less) =
          below_all list_cmp nat_list_cmp_total (map key kept) (key before.number) (key one.number) (is.last k before next e)
          ((λ i. list_cmp (sym (key_is k before e) i) (sym (key_is past one here) i)) ∙ less)
      go (inr same) = absurd (other same)

  at_past : (k : ℕ) (x : Keyed) → k < past + 1 → (k < past → Contains (map key kept) (key x.number)) → (k ≡ past → Contains (map key kept) (key x.number)) → Contains (map key kept) (key x.number)
  at_past k x less earlier last = go (cases_lt k past)
    where
      go : (k < past) ⊎ (past ≤ k) → Contains (map key kept) (key x.number)
      go (inl l) = earlier l
      go (inr l) = last (omega arith)

  pub way_same : (k : ℕ) (before : Keyed) → past ≡ suc k → slice_get sorted k ≡ Some before → before.key.items ≡ one.key.items → SortIsUnderWay key sorted (past + 1) kept
  way_same k before next e same =
      let keys : key before.number ≡ key one.number = sym (key_is k before e) ∙ same ∙ key_is past one here in
      record {
        within = is.within;
        every =
            λ j x less f. at_past j x less (λ l. is.every j x l f) (λ last. subst (Contains (map key kept)) (keys ∙ ap (λ (y : Keyed). key y.number) (same_one x j last f))
            (is.every k before (omega arith) e));
        ascending = is.ascending;
        none = λ zero_is. absurd (omega (arith, zero_is));
        last =
            λ j x is_suc f. subst (λ (n : List ℕ). AllByRecursion (λ y. IsUpTo y n) (map key kept)) (keys ∙ ap (λ (y : Keyed). key y.number) (same_one x j (omega (arith, is_suc)) f))
            (is.last k before next e);
      }

  way_push : Below → SortIsUnderWay key sorted (past + 1) (kept ++ one.number ∷ [])
  unfolding Below
  way_push below =
      let pushed : map key (kept ++ one.number ∷ []) ≡ map key kept ++ key one.number ∷ [] = map-append key kept (one.number ∷ []) in
      record {
        within = λ n has. kept_or n (Contains-push_cases kept one.number n has);
        every = λ j x less f. subst (λ (l : List (List ℕ)). Contains l (key x.number)) (sym pushed) (there j x less f (cases_lt j past));
        ascending = subst (IsStrictlySortedBy list_cmp) (sym pushed) (sorted_push list_cmp nat_list_cmp_total (map key kept) (key one.number) is.ascending below);
        none = λ zero_is. absurd (omega (arith, zero_is));
        last = λ j x is_suc f.
            let same : key one.number ≡ key x.number = ap (λ (y : Keyed). key y.number) (same_one x j (omega (arith, is_suc)) f) in
            subst (λ (l : List (List ℕ)). AllByRecursion (λ y. IsUpTo y (key x.number)) l) (sym pushed)
            (subst (λ (n : List ℕ). AllByRecursion (λ y. IsUpTo y n) (map key kept ++ key one.number ∷ [])) same (up_all list_cmp nat_list_cmp_total (map key kept) (key one.number) below));
      }
    where
      kept_or : (n : ℕ) → Contains kept n ⊎ (one.number ≡ n) → Contains (numbers_of sorted) n
      kept_or n (inl old) = is.within n old
      kept_or n (inr new) = subst (Contains (numbers_of sorted)) new (contains_map (λ (x : Keyed). x.number) sorted one (contains_get sorted past one here))

      there : (j : ℕ) (x : Keyed) → j < past + 1 → slice_get sorted j ≡ Some x → (j < past) ⊎ (past ≤ j) → Contains (map key kept ++ key one.number ∷ []) (key x.number)
      there j x less f (inl earlier) = Contains-append_left (map key kept) (key one.number ∷ []) (key x.number) (is.every j x earlier f)
      there j x less f (inr late) =
          subst (Contains (map key kept ++ key one.number ∷ [])) (ap (λ (y : Keyed). key y.number) (same_one x j (omega arith) f)) (Contains-push (map key kept) (key one.number))

  pub way_first : past ≡ 0 → SortIsUnderWay key sorted (past + 1) (kept ++ one.number ∷ [])
  way_first first = way_push (below_none first)

  pub way_other : (k : ℕ) (before : Keyed) → past ≡ suc k → slice_get sorted k ≡ Some before → before.key.items ≢ one.key.items → SortIsUnderWay key sorted (past + 1) (kept ++ one.number ∷ [])
  way_other k before next e other = way_push (below_last k before next e other)

  pub way_new : IsNew sorted past true → SortIsUnderWay key sorted (past + 1) (kept ++ one.number ∷ [])
  way_new new = go past refl
    where
      go : (n : ℕ) → past ≡ n → SortIsUnderWay key sorted (past + 1) (kept ++ one.number ∷ [])
      go zero e = way_first e
      go (suc k) e = let b = some_member sorted k (let w = slice_get_within sorted past one here in omega (arith, w, e)) in way_other k b.0 e b.1 (λ same. new k b.0 one e b.1 here same)

  pub way_again : IsNew sorted past false → SortIsUnderWay key sorted (past + 1) kept
  way_again again = go past refl
    where
      go : (n : ℕ) → past ≡ n → SortIsUnderWay key sorted (past + 1) kept
      go zero e = absurd (let some = again.0 in omega (arith, some, e))
      go (suc k) e = let b = some_member sorted k (let w = slice_get_within sorted past one here in omega (arith, w, e)) in way_same k b.0 e b.1 (again.1 k b.0 one e b.1 here)

-- the same, as code reads the list
pub way_kept : (key : ℕ → List ℕ) (sorted : List Keyed) (past : ℕ) (kept after : List ℕ) (one : Keyed) → AreKeyed key sorted → IsRising sorted → SortIsUnderWay key sorted past kept
    → past < length sorted
    → one ≡ slice_index_or sorted past one → IsNew sorted past true → after ≡ kept ++ one.number ∷ [] → SortIsUnderWay key sorted (past + 1) after
way_kept key sorted past kept after one keyed rises is less read new pushed =
    subst (SortIsUnderWay key sorted (past + 1)) (sym pushed) (way_new key sorted past kept one keyed rises is (get_read sorted past one less read) new)

pub way_left : (key : ℕ → List ℕ) (sorted : List Keyed) (past : ℕ) (kept : List ℕ) → AreKeyed key sorted → IsRising sorted → SortIsUnderWay key sorted past kept → past < length sorted
    → IsNew sorted past false → SortIsUnderWay key sorted (past + 1) kept
way_left key sorted past kept keyed rises is less again = let m = some_member sorted past less in way_again key sorted past kept m.0 keyed rises is m.1 again

pub keyed_sorted : (key : ℕ → List ℕ) (all sorted : List Keyed) → IsPermutation all sorted → AreKeyed key all → AreKeyed key sorted
keyed_sorted key all sorted moved keyed one has = keyed one (Contains-permutation sorted all one (IsPermutation-sym all sorted moved) has)

-- at the end of the list
pub way_all : (key : ℕ → List ℕ) (all sorted : List Keyed) (past : ℕ) (kept : List ℕ) → IsPermutation all sorted → length sorted ≤ past → AreKeyed key all → SortIsUnderWay key sorted past kept
    → AreOneOfEach key (numbers_of all) kept
way_all key all sorted past kept moved long keyed is = record {
  within = λ n has.
      let from = from_map (λ (x : Keyed). x.number) sorted n (is.within n has) in
      subst (Contains (numbers_of all)) from.1.1 (contains_map (λ (x : Keyed). x.number) all from.0 (Contains-permutation sorted all from.0 (IsPermutation-sym all sorted moved) from.1.0));
  every = λ n has.
      let from = from_map (λ (x : Keyed). x.number) all n has in
      let there = get_contained sorted from.0 (Contains-permutation all sorted from.0 moved from.1.0) in
      subst (λ (m : ℕ). Contains (map key kept) (key m)) from.1.1 (is.every there.0 from.0 (let w = slice_get_within sorted there.0 from.0 there.1 in omega (arith, w, long)) there.1);
  ascending = is.ascending;
}

-- ---- numbers with their keys

pub keyed_none : (key : ℕ → List ℕ) (keyed : List Keyed) → keyed ≡ [] → AreKeyed key keyed
keyed_none key keyed empty one has = absurd (let l = has.1 in let e = ap length empty in omega (arith, l, e))

pub keyed_more : (key : ℕ → List ℕ) (keyed after : List Keyed) (one : Keyed) → AreKeyed key keyed → one.key.items ≡ key one.number → after ≡ keyed ++ one ∷ [] → AreKeyed key after
keyed_more key keyed after one are is pushed other has = go (Contains-push_cases keyed one other (subst (λ (l : List Keyed). Contains l other) pushed has))
  where
    go : Contains keyed other ⊎ (one ≡ other) → other.key.items ≡ key other.number
    go (inl old) = are other old
    go (inr new) = subst (λ (x : Keyed). x.key.items ≡ key x.number) new is

pub numbers_more : (keyed after : List Keyed) (one : Keyed) → after ≡ keyed ++ one ∷ [] → numbers_of after ≡ numbers_of keyed ++ one.number ∷ []
numbers_more keyed after one pushed = ap numbers_of pushed ∙ map-append (λ (x : Keyed). x.number) keyed (one ∷ [])

-- a comparison of two keys says whether the second is new
pub new_by : (keyed : List Keyed) (i : ℕ) (before here : Keyed) (r : Bool) → (i ≡ 0 → ⊥) → i < length keyed → before ≡ slice_index_or keyed (i - 1) before → here ≡ slice_index_or keyed i here
    → r ≡ not (pointwise nat_eq before.key.items here.key.items) → IsNew keyed i r
new_by keyed i before here r some less read read' is = go (pointwise nat_eq before.key.items here.key.items) refl
  where
    there : slice_get keyed (i - 1) ≡ Some before
    there = get_read keyed (i - 1) before (omega arith) read

    there' : slice_get keyed i ≡ Some here
    there' = get_read keyed i here less read'

    some_same : (x y : Keyed) → Some x ≡ Some y → x ≡ y
    some_same x y f = cc

    first : (k : ℕ) (one : Keyed) → i ≡ suc k → slice_get keyed k ≡ Some one → before ≡ one
    first k one next e = let back : k ≡ i - 1 = omega arith in some_same before one (sym there ∙ ap (slice_get keyed) (sym back) ∙ e)

    second : (two : Keyed) → slice_get keyed i ≡ Some two → here ≡ two
    second two f = some_same here two (sym there' ∙ f)

    go : (b : Bool) → pointwise nat_eq before.key.items here.key.items ≡ b → IsNew keyed i r
    go true e =
        subst (IsNew keyed i) (sym (is ∙ ap not e))
        (positive, λ k one two next f g. (λ j. (sym (first k one next f) j).key.items) ∙ (bytes_decides before.key.items here.key.items).0 e ∙ (λ j. (second two g j).key.items))
      where
        positive : 0 < i
        positive = omega arith
    go false e =
        subst (IsNew keyed i) (sym (is ∙ ap not e))
        (λ k one two next f g same. false≢true (sym e ∙ (bytes_decides before.key.items here.key.items).1 ((λ j. (first k one next f j).key.items) ∙ same ∙ (λ j. (sym (second two g) j).key.items))))
