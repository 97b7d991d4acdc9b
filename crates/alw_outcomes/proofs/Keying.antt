-- The order of keys is the order of endings.
use Rattle.std.proofs.Common.{◌≡◌, ℕ, suc, ◌+◌, ◌<◌, ◌⊎◌, inl, inr, List, [], ◌∷◌, ◌++◌, length, map, take, slice_index_or, refl, sym, ap, ◌∙◌, subst, arith, append_assoc}
use Rattle.std.specs.List.{Contains, AllByRecursion, range_with_len}
use Rattle.std.specs.List.Sorted.{IsStrictlySortedBy}
use Rattle.std.specs.declared.cmp.Ordering.{Ordering}
use Rattle.std.specs.declared.cmp.Ordering.TheVariants.{Less, Equal, Greater}
use Rattle.std.specs.Ordering.{is_eq, nat_cmp, ordering_then}
use Rattle.std.specs.Cmp.Lexicographic.{slice_cmp}
use Rattle.std.specs.FinMap.{IsAntisymmetric, slice_cmp-IsAntisymmetric, nat_cmp-IsAntisymmetric}
use Rattle.std.proofs.lemmas.Cmp.{nat_list_cmp_total, tied_itself}
use Rattle.std.proofs.lemmas.Bool.Decides.{nat_tests}
use Rattle.std.proofs.lemmas.Option.{slice_get_within, slice_get-get_or, get_or_from_slice_get}
use Rattle.std.proofs.lemmas.List.FromFn.{length-range_with_len, get_or-range_with_len}
use Rattle.std.proofs.lemmas.List.{take_more}
use Rattle.std.proofs.lemmas.List.Elements.{Contains-append_left, Contains-append_right, Contains-append_cases}
use Rattle.alw_image.specs.declared.parts.Parts.{Parts}
use Rattle.alw_image.specs.Images.{context_count, line_count}
use Rattle.alw_places.specs.Places.{Place}
use Rattle.alw_places.specs.Outcomes.{Ending, Halts, Traps}
use Rattle.alw_outcomes.specs.declared.explored.Trapped.{Trapped}
use Rattle.alw_outcomes.specs.declared.endings.Endings.{Endings}
use Rattle.alw_outcomes.specs.Explored.{Found, IsReal, no_place, halt_of, trap_of, endings_in}
use Rattle.alw_outcomes.specs.Endings.{list_cmp, memory_words, word_cmp, ending_cmp, halt_at, told_in, AreDifferent}
use Rattle.alw_outcomes.specs.Keys.{prints_key, words_key, place_key, end_key, no_turn, turn_key, trap_key, AreOneOfEach}
use Rattle.alw_outcomes.proofs.Finding.{sizes_found}
use Rattle.alw_outcomes.proofs.MemoryWords.{memory_told}
use Rattle.alw_outcomes.proofs.Sorting.{contains_map, from_map, contains_get, get_contained}

-- ---- orders one after the other

then_then : (a b c : Ordering) → ordering_then a (ordering_then b c) ≡ ordering_then (ordering_then a b) c
then_then Less b c = refl
then_then Equal b c = refl
then_then Greater b c = refl

pub then_Equal : (a : Ordering) → ordering_then a Equal ≡ a
then_Equal Less = refl
then_Equal Equal = refl
then_Equal Greater = refl

both_Equal : (a b : Ordering) → ordering_then a b ≡ Equal → (a ≡ Equal) × (b ≡ Equal)
both_Equal Less b e = absurd (let f = ap is_eq e in cc)
both_Equal Equal b e = (refl, e)
both_Equal Greater b e = absurd (let f = ap is_eq e in cc)

suc_cmp : (x y : ℕ) → nat_cmp (suc x) (suc y) ≡ nat_cmp x y
suc_cmp x y = grind (arith, nat_tests)

zero_cmp : (y : ℕ) → nat_cmp 0 (suc y) ≡ Less
zero_cmp y = grind (arith, nat_tests)

cmp_zero : (x : ℕ) → nat_cmp (suc x) 0 ≡ Greater
cmp_zero x = grind (arith, nat_tests)

-- ---- prints

words_cmp : (xs ys r s : List ℕ) → list_cmp (map suc xs ++ 0 ∷ r) (map suc ys ++ 0 ∷ s) ≡ ordering_then (list_cmp xs ys) (list_cmp r s)
words_cmp [] [] r s = refl
words_cmp [] (y ∷ ys) r s = ap (λ (o : Ordering). ordering_then o (list_cmp r (map suc ys ++ 0 ∷ s))) (zero_cmp y)
words_cmp (x ∷ xs) [] r s = ap (λ (o : Ordering). ordering_then o (list_cmp (map suc xs ++ 0 ∷ r) s)) (cmp_zero x)
words_cmp (x ∷ xs) (y ∷ ys) r s = (λ i. ordering_then (suc_cmp x y i) (words_cmp xs ys r s i)) ∙ then_then (nat_cmp x y) (list_cmp xs ys) (list_cmp r s)

prints_cmp : (xs ys : List (List ℕ)) (r s : List ℕ) → length xs ≡ length ys → list_cmp (prints_key xs ++ r) (prints_key ys ++ s) ≡ ordering_then (slice_cmp list_cmp xs ys) (list_cmp r s)
prints_cmp [] [] r s e = refl
prints_cmp [] (y ∷ ys) r s e = absurd (omega (arith, e))
prints_cmp (x ∷ xs) [] r s e = absurd (omega (arith, e))
prints_cmp (x ∷ xs) (y ∷ ys) r s e =
    (λ i. list_cmp (append_assoc (map suc x) (0 ∷ prints_key xs) r i) (append_assoc (map suc y) (0 ∷ prints_key ys) s i))
    ∙ words_cmp x y (prints_key xs ++ r) (prints_key ys ++ s)
    ∙ ap (ordering_then (list_cmp x y)) (prints_cmp xs ys r s (omega (arith, e)))
    ∙ then_then (list_cmp x y) (slice_cmp list_cmp xs ys) (list_cmp r s)

-- ---- memory

memory_key_cmp : (xs ys : List (ℕ × ℕ)) → list_cmp (words_key xs) (words_key ys) ≡ slice_cmp word_cmp xs ys
memory_key_cmp [] [] = refl
memory_key_cmp [] (y ∷ ys) = refl
memory_key_cmp (x ∷ xs) [] = refl
memory_key_cmp (x ∷ xs) (y ∷ ys) =
    ap (λ (o : Ordering). ordering_then (nat_cmp x.0 y.0) (ordering_then (nat_cmp x.1 y.1) o)) (memory_key_cmp xs ys)
    ∙ then_then (nat_cmp x.0 y.0) (nat_cmp x.1 y.1) (slice_cmp word_cmp xs ys)

word_cmp-IsAntisymmetric : IsAntisymmetric word_cmp
word_cmp-IsAntisymmetric x y e =
    let ties = both_Equal (nat_cmp x.0 y.0) (nat_cmp x.1 y.1) e in
    let address = nat_cmp-IsAntisymmetric x.0 y.0 ties.0 in
    let word = nat_cmp-IsAntisymmetric x.1 y.1 ties.1 in
    λ i. (address i, word i)

-- ---- places

place_cmp : (p q : Place) → length p.printed ≡ length q.printed → list_cmp (place_key p) (place_key q) ≡ ending_cmp (halt_of p) (halt_of q)
place_cmp p q e =
    prints_cmp p.printed q.printed (words_key (memory_words p.flat.memory)) (words_key (memory_words q.flat.memory)) e
    ∙ ap (ordering_then (slice_cmp list_cmp p.printed q.printed)) (memory_key_cmp (memory_words p.flat.memory) (memory_words q.flat.memory))

place_same : (p q : Place) → length p.printed ≡ length q.printed → length p.flat.memory ≡ length q.flat.memory → place_key p ≡ place_key q → halt_of p ≡ halt_of q
place_same p q e lines same =
    let tie : ending_cmp (halt_of p) (halt_of q) ≡ Equal = sym (place_cmp p q e) ∙ ap (list_cmp (place_key p)) (sym same) ∙ tied_itself nat_list_cmp_total (place_key p) in
    let ties = both_Equal _ _ tie in
    let printed = slice_cmp-IsAntisymmetric (slice_cmp-IsAntisymmetric nat_cmp-IsAntisymmetric) p.printed q.printed ties.0 in
    let memory = memory_told p.flat.memory q.flat.memory lines (slice_cmp-IsAntisymmetric word_cmp-IsAntisymmetric (memory_words p.flat.memory) (memory_words q.flat.memory) ties.1) in
    λ i. Halts (printed i) (memory i)

turn_cmp : (t u : Trapped) → list_cmp (turn_key t) (turn_key u) ≡ ending_cmp (trap_of t) (trap_of u)
turn_cmp t u = ap (λ (o : Ordering). ordering_then (nat_cmp t.context u.context) (ordering_then (nat_cmp t.pc u.pc) o)) (then_Equal (nat_cmp t.tt u.tt))

turn_same : (t u : Trapped) → turn_key t ≡ turn_key u → trap_of t ≡ trap_of u
turn_same t u e =
    let at = λ (k : ℕ). ap (λ (l : List ℕ). slice_index_or l k 0) e in
    let context : t.context ≡ u.context = at 0 in
    let pc : t.pc ≡ u.pc = at 1 in
    let type : t.tt ≡ u.tt = at 2 in
    λ i. Traps (context i) (pc i) (type i)

-- ---- keys as code makes them

prints_append : (xs ys : List (List ℕ)) → prints_key (xs ++ ys) ≡ prints_key xs ++ prints_key ys
prints_append [] ys = refl
prints_append (x ∷ xs) ys = ap (λ (l : List ℕ). map suc x ++ 0 ∷ l) (prints_append xs ys) ∙ sym (append_assoc (map suc x) (0 ∷ prints_key xs) (prints_key ys))

pub prints_more : (key after words : List ℕ) (printed : List (List ℕ)) (k : ℕ) → k < length printed → key ≡ prints_key (take k printed) → words ≡ slice_index_or printed k []
    → after ≡ key ++ (map suc words ++ 0 ∷ []) → after ≡ prints_key (take (k + 1) printed)
prints_more key after words printed k less is words_are pushed =
    let none : List ℕ = [] in
    pushed
    ∙ (λ i. is i ++ (map suc (words_are i) ++ 0 ∷ []))
    ∙ sym (prints_append (take k printed) (slice_index_or printed k none ∷ []))
    ∙ ap prints_key (sym (take_more printed k none less))

-- ---- strictly sorted lists

module _ {A B C : Type 0} (c : B → B → Ordering) (d : C → C → Ordering) (f : A → B) (g : A → C) (Good : A → Type 0) (agree : (x y : A) → Good x → Good y → c (f x) (f y) ≡ d (g x) (g y)) where
  all_agree : (x : A) (xs : List A) → Good x → AllByRecursion Good xs → AllByRecursion (λ y. c (f x) y ≡ Less) (map f xs) → AllByRecursion (λ y. d (g x) y ≡ Less) (map g xs)
  all_agree x [] good all less = tt
  all_agree x (y ∷ ys) good all less = (sym (agree x y good all.0) ∙ less.0, all_agree x ys good all.1 less.1)

  sorted_agree : (xs : List A) → AllByRecursion Good xs → IsStrictlySortedBy c (map f xs) → IsStrictlySortedBy d (map g xs)
  unfolding IsStrictlySortedBy
  sorted_agree [] all sorted = tt
  sorted_agree (x ∷ xs) all sorted = (all_agree x xs all.0 all.1 sorted.0, sorted_agree xs all.1 sorted.1)

all_append : {A : Type 0} (P : A → Type 0) (xs ys : List A) → AllByRecursion P xs → AllByRecursion P ys → AllByRecursion P (xs ++ ys)
all_append P [] ys one two = two
all_append P (x ∷ xs) ys one two = (one.0, all_append P xs ys one.1 two)

sorted_append : {A : Type 0} (c : A → A → Ordering) (xs ys : List A) → IsStrictlySortedBy c xs → IsStrictlySortedBy c ys → AllByRecursion (λ x. AllByRecursion (λ y. c x y ≡ Less) ys) xs
    → IsStrictlySortedBy c (xs ++ ys)
unfolding IsStrictlySortedBy
sorted_append c [] ys one two before = two
sorted_append c (x ∷ xs) ys one two before = (all_append (λ y. c x y ≡ Less) xs ys one.0 before.0, sorted_append c xs ys one.1 two before.1)

all_by : {A : Type 0} (P : A → Type 0) (xs : List A) → ((x : A) → Contains xs x → P x) → AllByRecursion P xs
all_by P [] each = tt
all_by P (x ∷ xs) each = (each x (0, omega arith, refl), all_by P xs (λ y has. each y (suc has.0, (let l = has.1 in omega (arith, l)), has.2)))

ends_first : (found : Found) (ends : List ℕ) (traps : List Trapped) → AllByRecursion (λ x. AllByRecursion (λ y. ending_cmp x y ≡ Less) (map trap_of traps)) (map (halt_at found) ends)
ends_first found [] traps = tt
ends_first found (at ∷ ends) traps = (before traps, ends_first found ends traps)
  where
    before : (turns : List Trapped) → AllByRecursion (λ y. ending_cmp (halt_at found at) y ≡ Less) (map trap_of turns)
    before [] = tt
    before (turn ∷ turns) = (refl, before turns)

-- ---- what is told

pub count_below : (trapped : List Trapped) (turns : List ℕ) → AreOneOfEach (trap_key trapped) (range_with_len 0 (length trapped)) turns → (k : ℕ) → Contains turns k → k < length trapped
count_below trapped turns each k has =
    let in_range = each.within k has in
    let long = length-range_with_len 0 (length trapped) in
    let l = in_range.1 in
    let is = get_or-range_with_len 0 (length trapped) in_range.0 k (omega (arith, l, long)) in
    let e = in_range.2 in
    omega (arith, l, long, is, e)

record HasAll (parts : Parts) (found : Found) (at : ℕ) : Type 0 where
  prints : length (slice_index_or found.places at no_place).printed ≡ context_count parts
  lines : length (slice_index_or found.places at no_place).flat.memory ≡ line_count parts

module _ (parts : Parts) (found : Found) (endings : Endings) (turns : List ℕ) (real : IsReal parts found) (ends : AreOneOfEach (end_key found) found.halted endings.ends.items)
    (traps : AreOneOfEach (trap_key found.trapped) (range_with_len 0 (length found.trapped)) turns)
    (turns_are : endings.traps.items ≡ map (λ (k : ℕ). slice_index_or found.trapped k no_turn) turns) where
  all_of : (at : ℕ) → Contains found.halted at → HasAll parts found at
  all_of at has =
      let there = get_contained found.halted at has in
      let is = real.halted there.0 at there.1 in
      let sizes = sizes_found parts found real at is.place is.there in
      let here = get_or_from_slice_get found.places at is.place no_place is.there in
      record { prints = ap (λ (p : Place). length p.printed) here ∙ sizes.printed; lines = ap (λ (p : Place). length p.flat.memory) here ∙ sizes.memory }

  same_prints : (at other : ℕ) → HasAll parts found at → HasAll parts found other
      → length (slice_index_or found.places at no_place).printed ≡ length (slice_index_or found.places other no_place).printed
  same_prints at other one two = one.prints ∙ sym two.prints

  same_lines : (at other : ℕ) → HasAll parts found at → HasAll parts found other
      → length (slice_index_or found.places at no_place).flat.memory ≡ length (slice_index_or found.places other no_place).flat.memory
  same_lines at other one two = one.lines ∙ sym two.lines

  turn_at : ℕ → Trapped
  turn_at k = slice_index_or found.trapped k no_turn

  turn_listed : (k : ℕ) → k < length found.trapped → Contains found.trapped (turn_at k)
  unfolding turn_at
  turn_listed k less = contains_get found.trapped k _ (slice_get-get_or found.trapped k no_turn less)

  below_count : (k : ℕ) → Contains turns k → k < length found.trapped
  below_count = count_below found.trapped turns traps

  numbered : (k : ℕ) → k < length found.trapped → Contains (range_with_len 0 (length found.trapped)) k
  numbered k less = (k, omega (arith, length-range_with_len 0 (length found.trapped)), get_or-range_with_len 0 (length found.trapped) k k less ∙ zero_more)
    where
      zero_more : 0 + k ≡ k
      zero_more = omega arith

  pub traps_listed : (turn : Trapped) → Contains endings.traps.items turn → Contains found.trapped turn
  unfolding turn_at
  traps_listed turn has =
      let from = from_map turn_at turns turn (subst (λ (l : List Trapped). Contains l turn) turns_are has) in
      subst (Contains found.trapped) from.1.1 (turn_listed from.0 (below_count from.0 from.1.0))

  halts_in : List Ending
  halts_in = map (λ at. halt_of (slice_index_or found.places at no_place)) found.halted

  within : (ending : Ending) → Contains (told_in found endings) ending → Contains (endings_in found) ending
  unfolding halts_in
  within ending has = go (Contains-append_cases (map (halt_at found) endings.ends.items) (map trap_of endings.traps.items) ending has)
    where
      go : Contains (map (halt_at found) endings.ends.items) ending ⊎ Contains (map trap_of endings.traps.items) ending → Contains (endings_in found) ending
      go (inl end) =
          let from = from_map (halt_at found) endings.ends.items ending end in
          Contains-append_left halts_in (map trap_of found.trapped) ending (subst (Contains halts_in) from.1.1 (contains_map (halt_at found) found.halted from.0 (ends.within from.0 from.1.0)))
      go (inr trap) =
          let from = from_map trap_of endings.traps.items ending trap in
          Contains-append_right halts_in (map trap_of found.trapped) ending
          (subst (Contains (map trap_of found.trapped)) from.1.1 (contains_map trap_of found.trapped from.0 (traps_listed from.0 from.1.0)))

  every_end : (at : ℕ) → Contains found.halted at → Contains (map (halt_at found) endings.ends.items) (halt_at found at)
  every_end at has =
      let from = from_map (end_key found) endings.ends.items (end_key found at) (ends.every at has) in
      let there = all_of from.0 (ends.within from.0 from.1.0) in
      let same =
      place_same (slice_index_or found.places from.0 no_place) (slice_index_or found.places at no_place) (same_prints from.0 at there (all_of at has)) (same_lines from.0 at there (all_of at has))
      from.1.1 in
      subst (Contains (map (halt_at found) endings.ends.items)) same (contains_map (halt_at found) endings.ends.items from.0 from.1.0)

  every_trap : (turn : Trapped) → Contains found.trapped turn → Contains (map trap_of endings.traps.items) (trap_of turn)
  unfolding turn_at
  every_trap turn has =
      let there = get_contained found.trapped turn has in
      let less = slice_get_within found.trapped there.0 turn there.1 in
      let here : turn_at there.0 ≡ turn = get_or_from_slice_get found.trapped there.0 turn no_turn there.1 in
      let from = from_map (trap_key found.trapped) turns (trap_key found.trapped there.0) (traps.every there.0 (numbered there.0 less)) in
      let same : trap_of (turn_at from.0) ≡ trap_of turn = turn_same (turn_at from.0) (turn_at there.0) from.1.1 ∙ ap trap_of here in
      let kept : Contains endings.traps.items (turn_at from.0) = subst (λ (l : List Trapped). Contains l (turn_at from.0)) (sym turns_are) (contains_map turn_at turns from.0 from.1.0) in
      subst (Contains (map trap_of endings.traps.items)) same (contains_map trap_of endings.traps.items (turn_at from.0) kept)

  every : (ending : Ending) → Contains (endings_in found) ending → Contains (told_in found endings) ending
  unfolding halts_in
  every ending has = go (Contains-append_cases halts_in (map trap_of found.trapped) ending has)
    where
      go : Contains halts_in ending ⊎ Contains (map trap_of found.trapped) ending → Contains (told_in found endings) ending
      go (inl end) =
          let from = from_map (halt_at found) found.halted ending end in
          Contains-append_left (map (halt_at found) endings.ends.items) (map trap_of endings.traps.items) ending
          (subst (Contains (map (halt_at found) endings.ends.items)) from.1.1 (every_end from.0 from.1.0))
      go (inr trap) =
          let from = from_map trap_of found.trapped ending trap in
          Contains-append_right (map (halt_at found) endings.ends.items) (map trap_of endings.traps.items) ending
          (subst (Contains (map trap_of endings.traps.items)) from.1.1 (every_trap from.0 from.1.0))

  map_map : (ks : List ℕ) → map trap_of (map turn_at ks) ≡ map (λ (k : ℕ). trap_of (turn_at k)) ks
  map_map [] = refl
  map_map (k ∷ ks) = ap (λ (l : List Ending). trap_of (turn_at k) ∷ l) (map_map ks)

  ascending : IsStrictlySortedBy ending_cmp (told_in found endings)
  unfolding turn_at
  ascending =
      sorted_append ending_cmp (map (halt_at found) endings.ends.items) (map trap_of endings.traps.items)
      (sorted_agree list_cmp ending_cmp (end_key found) (halt_at found) (HasAll parts found)
      (λ at other one two. place_cmp (slice_index_or found.places at no_place) (slice_index_or found.places other no_place) (same_prints at other one two))
      endings.ends.items (all_by (HasAll parts found) endings.ends.items (λ at has. all_of at (ends.within at has))) ends.ascending)
      (subst (IsStrictlySortedBy ending_cmp) (sym (map_map turns) ∙ ap (map trap_of) (sym turns_are))
      (sorted_agree list_cmp ending_cmp (trap_key found.trapped) (λ (k : ℕ). trap_of (turn_at k)) (λ _. Unit {0})
      (λ one two _ _. turn_cmp (turn_at one) (turn_at two)) turns (all_by (λ _. Unit {0}) turns (λ _ _. tt)) traps.ascending))
      (ends_first found endings.ends.items endings.traps.items)

  pub are_different : AreDifferent (endings_in found) (told_in found endings)
  are_different = record { within = within; every = every; ascending = ascending }
