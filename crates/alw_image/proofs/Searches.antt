-- What a binary search finds in a table whose keys ascend.
use Rattle.std.proofs.Common.{◌≡◌, ◌≢◌, ℕ, zero, suc, ◌+◌, ◌*◌, ◌/◌, ◌%◌, ◌<◌, ◌≤◌, Bool, true, false, ◌&&◌, ◌==◌, ◌⊎◌, inl, inr}
use Rattle.std.proofs.Common.{Some, None, find, List, [], ◌∷◌, length, map, slice_index, get_or, Result, Ok, Err, is_ok, IfOk, IfErr}
use Rattle.std.proofs.Common.{refl, sym, ap, subst, ◌∙◌, arith}
use Rattle.std.specs.List.{list_any, AllByRecursion}
use Rattle.std.specs.Option.{option_map}
use Rattle.std.specs.List.Sorted.{IsStrictlyIncreasing, IsSearchInRange, IsBinarySearchResult, IsNonDecreasingBy}
use Rattle.std.specs.Ordering.{nat_cmp, ordering_index}
use Rattle.std.proofs.lemmas.Cmp.{ranked}
use Rattle.std.proofs.lemmas.List.{map-id}
use Rattle.std.proofs.lemmas.List.Folds.{list_any_at, list_any_none}
use Rattle.std.proofs.lemmas.List.Sorted.{IsNonDecreasingBy-from_all_adjacent}
use Rattle.std.proofs.lemmas.Bool.{cases_eq, eqb-true, eq-eqb, ne_eqb, and_parts, false_from_ne_true}
use Rattle.std.proofs.lemmas.Bool.Decides.{nat_tests}
use Rattle.std.proofs.lemmas.Nat.{div-mul-add, mod-mul-add, div-add-mod'}
use Rattle.alw_num.specs.declared.addresses.Line.{Line}
use Rattle.alw_num.specs.declared.addresses.LineNo.{LineNo}
use Rattle.alw_num.specs.declared.addresses.NodeNo.{NodeNo}
use Rattle.alw_image.specs.declared.parts.Parts.{Parts}
use Rattle.alw_image.specs.Images.{IsImage, IsStart, body_in, start_in, started_at, context_started, zero_line}
use Rattle.alw_image.proofs.Orders.{all_weaker}

-- the key of a member, where the keys stand
key-at : {X : Type 0} (key : X → ℕ) (xs : List X) (k : ℕ) (d : X) → k < length xs → slice_index (map key xs) k ≡ key (get_or xs k d)
key-at key [] k d within = absurd (omega arith)
key-at key (x ∷ rest) zero d within = refl
key-at key (x ∷ rest) (suc k) d within = key-at key rest k d (omega arith)

length-keys : {X : Type 0} (key : X → ℕ) (xs : List X) → length (map key xs) ≡ length xs
length-keys key [] = refl
length-keys key (x ∷ rest) = ap suc (length-keys key rest)

-- the key isn't there
abbrev pub IsMissing : {X : Type 0} → (X → ℕ) → List X → ℕ → Type 0
IsMissing {X} key xs n = (k : ℕ) (d : X) → k < length xs → key (get_or xs k d) ≢ n

-- the first member with the key stands at this place
pub record IsFirstAt {X : Type 0} (key : X → ℕ) (xs : List X) (n at : ℕ) : Type 0 where
  pub in_range : at < length xs
  pub is_key : (d : X) → key (get_or xs at d) ≡ n
  pub none_before : (k : ℕ) (d : X) → k < at → key (get_or xs k d) ≢ n

module _ {X : Type 0} (key : X → ℕ) (xs : List X) (up : IsStrictlyIncreasing (map key xs)) where
  next_above : (k : ℕ) (d : X) → k + 1 < length xs → key (get_or xs k d) < key (get_or xs (k + 1) d)
  next_above k d within = omega (arith, up k (omega (arith, length-keys key xs)), key-at key xs k d (omega arith), key-at key xs (k + 1) d within)

  pub keys_rise : IsNonDecreasingBy key xs
  keys_rise = IsNonDecreasingBy-from_all_adjacent key xs (λ k d within. (let above = next_above k d within in omega arith))

  comparisons_rise : (n : ℕ) → IsNonDecreasingBy (λ x. ordering_index (nat_cmp (key x) n)) xs
  comparisons_rise n i j d order within = let rise = keys_rise i j d order within in grind (arith, nat_tests)

  pub found_first : (n : ℕ) (r : Result ℕ ℕ) → IsSearchInRange r (length xs) → IsBinarySearchResult (λ x. nat_cmp (key x) n) xs r → record { found : IfOk r (IsFirstAt key xs n); missing : IfErr r (λ at. IsMissing key xs n) }
  found_first n (Ok at) in_range equal = record {
    found = record {
      in_range = in_range;
      is_key = λ d. ranked _ n _ (sym (equal d));
      none_before = λ k d before same. (let here = ranked _ n _ (sym (equal d)) in let above = next_above k d (omega (arith, in_range)) in let rise = keys_rise (k + 1) at d (omega arith) in_range in omega arith);
    };
    missing = tt;
  }
  found_first n (Err at) in_range parted = record {
    found = tt;
    missing = λ k d within same.
        let parts = parted (comparisons_rise n) in
        let below : k < at → key (get_or xs k d) < n = λ before. ranked _ n _ (sym (parts.0 k d (omega arith) before)) in
        let above : at ≤ k → n < key (get_or xs k d) = λ behind. ranked _ n _ (sym (parts.1 k d behind within)) in
        grind (arith, below, above);
  }

-- ---- the bytes of a line

pub body_missing : (xs : List (LineNo × Line)) (n : ℕ) → IsMissing (λ entry. entry.0.0) xs n → body_in xs n ≡ zero_line
body_missing [] n missing = refl
body_missing (entry ∷ rest) n missing =
    rw (ne_eqb entry.0.0 n (missing 0 entry (omega arith))) (body_missing rest n (λ k d within. missing (suc k) d (omega arith)))

pub body_found : (xs : List (LineNo × Line)) (n at : ℕ) (d : LineNo × Line) → IsFirstAt (λ entry. entry.0.0) xs n at → body_in xs n ≡ (get_or xs at d).1
body_found xs n at d first = found xs at first.in_range (first.is_key d) (λ k before. first.none_before k d before)
  where
    found : (xs : List (LineNo × Line)) (at : ℕ) → at < length xs → (get_or xs at d).0.0 ≡ n → ((k : ℕ) → k < at → (get_or xs k d).0.0 ≢ n)
        → body_in xs n ≡ (get_or xs at d).1
    found [] at within is none = absurd (omega arith)
    found (entry ∷ rest) zero within is none = rw (eq-eqb entry.0.0 n is)
    found (entry ∷ rest) (suc at) within is none =
        rw (ne_eqb entry.0.0 n (none 0 (omega arith))) (found rest at (omega arith) is (λ k before. none (suc k) (omega arith)))

-- ---- the start of a context

module _ {X : Type 0} (test : X → Bool) (key : X → ℕ) (n : ℕ) where
  -- the test asks for the key
  abbrev Asks : List X → Type 0
  Asks xs = AllByRecursion (λ x. test x ≡ (key x == n)) xs

  find_missing : (xs : List X) → Asks xs → IsMissing key xs n → find test xs ≡ None
  find_missing [] asks missing = refl
  find_missing (x ∷ rest) asks missing =
      rw (asks.0, ne_eqb (key x) n (missing 0 x (omega arith))) (find_missing rest asks.1 (λ k d within. missing (suc k) d (omega arith)))

  find_found : (xs : List X) (at : ℕ) (d : X) → Asks xs → at < length xs → key (get_or xs at d) ≡ n → ((k : ℕ) → k < at → key (get_or xs k d) ≢ n)
      → find test xs ≡ Some (get_or xs at d)
  find_found [] at d asks within is none = absurd (omega arith)
  find_found (x ∷ rest) zero d asks within is none = rw (asks.0, eq-eqb (key x) n is)
  find_found (x ∷ rest) (suc at) d asks within is none =
      rw (asks.0, ne_eqb (key x) n (none 0 (omega arith))) (find_found rest at d asks.1 (omega arith) is (λ k before. none (suc k) (omega arith)))

-- node and slot are a context's where its number is theirs
is_context : (contexts node slot n : ℕ) → slot < contexts → (node == n / contexts && (slot == n % contexts)) ≡ (node * contexts + slot == n)
is_context contexts node slot n fits = go (cases_eq (node * contexts + slot) n)
  where
    go : (node * contexts + slot ≡ n) ⊎ (node * contexts + slot ≡ n → ⊥) → (node == n / contexts && (slot == n % contexts)) ≡ (node * contexts + slot == n)
    go (inl same) =
        let quotient : node ≡ n / contexts = sym (div-mul-add node contexts slot fits) ∙ ap (λ m. m / contexts) same in
        let rest : slot ≡ n % contexts = sym (mod-mul-add node contexts slot fits) ∙ ap (λ m. m % contexts) same in
        rw (eq-eqb _ _ quotient, eq-eqb _ _ rest, eq-eqb _ _ same)
    go (inr other) =
        false_from_ne_true _ (λ both. let parts = and_parts _ _ both in other (rw (eqb-true node (n / contexts) parts.0, eqb-true slot (n % contexts) parts.1) (div-add-mod' n contexts)))
        ∙ sym (ne_eqb _ _ other)

module _ (contexts : ℕ) where
  -- the number of a start's context, and that its slot exists
  abbrev context : NodeNo × ℕ × ℕ → ℕ
  context start = start.0.0 * contexts + start.1

  abbrev HaveSlots : List (NodeNo × ℕ × ℕ) → Type 0
  HaveSlots xs = AllByRecursion (λ start. start.1 < contexts) xs

  starts_ask : (n : ℕ) (xs : List (NodeNo × ℕ × ℕ)) → HaveSlots xs
      → AllByRecursion (λ start. (start.0.0 == n / contexts && (start.1 == n % contexts)) ≡ (context start == n)) xs
  starts_ask n [] slots = tt
  starts_ask n (start ∷ rest) slots = (is_context contexts start.0.0 start.1 n slots.0, starts_ask n rest slots.1)

  start_answers : (xs : List (NodeNo × ℕ × ℕ)) → HaveSlots xs → IsStrictlyIncreasing (map context xs) → (n : ℕ) (r : Result ℕ ℕ)
      → IsSearchInRange r (length xs) → IsBinarySearchResult (λ start. nat_cmp (context start) n) xs r → record {
        found : IfOk r (λ at. (d : NodeNo × ℕ × ℕ) → start_in xs (n / contexts) (n % contexts) ≡ Some (get_or xs at d).2);
        missing : IfErr r (λ at. start_in xs (n / contexts) (n % contexts) ≡ None);
      }
  start_answers xs slots up n (Ok at) in_range is =
      let first = (found_first context xs up n (Ok at) in_range is).found in record {
        found = λ d. ap (option_map (λ start. start.2))
            (find_found _ context n xs at d (starts_ask n xs slots) first.in_range (first.is_key d) (λ k before. first.none_before k d before));
        missing = tt;
      }
  start_answers xs slots up n (Err at) in_range is = record {
    found = tt;
    missing = ap (option_map (λ start. start.2))
        (find_missing _ context n xs (starts_ask n xs slots) (found_first context xs up n (Err at) in_range is).missing);
  }

-- the same of an image's starts, in a list that is theirs
pub image_starts : (p : Parts) → IsImage p → (xs : List (NodeNo × ℕ × ℕ)) → xs ≡ p.starts → (n : ℕ) (r : Result ℕ ℕ) → IsSearchInRange r (length xs)
    → IsBinarySearchResult (λ start. nat_cmp (context_started p start) n) xs r → record {
      found : IfOk r (λ at. (d : NodeNo × ℕ × ℕ) → started_at p (n / p.contexts) (n % p.contexts) ≡ Some (get_or xs at d).2);
      missing : IfErr r (λ at. started_at p (n / p.contexts) (n % p.contexts) ≡ None);
    }
image_starts p image xs same n r in_range is = rw (← same)
    (start_answers p.contexts xs (rw same (all_weaker (IsStart p) _ p.starts (λ start is. is.1) image.starts)) (rw same image.starts_ascend) n r in_range is)

-- ---- the lines that are Trap-Always

pub any_found : (xs : List ℕ) (n at : ℕ) → IsFirstAt (λ x. x) xs n at → list_any (λ x. n == x) xs ≡ true
any_found xs n at first = list_any_at (λ x. n == x) xs at 0 first.in_range (grind (arith, nat_tests, first.is_key 0))

pub any_missing : (xs : List ℕ) (n : ℕ) → IsMissing (λ x. x) xs n → list_any (λ x. n == x) xs ≡ false
any_missing xs n missing = list_any_none (λ x. n == x) xs (λ k d within. grind (arith, nat_tests, missing k d within))

-- ---- the answers

pub body_answers : (xs : List (LineNo × Line)) → IsStrictlyIncreasing (map (λ entry. entry.0.0) xs) → (n : ℕ) (r : Result ℕ ℕ) → IsSearchInRange r (length xs) → IsBinarySearchResult (λ entry. nat_cmp entry.0.0 n) xs r →
    record { found : IfOk r (λ at. (d : LineNo × Line) → body_in xs n ≡ (get_or xs at d).1); missing : IfErr r (λ at. body_in xs n ≡ zero_line) }
body_answers xs up n (Ok at) in_range is = record { found = λ d. body_found xs n at d (found_first (λ entry. entry.0.0) xs up n (Ok at) in_range is).found; missing = tt }
body_answers xs up n (Err at) in_range is = record { found = tt; missing = body_missing xs n (found_first (λ entry. entry.0.0) xs up n (Err at) in_range is).missing }

pub always_answers : (xs : List ℕ) → IsStrictlyIncreasing xs → (n : ℕ) (r : Result ℕ ℕ) → IsSearchInRange r (length xs) → IsBinarySearchResult (λ x. nat_cmp x n) xs r → is_ok r ≡ list_any (λ x. n == x) xs
always_answers xs up n r in_range is = by_result r (found_first (λ x. x) xs (subst IsStrictlyIncreasing (sym (map-id xs)) up) n r in_range is).found (found_first (λ x. x) xs (subst IsStrictlyIncreasing (sym (map-id xs)) up) n r in_range is).missing
  where
    by_result : (r : Result ℕ ℕ) → IfOk r (IsFirstAt (λ x. x) xs n) → IfErr r (λ at. IsMissing (λ x. x) xs n) → is_ok r ≡ list_any (λ x. n == x) xs
    by_result (Ok at) found missing = sym (any_found xs n at found)
    by_result (Err at) found missing = sym (any_missing xs n missing)
