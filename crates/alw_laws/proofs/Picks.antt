-- What one node has in a list that is made node by node.
use Rattle.std.proofs.Common.{◌≡◌, ◌≢◌, ℕ, zero, suc, ◌+◌, ◌<◌, ◌≤◌, ◌==◌, Bool, true, false, cond, Option, Some, None, List, [], ◌∷◌, ◌++◌, length}
use Rattle.std.proofs.Common.{find, filter, refl, sym, ap, ◌∙◌, arith}
use Rattle.std.specs.List.{flat_map, count_by, range_with_len}
use Rattle.std.specs.Option.{option_map, option_to_list}
use Rattle.std.proofs.lemmas.Bool.{eq-eqb, ne_eqb}
use Rattle.std.proofs.lemmas.List.{append-nil}
use Rattle.std.proofs.lemmas.List.Elements.{filter-append}
use Rattle.std.proofs.lemmas.List.Sums.{length-filter}
use Rattle.alw_num.proofs.Weigh.{is_node, cases_lt_then}
use Rattle.alw_msg.specs.Lists.{front}

module _ {E : Type 0} (test : E → Bool) (own : ℕ → List E) where
  -- what passes of so many nodes, from one on
  abbrev passing : ℕ → ℕ → List E
  passing low count = filter test (flat_map own (range_with_len low count))

  -- the first node's, and the others'
  first_node : (low count : ℕ) → passing low (suc count) ≡ filter test (own low) ++ passing (low + 1) count
  first_node low count = filter-append test (own low) (flat_map own (range_with_len (low + 1) count))

  -- no node has any that passes
  pub picks_none : (low count : ℕ) → ((n : ℕ) → low ≤ n → n < low + count → filter test (own n) ≡ []) → passing low count ≡ []
  picks_none low zero none = refl
  picks_none low (suc count) none =
      first_node low count ∙ rw (none low (omega arith) (omega arith)) (picks_none (low + 1) count (λ n l m. none n (omega arith) (omega arith)))

  -- one node alone has some that pass
  pub picks_one : (low count i : ℕ) → low ≤ i → i < low + count → ((n : ℕ) → n ≢ i → filter test (own n) ≡ []) → passing low count ≡ filter test (own i)
  picks_one low zero i l m none = absurd (omega arith)
  picks_one low (suc count) i l m none = first_node low count ∙ is_node _ i low here (later (λ p q. picks_one (low + 1) count i p q none))
    where
      here : i ≡ low → filter test (own low) ++ passing (low + 1) count ≡ filter test (own i)
      here same =
          let nothing = picks_none (low + 1) count (λ n h k. none n (λ e. omega arith)) in
          ap (λ (rest : List E). filter test (own low) ++ rest) nothing ∙ (append-nil (filter test (own low)) ∙ ap (λ (n : ℕ). filter test (own n)) (sym same))

      later : (low + 1 ≤ i → i < low + 1 + count → passing (low + 1) count ≡ filter test (own i)) → i ≢ low
          → filter test (own low) ++ passing (low + 1) count ≡ filter test (own i)
      later rest other = rw (none low (λ e. other (sym e))) (rest (omega arith) (omega arith))

-- the first that passes
find_front : {E : Type 0} (test : E → Bool) (xs : List E) → find test xs ≡ front (filter test xs)
find_front test [] = refl
find_front test (x ∷ xs) = go (test x) (find_front test xs)
  where
    go : (b : Bool) → find test xs ≡ front (filter test xs) → cond b (Some x) (find test xs) ≡ front (cond b (x ∷ filter test xs) (filter test xs))
    go true later = refl
    go false later = later

-- ---- one at most of each node, with the node's number

module _ {E X : Type 0} (tag : ℕ → X → E) (number_of : E → ℕ) (tagged : (n : ℕ) (x : X) → number_of (tag n x) ≡ n) (has : ℕ → Option X) where
  abbrev own : ℕ → List E
  own n = option_to_list (option_map (tag n) (has n))

  -- the whole list, of the nodes below a number
  abbrev whole : ℕ → List E
  whole count = flat_map own (range_with_len 0 count)

  -- what is a node's
  abbrev is_of : ℕ → E → Bool
  is_of i e = number_of e == i

  other_own : (i n : ℕ) → n ≢ i → filter (is_of i) (own n) ≡ []
  other_own i n apart = go (has n)
    where
      go : (o : Option X) → filter (is_of i) (option_to_list (option_map (tag n) o)) ≡ []
      go None = refl
      go (Some x) = rw (tagged n x, ne_eqb n i apart) refl

  same_own : (i : ℕ) → filter (is_of i) (own i) ≡ own i
  same_own i = go (has i)
    where
      go : (o : Option X) → filter (is_of i) (option_to_list (option_map (tag i) o)) ≡ option_to_list (option_map (tag i) o)
      go None = refl
      go (Some x) = rw (tagged i x, eq-eqb i i refl) refl

  picked : (count i : ℕ) → i < count → filter (is_of i) (whole count) ≡ own i
  picked count i l = picks_one (is_of i) own 0 count i (omega arith) (omega arith) (other_own i) ∙ same_own i

  unpicked : (count i : ℕ) → count ≤ i → filter (is_of i) (whole count) ≡ []
  unpicked count i l = picks_none (is_of i) own 0 count (λ n h k. other_own i n (λ e. omega arith))

  -- what is found of a node
  pub found_of : (count i : ℕ) → i < count → find (is_of i) (whole count) ≡ option_map (tag i) (has i)
  found_of count i l = find_front (is_of i) (whole count) ∙ (ap front (picked count i l) ∙ front_own (option_map (tag i) (has i)))
    where
      front_own : (o : Option E) → front (option_to_list o) ≡ o
      front_own None = refl
      front_own (Some e) = refl

  pub found_beyond : (count i : ℕ) → count ≤ i → find (is_of i) (whole count) ≡ None
  found_beyond count i l = find_front (is_of i) (whole count) ∙ ap front (unpicked count i l)

  -- a node is there once at most
  pub there_once : (count i : ℕ) → count_by (is_of i) (whole count) ≤ 1
  there_once count i = cases_lt_then count i
      (λ l. omega (arith, length-filter (is_of i) (whole count), ap length (picked count i l), few (option_map (tag i) (has i))))
      (λ l. omega (arith, length-filter (is_of i) (whole count), ap length (unpicked count i l)))
    where
      few : (o : Option E) → length (option_to_list o) ≤ 1
      few None = omega arith
      few (Some e) = omega arith
