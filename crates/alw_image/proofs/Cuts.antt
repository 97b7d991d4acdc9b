-- The members of a table whose keys rise, from one key up to another: two places cut them out.
use Rattle.std.proofs.Common.{◌≡◌, ℕ, zero, suc, ◌+◌, ◌*◌, ◌/◌, ◌<◌, ◌≤◌, Bool, true, false, ◌&&◌, ◌==◌, nat_lt, nat_le, List, [], ◌∷◌, length}
use Rattle.std.proofs.Common.{take, drop, filter, get_or, ◌⊎◌, inl, inr, ⊎_elim, refl, sym, ap, ◌∙◌, arith}
use Rattle.std.specs.List.Sorted.{IsNonDecreasingBy, IsPartitionPoint}
use Rattle.std.proofs.Math.Nat.{div-mul-le_self, lt-div-mul-add}
use Rattle.std.proofs.lemmas.Bool.{cases_lt, cases_order, and_right}
use Rattle.std.proofs.lemmas.Bool.Decides.{nat_tests}
use Rattle.std.proofs.lemmas.List.Elements.{All-from_recursion, filter_agree}
use Rattle.std.proofs.lemmas.List.{get_or-drop, length-drop}
use Rattle.alw_num.specs.declared.addresses.NodeNo.{NodeNo}
use Rattle.alw_image.specs.declared.parts.Parts.{Parts}
use Rattle.alw_image.specs.Images.{IsImage, IsStart, context_started}
use Rattle.alw_image.specs.Nodes.{is_line_of}
use Rattle.alw_image.proofs.HeaderFields.{product}
use Rattle.alw_image.proofs.Searches.{keys_rise}

module _ {X : Type 0} (test : X → Bool) where
  -- no member passes
  filter_none : (xs : List X) → ((k : ℕ) (d : X) → k < length xs → test (get_or xs k d) ≡ false) → filter test xs ≡ []
  filter_none [] none = refl
  filter_none (x ∷ rest) none = rw (none 0 x (omega arith)) (filter_none rest (λ k d l. none (suc k) d (omega arith)))

  -- the members from a place on, where none before it passes
  filter_from : (xs : List X) (at : ℕ) → ((k : ℕ) (d : X) → k < at → test (get_or xs k d) ≡ false) → at ≤ length xs
      → filter test xs ≡ filter test (drop at xs)
  filter_from xs zero none within = refl
  filter_from [] (suc at) none within = refl
  filter_from (x ∷ rest) (suc at) none within = rw (none 0 x (omega arith)) (filter_from rest at (λ k d l. none (suc k) d (omega arith)) (omega arith))

  -- the members up to a place, where all before it pass, and none from it on
  filter_up_to : (xs : List X) (at : ℕ) → ((k : ℕ) (d : X) → k < at → test (get_or xs k d) ≡ true)
      → ((k : ℕ) (d : X) → at ≤ k → k < length xs → test (get_or xs k d) ≡ false) → at ≤ length xs → filter test xs ≡ take at xs
  filter_up_to xs zero all none within = filter_none xs (λ k d l. none k d (omega arith) l)
  filter_up_to [] (suc at) all none within = absurd (omega arith)
  filter_up_to (x ∷ rest) (suc at) all none within =
      rw (all 0 x (omega arith)) (ap (λ (xs : List X). x ∷ xs)
      (filter_up_to rest at (λ k d l. all (suc k) d (omega arith)) (λ k d m l. none (suc k) d (omega arith) (omega arith)) (omega arith)))

-- the members whose numbers lie from one up to another stand from one place up to another
module _ {X : Type 0} (number_of : X → ℕ) (low high : ℕ) where
  abbrev is_between : X → Bool
  is_between x = nat_le low (number_of x) && nat_lt (number_of x) high

  pub cut_out : (xs : List X) (from to : ℕ)
      → IsPartitionPoint (λ x. nat_lt (number_of x) low ≡ true) (λ x. nat_lt (number_of x) low ≡ false) xs from → from ≤ length xs
      → IsPartitionPoint (λ x. nat_lt (number_of x) high ≡ true) (λ x. nat_lt (number_of x) high ≡ false) (drop from xs) to → to ≤ length (drop from xs)
      → take to (drop from xs) ≡ filter (λ x. nat_le low (number_of x) && nat_lt (number_of x) high) xs
  cut_out xs from to first from_fits second to_fits = sym (
      filter_from is_between xs from (λ k d l. before (number_of (get_or xs k d)) (first.0 k d (omega arith) l)) from_fits
      ∙ filter_up_to is_between (drop from xs) to
      (λ k d l. inside (number_of (get_or (drop from xs) k d)) (not_before k d (omega arith)) (second.0 k d (omega arith) l))
      (λ k d m l. behind (number_of (get_or (drop from xs) k d)) (second.1 k d m l))
      to_fits)
    where
      not_before : (k : ℕ) (d : X) → k < length (drop from xs) → nat_lt (number_of (get_or (drop from xs) k d)) low ≡ false
      not_before k d l = rw (get_or-drop from xs k d) (first.1 (from + k) d (omega arith) (omega (arith, length-drop from xs)))

      before : (n : ℕ) → nat_lt n low ≡ true → (nat_le low n && nat_lt n high) ≡ false
      before n less = grind (arith, nat_tests)

      inside : (n : ℕ) → nat_lt n low ≡ false → nat_lt n high ≡ true → (nat_le low n && nat_lt n high) ≡ true
      inside n least most = grind (arith, nat_tests)

      behind : (n : ℕ) → nat_lt n high ≡ false → (nat_le low n && nat_lt n high) ≡ false
      behind n past = and_right (nat_le low n) (nat_lt n high) past

one_more : (a b : ℕ) → (a + 1) * b ≡ a * b + b
one_more a b = grind arith

-- the home lines of a node are those from its first one up to the next node's first one
home_lines : (per_node number line : ℕ) → 1 ≤ per_node
    → (nat_le (number * per_node) line && nat_lt line (number * per_node + per_node)) ≡ is_line_of per_node number line
home_lines per_node number line some = sym (go (cases_order (line / per_node) number))
  where
    least : line / per_node * per_node ≤ line
    least = div-mul-le_self line per_node

    most : line < line / per_node * per_node + per_node
    most = lt-div-mul-add (omega arith)

    go : (line / per_node ≡ number) ⊎ ((line / per_node < number) ⊎ (number < line / per_node))
        → (line / per_node == number) ≡ (nat_le (number * per_node) line && nat_lt line (number * per_node + per_node))
    go (inl same) = rw (← same) (grind (arith, nat_tests, least, most))
    go (inr (inl less)) =
        let below : (line / per_node + 1) * per_node ≤ number * per_node = product (line / per_node + 1) per_node number per_node (omega arith) (omega arith) in
        let next = one_more (line / per_node) per_node in
        grind (arith, nat_tests, least, most, below, next)
    go (inr (inr more)) =
        let above : (number + 1) * per_node ≤ line / per_node * per_node =
        product (number + 1) per_node (line / per_node) per_node (omega arith) (omega arith) in
        let next = one_more number per_node in
        grind (arith, nat_tests, least, most, above, next)

-- so the members of a table that are a node's are cut out by these two numbers
pub home_members : {X : Type 0} (number_of : X → ℕ) (per_node node : ℕ) (lines : ℕ × ℕ) (xs : List X) → 1 ≤ per_node
    → lines ≡ (node * per_node, node * per_node + per_node)
    → filter (λ x. nat_le lines.0 (number_of x) && nat_lt (number_of x) lines.1) xs ≡ filter (λ x. is_line_of per_node node (number_of x)) xs
home_members number_of per_node node lines xs some are = rw are (filter_agree _ _ (λ x. home_lines per_node node (number_of x) some) xs)

-- the nodes of starts rise
pub nodes_rise : (p : Parts) → IsImage p → IsNonDecreasingBy (λ (start : NodeNo × ℕ × ℕ). start.0.0) p.starts
nodes_rise p image = λ i j d order within.
    let context = keys_rise (context_started p) p.starts image.starts_ascend i j d order within in
    let slot = λ (k : ℕ) (l : k < length p.starts). (All-from_recursion (IsStart p) p.starts image.starts k d l).1 in
    rises (get_or p.starts i d).0.0 (get_or p.starts j d).0.0 p.contexts (get_or p.starts i d).1 (get_or p.starts j d).1 (slot j within) context
  where
    rises : (a b c s t : ℕ) → t < c → a * c + s ≤ b * c + t → a ≤ b
    rises a b c s t l le = ⊎_elim
        (λ (less : b < a). absurd (
        let more : (b + 1) * c ≤ a * c = product (b + 1) c a c (omega arith) (omega arith) in
        let next = one_more b c in
        omega arith))
        (λ (from : a ≤ b). from)
        (cases_lt b a)
