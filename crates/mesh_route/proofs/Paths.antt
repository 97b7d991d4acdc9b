-- A stretch and a path, by their first number and what is behind it.
use Rattle.std.proofs.Common.{◌≡◌, ℕ, zero, suc, ◌+◌, ◌-◌, ◌<◌, List, [], ◌∷◌, ◌++◌, map, reverse, refl, sym, ap, ◌∙◌}
use Rattle.std.proofs.Common.{◌⊎◌, inl, inr, arith}
use Rattle.std.specs.List.{range_with_len}
use Rattle.std.proofs.lemmas.Bool.{le-leb, lt-leb, cases_order}
use Rattle.std.proofs.lemmas.List.{reverse-append}
use Rattle.alw_num.proofs.Lists.{range_more}
use Rattle.alw_msg.specs.Lists.{behind}
use Rattle.mesh_route.specs.Routes.{node_at, stretch, path}

range_back : (a n : ℕ) → reverse (range_with_len a (suc n)) ≡ (a + n) ∷ reverse (range_with_len a n)
range_back a n =
    let next : suc n ≡ n + 1 = omega arith in
    ap (λ k. reverse (range_with_len a k)) next ∙ (ap reverse (range_more a n (a + n) refl) ∙ reverse-append (range_with_len a n) ((a + n) ∷ []))

ascending : (a b n : ℕ) → a + n ≡ b → stretch a b ≡ range_with_len a (suc n)
ascending a b n e =
    let size : b - a + 1 ≡ suc n = omega arith in
    rw (le-leb a b (omega arith)) (ap (range_with_len a) size)

descending : (a b n : ℕ) → b + n ≡ a → stretch a b ≡ reverse (range_with_len b (suc n))
descending a b zero e =
    let same : a ≡ b = omega arith in
    ascending a b 0 (omega arith) ∙ ap (λ k. k ∷ []) same
descending a b (suc n) e =
    let size : a - b + 1 ≡ suc (suc n) = omega arith in
    rw (lt-leb a b (omega arith)) (ap (λ k. reverse (range_with_len b k)) size)

pub stretch_here : (a : ℕ) → stretch a a ≡ a ∷ []
stretch_here a = ascending a a 0 (omega arith)

pub stretch_up : (a b : ℕ) → a < b → stretch a b ≡ a ∷ stretch (a + 1) b
stretch_up a b l =
    let n : ℕ = b - (a + 1) in
    ascending a b (suc n) (omega arith) ∙ ap (λ rest. a ∷ rest) (sym (ascending (a + 1) b n (omega arith)))

pub stretch_down : (a b : ℕ) → b < a → stretch a b ≡ a ∷ stretch (a - 1) b
stretch_down a b l =
    let n : ℕ = a - (b + 1) in
    let first : b + suc n ≡ a = omega arith in
    descending a b (suc n) first ∙ (range_back b (suc n) ∙ (λ i. first i ∷ sym (descending (a - 1) b n (omega arith)) i))

front_and_behind : (a : ℕ) (rest list : List ℕ) → list ≡ a ∷ rest → a ∷ behind list ≡ list
front_and_behind a rest list e = ap (λ xs. a ∷ behind xs) e ∙ sym e

pub stretch_first : (a b : ℕ) → a ∷ behind (stretch a b) ≡ stretch a b
stretch_first a b = go (cases_order a b)
  where
    go : (a ≡ b) ⊎ ((a < b) ⊎ (b < a)) → a ∷ behind (stretch a b) ≡ stretch a b
    go (inl same) = front_and_behind a [] (stretch a b) (ap (stretch a) (sym same) ∙ stretch_here a)
    go (inr (inl l)) = front_and_behind a (stretch (a + 1) b) (stretch a b) (stretch_up a b l)
    go (inr (inr l)) = front_and_behind a (stretch (a - 1) b) (stretch a b) (stretch_down a b l)

module _ (width column row to_column to_row : ℕ) where
  -- along the row
  pub path_along : (next : ℕ) → stretch column to_column ≡ column ∷ stretch next to_column
      → path width column row to_column to_row ≡ node_at width column row ∷ path width next row to_column to_row
  path_along next e = ap (λ part. map (λ c. node_at width c row) part ++ map (λ r. node_at width to_column r) (behind (stretch row to_row))) e

  -- in the right column, along it
  pub path_down : (next : ℕ) → column ≡ to_column → stretch row to_row ≡ row ∷ stretch next to_row
      → path width column row to_column to_row ≡ node_at width column row ∷ path width column next to_column to_row
  path_down next same e =
      let alone : stretch column to_column ≡ column ∷ [] = ap (stretch column) (sym same) ∙ stretch_here column in
      rw (alone, e) (λ i. node_at width column row ∷ (ap (map (λ r. node_at width to_column r)) (sym (stretch_first next to_row))
      ∙ ap (λ c. node_at width c next ∷ map (λ r. node_at width to_column r) (behind (stretch next to_row))) (sym same)) i)

  -- at its end
  pub path_end : column ≡ to_column → row ≡ to_row → path width column row to_column to_row ≡ node_at width column row ∷ []
  path_end same also =
      let alone : stretch column to_column ≡ column ∷ [] = ap (stretch column) (sym same) ∙ stretch_here column in
      let last : stretch row to_row ≡ row ∷ [] = ap (stretch row) (sym also) ∙ stretch_here row in
      rw (alone, last) refl
