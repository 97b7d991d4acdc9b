-- What lines of starts and of Trap-Always lines fill in is gathered to those starts and lines.
use Rattle.std.proofs.Common.{◌≡◌, ℕ, zero, suc, ◌+◌, ◌*◌, ◌<◌, Bool, true, false, cond, ◌&&◌, ◌==◌, nat_lt, nat_le, List, [], ◌∷◌, ◌++◌, map, Option, Some, None, refl, sym, ap, subst, ◌∙◌, map-id, arith}
use Rattle.std.proofs.lemmas.Bool.{and_parts, and_from, eqb-true, eqb-false, eq-eqb, lt-ltb, le-leb, ltb-true, leb-true, or_left, or_right, or_from, false_from_ne_true}
use Rattle.std.proofs.lemmas.Nat.{same_from_place}
use Rattle.std.specs.List.{AllByRecursion}
use Rattle.alw_num.specs.declared.addresses.NodeNo.{NodeNo}
use Rattle.sparc_place.specs.Places.{with_range}
use Rattle.sparc_assemble.specs.Assembly.{gathered, put_start, start_at, starts_of, always_at}
use Rattle.sparc_assemble.proofs.Rising.{Rises}
use Rattle.law_sources.proofs.StartLines.{starts_with, always_with}
use Rattle.law_sources.proofs.Gathered.{before, with_key, none_with_key, all_before, gathered_behind, nothing_before, gathered_all}

-- ---- lines that are Trap-Always

abbrev itself : ℕ → ℕ
itself n = n

-- a line of a set stays in it
stays : (xs : List ℕ) (always : ℕ → Bool) (k : ℕ) → always k ≡ true → always_with xs always k ≡ true
stays [] always k here = here
stays (x ∷ xs) always k here = stays xs (with_range x (x + 1) always) k (or_right _ _ here)

always_found : (low high : ℕ) (xs : List ℕ) (always : ℕ → Bool) (k : ℕ) → Rises low high (map itself xs) → always k ≡ false → always_at (always_with xs always) k ≡ with_key itself k xs
always_found low high [] always k up none = rw none refl
always_found low high (x ∷ xs) always k up none = go (x == k) refl (always_found (x + 1) high xs (with_range x (x + 1) always) k up.1)
  where
    go : (b : Bool) → (x == k) ≡ b → (with_range x (x + 1) always k ≡ false → always_at (always_with xs (with_range x (x + 1) always)) k ≡ with_key itself k xs)
        → always_at (always_with xs (with_range x (x + 1) always)) k ≡ cond b (x ∷ with_key itself k xs) (with_key itself k xs)
    go true e rest =
        let same : x ≡ k = eqb-true x k e in
        let inside : (nat_le x k && nat_lt k (x + 1)) ≡ true = and_from _ _ (le-leb x k (omega arith)) (lt-ltb k (x + 1) (omega arith)) in
        let there : always_with xs (with_range x (x + 1) always) k ≡ true = stays xs (with_range x (x + 1) always) k (or_left _ _ inside) in
        let none_behind : with_key itself k xs ≡ [] = none_with_key itself (x + 1) high k xs up.1 (omega arith) in
        rw (there, none_behind) (ap (λ n. n ∷ []) (sym same))
    go false e rest =
        let other = eqb-false x k e in
        rest (or_from _ _ (false_from_ne_true _ (λ both. (let parts = and_parts (nat_le x k) (nat_lt k (x + 1)) both in let low = leb-true x k parts.0 in let top = ltb-true k (x + 1) parts.1 in other (omega arith)))) none)

-- the lines are gathered from their set
pub always_gathered : (high : ℕ) (xs : List ℕ) → Rises 0 high xs → gathered (always_at (always_with xs (λ line. false))) high ≡ xs
always_gathered high xs up =
    let rise : Rises 0 high (map itself xs) = subst (λ (ys : List ℕ). Rises 0 high ys) (sym (map-id xs)) up in
    gathered_all itself high xs rise (always_at (always_with xs (λ line. false))) (λ k small. always_found 0 high xs (λ line. false) k rise refl)

-- ---- starts

same_start : (x : NodeNo × ℕ × ℕ) (node slot : ℕ) → x.0.0 ≡ node → x.1 ≡ slot → (let first : NodeNo = record { 0 = node } in (first, slot, x.2)) ∷ [] ≡ x ∷ []
same_start x node slot same alike = rw (sym same, sym alike) refl

module _ (contexts : ℕ) where
  abbrev context : NodeNo × ℕ × ℕ → ℕ
  context start = start.0.0 * contexts + start.1

  abbrev HaveSlots : List (NodeNo × ℕ × ℕ) → Type 0
  HaveSlots xs = AllByRecursion (λ start. start.1 < contexts) xs

  -- a start behind others leaves those of contexts before it
  put_other : (x : NodeNo × ℕ × ℕ) (starts : ℕ → ℕ → Option ℕ) (node slot : ℕ) → node * contexts + slot < context x → put_start x.0.0 x.1 x.2 starts node slot ≡ starts node slot
  put_other x starts node slot less =
      let apart : ((node == x.0.0) && (slot == x.1)) ≡ false = false_from_ne_true _ (λ both. (let parts = and_parts (node == x.0.0) (slot == x.1) both in
      let same = ap (λ n. n * contexts + slot) (eqb-true node x.0.0 parts.0) in let alike = eqb-true slot x.1 parts.1 in omega arith)) in
      rw apart refl

  start_stays : (low high : ℕ) (xs : List (NodeNo × ℕ × ℕ)) (starts : ℕ → ℕ → Option ℕ) (node slot : ℕ) → Rises low high (map context xs) → node * contexts + slot < low → starts_with xs starts node slot ≡ starts node slot
  start_stays low high [] starts node slot up less = refl
  start_stays low high (x ∷ xs) starts node slot up less =
      let least = up.0 in
      start_stays (context x + 1) high xs (put_start x.0.0 x.1 x.2 starts) node slot up.1 (omega arith) ∙ put_other x starts node slot (omega arith)

  start_found : (low high : ℕ) (xs : List (NodeNo × ℕ × ℕ)) (starts : ℕ → ℕ → Option ℕ) (node slot : ℕ) → HaveSlots xs → Rises low high (map context xs) → slot < contexts → starts node slot ≡ None
      → start_at (starts_with xs starts) node slot ≡ with_key context (node * contexts + slot) xs
  start_found low high [] starts node slot slots up small none = rw none refl
  start_found low high (x ∷ xs) starts node slot slots up small none = go (context x == node * contexts + slot) refl (start_found (context x + 1) high xs (put_start x.0.0 x.1 x.2 starts) node slot slots.1 up.1 small)
    where
      go : (b : Bool) → (context x == node * contexts + slot) ≡ b → (put_start x.0.0 x.1 x.2 starts node slot ≡ None → start_at (starts_with xs (put_start x.0.0 x.1 x.2 starts)) node slot ≡ with_key context (node * contexts + slot) xs)
          → start_at (starts_with xs (put_start x.0.0 x.1 x.2 starts)) node slot ≡ cond b (x ∷ with_key context (node * contexts + slot) xs) (with_key context (node * contexts + slot) xs)
      go true e rest =
          let number : context x ≡ node * contexts + slot = eqb-true (context x) (node * contexts + slot) e in
          let parts = same_from_place x.0.0 x.1 node slot contexts slots.0 small number in
          let here : ((node == x.0.0) && (slot == x.1)) ≡ true = and_from _ _ (eq-eqb _ _ (sym parts.0)) (eq-eqb _ _ (sym parts.1)) in
          let put : put_start x.0.0 x.1 x.2 starts node slot ≡ Some x.2 = rw here refl in
          let found : starts_with xs (put_start x.0.0 x.1 x.2 starts) node slot ≡ Some x.2 = start_stays (context x + 1) high xs (put_start x.0.0 x.1 x.2 starts) node slot up.1 (omega arith) ∙ put in
          let none_behind : with_key context (node * contexts + slot) xs ≡ [] = none_with_key context (context x + 1) high (node * contexts + slot) xs up.1 (omega arith) in
          rw (found, none_behind) (same_start x node slot parts.0 parts.1)
      go false e rest =
          let other = eqb-false (context x) (node * contexts + slot) e in
          let apart : ((node == x.0.0) && (slot == x.1)) ≡ false = false_from_ne_true _ (λ both. (let parts = and_parts (node == x.0.0) (slot == x.1) both in
          let same = ap (λ n. n * contexts + slot) (eqb-true node x.0.0 parts.0) in let alike = eqb-true slot x.1 parts.1 in other (omega arith))) in
          rest (rw apart none)

  inner : (high : ℕ) (xs : List (NodeNo × ℕ × ℕ)) → HaveSlots xs → Rises 0 high (map context xs) → (nodes : ℕ) → gathered (λ node. gathered (start_at (starts_with xs (λ n s. None)) node) contexts) nodes ≡ before context (nodes * contexts) xs
  inner high xs slots up zero = sym (nothing_before context high xs up) ∙ ap (λ m. before context m xs) (let e : 0 ≡ 0 * contexts = omega arith in e)
  inner high xs slots up (suc n) =
      let next : n * contexts + contexts ≡ suc n * contexts = omega arith in
      ap (λ ys. ys ++ gathered (start_at (starts_with xs (λ n s. None)) n) contexts) (inner high xs slots up n)
      ∙ (gathered_behind context high xs up (start_at (starts_with xs (λ n s. None)) n) (n * contexts) contexts (λ slot small. start_found 0 high xs (λ n s. None) n slot slots up small refl)
      ∙ ap (λ m. before context m xs) next)

  -- the starts are gathered by node and slot
  pub starts_gathered : (nodes : ℕ) (xs : List (NodeNo × ℕ × ℕ)) → HaveSlots xs → Rises 0 (nodes * contexts) (map context xs) → starts_of (starts_with xs (λ node slot. None)) nodes contexts ≡ xs
  starts_gathered nodes xs slots up = inner (nodes * contexts) xs slots up nodes ∙ all_before context 0 (nodes * contexts) xs up
