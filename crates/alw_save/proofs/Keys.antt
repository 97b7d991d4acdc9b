-- The entries of a finite map from a key on, and the lines of what stands at each key.
use Rattle.std.proofs.Common.{◌≡◌, ℕ, zero, suc, ◌+◌, ◌-◌, ◌<◌, ◌≤◌, ◌==◌, nat_le, nat_lt, Bool, true, false, cond, T, IsTrue, Option, None, Some, List, [], ◌∷◌, ◌++◌, refl, sym, ap, subst, ◌∙◌, append_assoc, arith}
use Rattle.std.proofs.lemmas.List.{append-nil}
use Rattle.std.specs.List.{flat_map, list_all}
use Rattle.std.proofs.lemmas.Bool.Decides.{nat_tests}
use Rattle.std.proofs.lemmas.Bool.{eqb-true}
use Rattle.std.proofs.lemmas.Option.{none-some, same_Some}
use Rattle.alw_num.specs.Maps.{Map, ascends_from, found, value_at}
use Rattle.alw_num.proofs.MapLaws.{not_below, rest_ascends, first_found}
use Rattle.alw_model.proofs.Journals.{and_parts}
use Rattle.alw_save.specs.States.{line_at}

-- the entries whose keys are at least a number
abbrev pub from_key : {X : Type 0} → ℕ → List (ℕ × X) → List (ℕ × X)
from_key low [] = []
from_key low (entry ∷ rest) = cond (nat_le low entry.0) (entry ∷ from_key low rest) (from_key low rest)

module _ {X : Type 0} where
  all_from : (low key : ℕ) (entries : List (ℕ × X)) → T (ascends_from low entries) → key ≤ low → from_key key entries ≡ entries
  all_from low key [] a l = refl
  all_from low key (entry ∷ rest) a l =
      let first : nat_le key entry.0 ≡ true = grind (arith, nat_tests) in
      let is = all_from (entry.0 + 1) key rest (rest_ascends low entry rest a) (grind (arith, nat_tests)) in
      rw first (ap (λ (es : List (ℕ × X)). entry ∷ es) is)

  -- what stands at a key passes what all entries pass
  pub all_found : (test : ℕ × X → Bool) (key : ℕ) (value : X) (entries : List (ℕ × X)) → found key entries ≡ Some value
      → IsTrue (list_all test entries) → IsTrue (test (key, value))
  all_found test key value [] e all = absurd (none-some value e)
  all_found test key value ((k, x) ∷ rest) e all =
      let parts = and_parts (test (k, x)) (list_all test rest) all in
      go parts.0 (λ is. all_found test key value rest is parts.1) (key == k) refl e
    where
      go : IsTrue (test (k, x)) → (found key rest ≡ Some value → IsTrue (test (key, value))) → (b : Bool) → (key == k) ≡ b
          → cond b (Some x) (found key rest) ≡ Some value → IsTrue (test (key, value))
      go here more true same is =
          subst (λ (n : ℕ). IsTrue (test (n, value))) (sym (eqb-true key k same)) (subst (λ (v : X). IsTrue (test (k, v))) (same_Some _ _ is) here)
      go here more false other is = more is

module _ {X : Type 0} (line : ℕ × X → List ℕ) where
  -- what stands at a key, and what is behind it
  pub key_more : (low key : ℕ) (entries : List (ℕ × X)) → T (ascends_from low entries)
      → flat_map line (from_key key entries) ≡ line_at line key (found key entries) ++ flat_map line (from_key (key + 1) entries)
  key_more low key [] a = refl
  key_more low key ((k, x) ∷ rest) a = go (key_more (k + 1) key rest (rest_ascends low (k, x) rest a)) (nat_lt key k) refl (key == k) refl
    where
      behind : T (ascends_from (k + 1) rest)
      behind = rest_ascends low (k, x) rest a

      go : flat_map line (from_key key rest) ≡ line_at line key (found key rest) ++ flat_map line (from_key (key + 1) rest)
          → (b : Bool) → nat_lt key k ≡ b → (c : Bool) → (key == k) ≡ c
          → flat_map line (from_key key ((k, x) ∷ rest)) ≡ line_at line key (found key ((k, x) ∷ rest)) ++ flat_map line (from_key (key + 1) ((k, x) ∷ rest))
      go more true below true same = absurd (grind (arith, nat_tests))
      go more true below false other =
          let here : nat_le key k ≡ true = grind (arith, nat_tests) in
          let next : nat_le (key + 1) k ≡ true = grind (arith, nat_tests) in
          let none = not_below key (k + 1) rest (grind (arith, nat_tests)) behind in
          let one = all_from (k + 1) key rest behind (grind (arith, nat_tests)) in
          let two = all_from (k + 1) (key + 1) rest behind (grind (arith, nat_tests)) in
          rw (here, next, other, none, one, two) refl
      go more false above true same =
          let here : nat_le key k ≡ true = grind (arith, nat_tests) in
          let next : nat_le (key + 1) k ≡ false = grind (arith, nat_tests) in
          let one = all_from (k + 1) key rest behind (grind (arith, nat_tests)) in
          let two = all_from (k + 1) (key + 1) rest behind (grind (arith, nat_tests)) in
          rw (here, next, same, one, two) (ap (λ (n : ℕ). line (n, x) ++ flat_map line rest) (sym (eqb-true key k same)))
      go more false above false other =
          let here : nat_le key k ≡ false = grind (arith, nat_tests) in
          let next : nat_le (key + 1) k ≡ false = grind (arith, nat_tests) in
          rw (here, next, other) more

  module _ (map : Map X) where
    -- all entries
    pub from_start : flat_map line (from_key 0 map.entries) ≡ flat_map line map.entries
    from_start = ap (flat_map line) (all_from 0 0 map.entries map.ascending (omega arith))

    pub next_key : (key : ℕ) → flat_map line (from_key key map.entries) ≡ line_at line key (value_at map key) ++ flat_map line (from_key (key + 1) map.entries)
    unfolding value_at
    next_key key = key_more 0 key map.entries map.ascending

    -- keys at which nothing stands
    pub skip : (key count : ℕ) → ((k : ℕ) → key ≤ k → k < key + count → value_at map k ≡ None)
        → flat_map line (from_key key map.entries) ≡ flat_map line (from_key (key + count) map.entries)
    skip key zero none =
        let end : key ≡ key + 0 = omega arith in
        ap (λ (k : ℕ). flat_map line (from_key k map.entries)) end
    skip key (suc count) none =
        let here : value_at map key ≡ None = none key (omega arith) (omega arith) in
        let end : key + 1 + count ≡ key + suc count = omega arith in
        next_key key ∙ ap (λ (o : Option X). line_at line key o ++ flat_map line (from_key (key + 1) map.entries)) here
        ∙ skip (key + 1) count (λ k l m. none k (omega (arith, l)) (omega (arith, m))) ∙ ap (λ (k : ℕ). flat_map line (from_key k map.entries)) end

  none_from : (key : ℕ) (entries : List (ℕ × X)) → ((k : ℕ) → key ≤ k → found k entries ≡ None) → flat_map line (from_key key entries) ≡ []
  none_from key [] none = refl
  none_from key ((k, x) ∷ rest) none = go (nat_le key k) refl (λ below. none_from key rest (later below))
    where
      later : nat_le key k ≡ false → (j : ℕ) → key ≤ j → found j rest ≡ None
      later below j l =
          let other : (j == k) ≡ false = grind (arith, nat_tests) in
          let is : cond (j == k) (Some x) (found j rest) ≡ None = none j l in
          rw other at is

      go : (b : Bool) → nat_le key k ≡ b → (nat_le key k ≡ false → flat_map line (from_key key rest) ≡ []) → flat_map line (from_key key ((k, x) ∷ rest)) ≡ []
      go true above more = absurd (none-some x (sym (none k (grind (arith, nat_tests))) ∙ first_found (k, x) rest))
      go false below more = rw below (more below)

  -- nothing stands at a key from a number on
  pub at_end : (map : Map X) (key : ℕ) → ((k : ℕ) → key ≤ k → value_at map k ≡ None) → flat_map line (from_key key map.entries) ≡ []
  unfolding value_at
  at_end map key none = none_from key map.entries none

  module _ (map : Map X) (text whole : List ℕ) where
    -- the line of a key more
    pub key_done : (key : ℕ) (after : List ℕ) (held : Option X) → text ++ flat_map line (from_key key map.entries) ≡ whole
        → after ≡ text ++ line_at line key held → held ≡ value_at map key → after ++ flat_map line (from_key (key + 1) map.entries) ≡ whole
    key_done key after held left written is =
        let rest = flat_map line (from_key (key + 1) map.entries) in
        ap (λ (t : List ℕ). t ++ rest) (written ∙ ap (λ (o : Option X). text ++ line_at line key o) is)
        ∙ append_assoc text (line_at line key (value_at map key)) rest ∙ ap (λ (t : List ℕ). text ++ t) (sym (next_key map key)) ∙ left

    -- keys at which nothing stands are passed over
    pub skip_to : (from key : ℕ) → from ≤ key → ((k : ℕ) → from ≤ k → k < key → value_at map k ≡ None)
        → text ++ flat_map line (from_key from map.entries) ≡ whole → text ++ flat_map line (from_key key map.entries) ≡ whole
    skip_to from key low none left =
        let reach : from + (key - from) ≡ key = omega arith in
        ap (λ (t : List ℕ). text ++ t) (sym (skip map from (key - from) (λ k l m. none k l (omega (arith, m, low)))
        ∙ ap (λ (k : ℕ). flat_map line (from_key k map.entries)) reach)) ∙ left

    -- where nothing is left, the whole is written
    pub all_done : (key : ℕ) → ((k : ℕ) → key ≤ k → value_at map k ≡ None) → text ++ flat_map line (from_key key map.entries) ≡ whole → text ≡ whole
    all_done key none left = sym (append-nil text) ∙ ap (λ (t : List ℕ). text ++ t) (sym (at_end map key none)) ∙ left
