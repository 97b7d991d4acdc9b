-- The machine as the flat machine sees it: contexts by number, and the values of lines.
use Rattle.std.proofs.Common.{◌≡◌, ℕ, zero, suc, ◌+◌, ◌-◌, ◌*◌, ◌<◌, ◌≤◌, ◌==◌, true, false, cond, List, [], ◌∷◌, ◌++◌, length, get_or, set, map, refl, sym, ap, ◌∙◌, arith}
use Rattle.std.specs.List.{range_with_len}
use Rattle.std.proofs.lemmas.Bool.{eq-eqb, ne_eqb}
use Rattle.std.proofs.lemmas.List.{length-map, set-append_left, set-append_right, get_or_append_left, get_or-append_right, get_or-map}
use Rattle.std.proofs.Math.Nat.{suc-mul}
use Rattle.law_machine.proofs.Vocabulary.{slot_at, no_slot, NodeState, no_node, Context, flat_context}
use Rattle.law_machine.specs.FlatRuns.{contexts_of}

-- each node has this number of slots
abbrev pub HaveSlots : ℕ → List NodeState → Type 0
HaveSlots count nodes = (n : ℕ) → n < length nodes → length (get_or nodes n no_node).slots ≡ count

-- ---- a node changes

module _ (count : ℕ) where
  next_place : (n slot : ℕ) → suc n * count + slot ≡ count + (n * count + slot)
  next_place n slot = omega (arith, suc-mul n count)

  pub own_length : (node : NodeState) (rest : List NodeState) → HaveSlots count (node ∷ rest) → length (map flat_context node.slots) ≡ count
  own_length node rest have = length-map node.slots flat_context ∙ have 0 (omega arith)

  first_place : (slot : ℕ) → 0 * count + slot ≡ slot
  first_place slot = omega arith

  place_left : (n slot : ℕ) → count + (n * count + slot) - count ≡ n * count + slot
  place_left n slot = omega arith

  pub slots_behind : (node : NodeState) (rest : List NodeState) → HaveSlots count (node ∷ rest) → HaveSlots count rest
  slots_behind node rest have n l = have (suc n) (omega arith)

  -- a node keeps its contexts
  pub contexts_stay : (nodes : List NodeState) (n : ℕ) (v : NodeState) → map flat_context v.slots ≡ map flat_context (get_or nodes n no_node).slots → contexts_of (set nodes n v) ≡ contexts_of nodes
  contexts_stay [] n v same = refl
  contexts_stay (node ∷ rest) zero v same = ap (λ (cs : List Context). cs ++ contexts_of rest) same
  contexts_stay (node ∷ rest) (suc n) v same = ap (λ (cs : List Context). map flat_context node.slots ++ cs) (contexts_stay rest n v same)

  -- one context of a node changes
  pub context_set : (nodes : List NodeState) (n : ℕ) (v : NodeState) (slot : ℕ) (x : Context) → HaveSlots count nodes → n < length nodes → slot < count → map flat_context v.slots ≡ set (map flat_context (get_or nodes n no_node).slots) slot x
      → contexts_of (set nodes n v) ≡ set (contexts_of nodes) (n * count + slot) x
  context_set [] n v slot x have l below is = absurd (omega arith)
  context_set (node ∷ rest) zero v slot x have l below is =
      let own = own_length node rest have in
      ap (λ (cs : List Context). cs ++ contexts_of rest) is
      ∙ sym (ap (λ p. set (contexts_of (node ∷ rest)) p x) (first_place slot) ∙ set-append_left (map flat_context node.slots) (contexts_of rest) slot x (omega (arith, own)))
  context_set (node ∷ rest) (suc n) v slot x have l below is =
      let own = own_length node rest have in
      ap (λ (cs : List Context). map flat_context node.slots ++ cs) (context_set rest n v slot x (slots_behind node rest have) (omega arith) below is)
      ∙ sym (ap (λ p. set (contexts_of (node ∷ rest)) p x) (next_place n slot)
      ∙ (set-append_right (map flat_context node.slots) (contexts_of rest) count (count + (n * count + slot)) x own (omega arith) ∙ ap (λ p. map flat_context node.slots ++ set (contexts_of rest) p x) (place_left n slot)))

  -- a context, read
  pub context_read : (nodes : List NodeState) (n slot : ℕ) (d : Context) → HaveSlots count nodes → n < length nodes → slot < count → get_or (contexts_of nodes) (n * count + slot) d ≡ flat_context (slot_at (get_or nodes n no_node).slots slot)
  context_read [] n slot d have l below = absurd (omega arith)
  context_read (node ∷ rest) zero slot d have l below =
      let own = own_length node rest have in
      ap (λ p. get_or (contexts_of (node ∷ rest)) p d) (first_place slot)
      ∙ (get_or_append_left (map flat_context node.slots) (contexts_of rest) d slot (omega (arith, own)) ∙ get_or-map flat_context node.slots slot no_slot d (rw (have 0 (omega arith)) below))
  context_read (node ∷ rest) (suc n) slot d have l below =
      let own = own_length node rest have in
      ap (λ p. get_or (contexts_of (node ∷ rest)) p d) (next_place n slot)
      ∙ (get_or-append_right (map flat_context node.slots) (contexts_of rest) count (count + (n * count + slot)) d own (omega arith)
      ∙ (ap (λ p. get_or (contexts_of rest) p d) (place_left n slot) ∙ context_read rest n slot d (slots_behind node rest have) (omega arith) below))

-- ---- a value changes

module _ {X : Type 0} where
  pub values_same : (f g : ℕ → X) (low count : ℕ) → ((l : ℕ) → low ≤ l → l < low + count → f l ≡ g l) → map f (range_with_len low count) ≡ map g (range_with_len low count)
  values_same f g low zero same = refl
  values_same f g low (suc count) same = λ x. same low (omega arith) (omega arith) x ∷ values_same f g (low + 1) count (λ l m o. same l (omega arith) (omega arith)) x

  pub value_set : (f : ℕ → X) (y : X) (low count i : ℕ) → set (map f (range_with_len low count)) i y ≡ map (λ l. cond (l == low + i) y (f l)) (range_with_len low count)
  value_set f y low zero i = refl
  value_set f y low (suc count) zero =
      let here : (low == low + 0) ≡ true = eq-eqb low (low + 0) (omega arith) in
      λ x. cond (sym here x) y (f low) ∷ values_same f (λ l. cond (l == low + 0) y (f l)) (low + 1) count (λ l m o. ap (λ b. cond b y (f l)) (sym (ne_eqb l (low + 0) (λ e. absurd (omega arith))))) x
  value_set f y low (suc count) (suc i) =
      let other : (low == low + suc i) ≡ false = ne_eqb low (low + suc i) (λ e. absurd (omega arith)) in
      let at : low + 1 + i ≡ low + suc i = omega arith in
      λ x. cond (sym other x) y (f low) ∷ (value_set f y (low + 1) count i ∙ ap (λ p. map (λ l. cond (l == p) y (f l)) (range_with_len (low + 1) count)) at) x
