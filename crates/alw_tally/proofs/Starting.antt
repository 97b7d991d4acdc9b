-- At the start of an image as many contexts are live as it has starts.
use Rattle.std.proofs.Common.{◌≡◌, ℕ, zero, suc, ◌+◌, ◌*◌, ◌<◌, ◌≤◌, ◌==◌, Bool, true, false, cond, not, ◌&&◌, ◌||◌, Option, Some, None, is_some}
use Rattle.std.proofs.Common.{List, [], ◌∷◌, length, map, refl, sym, ap, ◌∙◌, arith}
use Rattle.std.specs.List.{range_with_len, find, All, AllPairs, AllByRecursion}
use Rattle.std.specs.Option.{option_map}
use Rattle.std.proofs.lemmas.Bool.{eqb-true}
use Rattle.std.proofs.lemmas.List.Kept.{AllPairs-from_increasing}
use Rattle.alw_num.specs.declared.addresses.NodeNo.{NodeNo}
use Rattle.alw_num.specs.Weights.{digit, weigh, times}
use Rattle.alw_num.proofs.Weigh.{is_node, digit_same, digit_other, weigh-same, weigh-both, weigh-none, weigh-map}
use Rattle.alw_msg.specs.Statuses.{is_halted, has_trapped}
use Rattle.alw_image.specs.declared.parts.Parts.{Parts}
use Rattle.alw_image.specs.Images.{IsImage, IsStart, node_count, context_started, start_in}
use Rattle.alw_model.specs.Contexts.{slot_start, status_start}
use Rattle.alw_model.specs.NodeStates.{node_start}
use Rattle.alw_model.specs.Machine.{machine_start}
use Rattle.alw_model.proofs.Journals.{and_parts}
use Rattle.alw_tally.specs.Remaining.{live_in, trapped_in, remains_of}

-- a number stands once among those of a range that it is in
times_below : (k low n : ℕ) → k < low → times k (range_with_len low n) ≡ 0
times_below k low zero l = refl
times_below k low (suc n) l = omega (arith, digit_other k low (λ e. omega arith), times_below k (low + 1) n (omega arith))

once : (k low n : ℕ) → low ≤ k → k < low + n → times k (range_with_len low n) ≡ 1
once k low zero l m = absurd (omega arith)
once k low (suc n) l m = is_node _ k low
    (λ same. omega (arith, digit_same k low same, times_below k (low + 1) n (omega arith)))
    (λ other. omega (arith, digit_other k low other, once k (low + 1) n (omega arith) (omega arith)))

-- ---- starts

-- node, slot and address
abbrev Start : Type 0
Start = NodeNo × ℕ × ℕ

-- a start is that of a slot of a node
abbrev is_of : Start → ℕ → ℕ → Bool
is_of start node slot = start.0.0 == node && (start.1 == slot)

-- a slot of a node has a start
abbrev is_started : List Start → ℕ → ℕ → Bool
is_started starts node slot = is_some (start_in starts node slot)

started-cons : (start : Start) (rest : List Start) (node slot : ℕ) → is_started (start ∷ rest) node slot ≡ (is_of start node slot || is_started rest node slot)
started-cons start rest node slot = go (is_of start node slot) (find (λ (s : Start). is_of s node slot) rest)
  where
    address : Start → ℕ
    address s = s.2

    go : (b : Bool) (found : Option Start) → is_some (option_map address (cond b (Some start) found)) ≡ (b || is_some (option_map address found))
    go true found = refl
    go false found = refl

module _ (parts : Parts) where
  -- the context that a start is of is that of its slot and node
  of_context : (start : Start) (node slot : ℕ) → is_of start node slot ≡ true → context_started parts start ≡ node * parts.contexts + slot
  of_context start node slot e =
      let same = and_parts (start.0.0 == node) (start.1 == slot) e in
      let at_node : start.0.0 ≡ node = eqb-true start.0.0 node same.0 in
      let at_slot : start.1 ≡ slot = eqb-true start.1 slot same.1 in
      rw (at_node, at_slot) refl

  -- the contexts that starts are of
  abbrev contexts_in : List Start → List ℕ
  contexts_in starts = map (context_started parts) starts

  -- among starts of later contexts there is none of an earlier one
  absent : (starts : List Start) (node slot : ℕ) → All (λ context. node * parts.contexts + slot < context) (contexts_in starts)
      → is_started starts node slot ≡ false
  absent [] node slot above = refl
  absent (start ∷ rest) node slot above =
      started-cons start rest node slot ∙ go (is_of start node slot) refl (absent rest node slot (λ k d l. above (suc k) d (omega arith)))
    where
      go : (b : Bool) → is_of start node slot ≡ b → is_started rest node slot ≡ false → (b || is_started rest node slot) ≡ false
      go true e others = absurd (omega (arith, above 0 0 (omega arith), of_context start node slot e))
      go false e others = others

  -- ---- counted over nodes and slots

  abbrev nodes : List ℕ
  nodes = range_with_len 0 (node_count parts)

  abbrev slots : List ℕ
  slots = range_with_len 0 parts.contexts

  -- how many slots of nodes pass a test
  abbrev count : (ℕ → ℕ → Bool) → ℕ
  count test = weigh (λ node. weigh (λ slot. digit (test node slot)) slots) nodes

  count-same : (a b : ℕ → ℕ → Bool) → ((node slot : ℕ) → a node slot ≡ b node slot) → count a ≡ count b
  count-same a b same = weigh-same _ _ (λ node. weigh-same _ _ (λ slot. ap digit (same node slot)) slots) nodes

  both : (a b : Bool) → (a ≡ true → b ≡ false) → digit (a || b) ≡ digit a + digit b
  both true b apart = rw (apart refl) refl
  both false b apart = omega arith

  count-either : (a b : ℕ → ℕ → Bool) → ((node slot : ℕ) → a node slot ≡ true → b node slot ≡ false)
      → count (λ node slot. a node slot || b node slot) ≡ count a + count b
  count-either a b apart = weigh-same _ _ in_node nodes ∙ weigh-both _ _ nodes
    where
      in_node : (node : ℕ) → weigh (λ slot. digit (a node slot || b node slot)) slots
          ≡ weigh (λ slot. digit (a node slot)) slots + weigh (λ slot. digit (b node slot)) slots
      in_node node = weigh-same _ _ (λ slot. both (a node slot) (b node slot) (apart node slot)) slots ∙ weigh-both _ _ slots

  -- a start is of one slot
  count_one : (start : Start) → IsStart parts start → count (is_of start) ≡ 1
  count_one start fits =
      weigh-same _ _ (λ node. in_slots (start.0.0 == node)) nodes ∙ once start.0.0 0 (node_count parts) (omega arith) (omega (arith, fits.0))
    where
      in_slots : (b : Bool) → weigh (λ slot. digit (b && (start.1 == slot))) slots ≡ digit b
      in_slots true = once start.1 0 parts.contexts (omega arith) (omega (arith, fits.1))
      in_slots false = weigh-none _ (λ slot. refl) slots

  -- ascending starts are of as many slots as there are starts
  count_starts : (starts : List Start) → AllByRecursion (IsStart parts) starts
      → AllPairs (λ a b. a < b) (contexts_in starts) → count (is_started starts) ≡ length starts
  count_starts [] fit ascend = weigh-none _ (λ node. weigh-none _ (λ slot. refl) slots) nodes
  count_starts (start ∷ rest) (fits, fit) ascend =
      let apart : (node slot : ℕ) → is_of start node slot ≡ true → is_started rest node slot ≡ false
      = λ node slot e. absent rest node slot (λ k d l. omega (arith, ascend 0 (suc k) d (omega arith) (omega arith), of_context start node slot e)) in
      let split = count-same (is_started (start ∷ rest)) _ (started-cons start rest) ∙ count-either (is_of start) (is_started rest) apart in
      let others = count_starts rest fit (λ i j d l w. ascend (suc i) (suc j) d (omega arith) (omega arith)) in
      omega (arith, split, count_one start fits, others)

  -- ---- the nodes at the start

  live_start : (start : Option ℕ) → digit (not (is_halted (status_start start))) ≡ digit (is_some start)
  live_start None = refl
  live_start (Some address) = refl

  untrapped_start : (start : Option ℕ) → digit (has_trapped (status_start start)) ≡ 0
  untrapped_start None = refl
  untrapped_start (Some address) = refl

  live_in_node : (node : ℕ) → live_in (node_start parts node) ≡ weigh (λ slot. digit (is_started parts.starts node slot)) slots
  live_in_node node = weigh-map _ (slot_start parts node) slots ∙ weigh-same _ _ (λ slot. live_start (start_in parts.starts node slot)) slots

  trapped_in_node : (node : ℕ) → trapped_in (node_start parts node) ≡ 0
  trapped_in_node node = weigh-map _ (slot_start parts node) slots ∙ weigh-none _ (λ slot. untrapped_start (start_in parts.starts node slot)) slots

  pub remains_at_start : IsImage parts → (starts : ℕ) → starts ≡ length parts.starts
      → record { live = starts; trapped = 0; packets = 0 } ≡ remains_of (machine_start parts).nodes
  remains_at_start image starts is =
      let all = remains_of (machine_start parts).nodes in
      let listed = count_starts parts.starts image.starts (AllPairs-from_increasing _ image.starts_ascend) in
      let live : starts ≡ all.live = is ∙ sym (weigh-map _ (node_start parts) nodes ∙ (weigh-same _ _ live_in_node nodes ∙ listed)) in
      let trapped : 0 ≡ all.trapped = sym (weigh-map _ (node_start parts) nodes ∙ weigh-none _ trapped_in_node nodes) in
      let packets : 0 ≡ all.packets = sym (weigh-map _ (node_start parts) nodes ∙ weigh-none _ (λ node. refl) nodes) in
      λ x. record { live = live x; trapped = trapped x; packets = packets x }
