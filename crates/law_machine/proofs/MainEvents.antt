-- Which events are main events, and when one of them is enabled at a machine.
use Rattle.std.proofs.Common.{◌≡◌, ◌≢◌, ℕ, zero, suc, ◌+◌, ◌-◌, ◌^◌, ◌%◌, ◌<◌, ◌≤◌, ◌==◌, nat_lt, ◌||◌, Bool, true, false, cond, Some, List, ◌∷◌, length, map, find, refl, sym, ap, ◌∙◌, arith}
use Rattle.std.specs.Prelude.{is_some}
use Rattle.std.specs.List.{list_any, flat_map, range_with_len}
use Rattle.std.proofs.Math.Bool.{or-true}
use Rattle.std.proofs.lemmas.Bool.{eq-eqb, lt-ltb, false≢true}
use Rattle.std.proofs.lemmas.List.{get_or_past}
use Rattle.std.proofs.lemmas.List.Folds.{list_any-append}
use Rattle.std.proofs.Math.Nat.{mod-eq_of_lt, add-mod_left}
use Rattle.alw_num.proofs.Weigh.{is_node, cases_lt_then}
use Rattle.law_machine.proofs.Vocabulary.{Event, Instr, Handle, Deliver, Parts, node_count, Parameters, passes, is_ready, Slot, slot_at, no_slot, running, node_of, is_nonempty, front, may}
use Rattle.law_machine.proofs.Vocabulary.{may_deliver, MachineState, node_at, link_at, taken_by, is_enabled, main_events}
use Rattle.alw_model.proofs.Journals.{and_is}
use Rattle.law_machine.specs.Endings.{may_go_on}

-- ---- lists

any_flat : (test : Event → Bool) (f : ℕ → List Event) (low count n : ℕ) → low ≤ n → n < low + count → list_any test (f n) ≡ true → list_any test (flat_map f (range_with_len low count)) ≡ true
any_flat test f low zero n l m is = absurd (omega arith)
any_flat test f low (suc count) n l m is = list_any-append test (f low) (flat_map f (range_with_len (low + 1) count)) ∙ is_node _ n low
    (λ same. ap (λ b. b || list_any test (flat_map f (range_with_len (low + 1) count))) (ap (λ k. list_any test (f k)) (sym same) ∙ is))
    (λ other. ap (λ b. list_any test (f low) || b) (any_flat test f (low + 1) count n (omega arith) (omega arith) is) ∙ or-true (list_any test (f low)))

any_map : (test : Event → Bool) (f : ℕ → Event) (low count n : ℕ) → low ≤ n → n < low + count → test (f n) ≡ true → list_any test (map f (range_with_len low count)) ≡ true
any_map test f low zero n l m is = absurd (omega arith)
any_map test f low (suc count) n l m is = is_node _ n low
    (λ same. ap (λ b. b || list_any test (map f (range_with_len (low + 1) count))) (ap (λ k. test (f k)) (sym same) ∙ is))
    (λ other. ap (λ b. test (f low) || b) (any_map test f (low + 1) count n (omega arith) (omega arith) is) ∙ or-true (test (f low)))

-- ---- main events

module _ (parts : Parts) (test : Event → Bool) (n : ℕ) (here : n < node_count parts) where
  -- the main events of a node
  abbrev of_node : ℕ → List Event
  of_node at = Instr (record { 0 = at }) ∷ Handle (record { 0 = at }) ∷ map (λ from. Deliver (record { 0 = from }) (record { 0 = at })) (range_with_len 0 (node_count parts))

  by_node : list_any test (of_node n) ≡ true → list_any test (main_events parts) ≡ true
  by_node is = any_flat test of_node 0 (node_count parts) n (omega arith) (omega arith) is

  pub instr_among : test (Instr (record { 0 = n })) ≡ true → list_any test (main_events parts) ≡ true
  instr_among is = by_node (ap (λ b. b || (test (Handle (record { 0 = n })) || list_any test (map (λ from. Deliver (record { 0 = from }) (record { 0 = n })) (range_with_len 0 (node_count parts))))) is)

  pub handle_among : test (Handle (record { 0 = n })) ≡ true → list_any test (main_events parts) ≡ true
  handle_among is = by_node (ap (λ b. test (Instr (record { 0 = n })) || (b || list_any test (map (λ from. Deliver (record { 0 = from }) (record { 0 = n })) (range_with_len 0 (node_count parts))))) is ∙ or-true (test (Instr (record { 0 = n }))))

  pub deliver_among : (from : ℕ) → from < node_count parts → test (Deliver (record { 0 = from }) (record { 0 = n })) ≡ true → list_any test (main_events parts) ≡ true
  deliver_among from f is = by_node (ap (λ b. test (Instr (record { 0 = n })) || (test (Handle (record { 0 = n })) || b)) (any_map test (λ from. Deliver (record { 0 = from }) (record { 0 = n })) 0 (node_count parts) from (omega arith) (omega arith) is)
      ∙ (ap (λ b. test (Instr (record { 0 = n })) || b) (or-true (test (Handle (record { 0 = n })))) ∙ or-true (test (Instr (record { 0 = n })))))

-- ---- a Ready slot runs

find_some : (test : ℕ → Bool) (current count low n k : ℕ) → low ≤ k → k < low + n → test ((current + k) % count) ≡ true → is_some (find test (map (λ k. (current + k) % count) (range_with_len low n))) ≡ true
find_some test current count low zero k l m is = absurd (omega arith)
find_some test current count low (suc n) k l m is = go (test ((current + low) % count)) refl (λ (other : k ≢ low). find_some test current count (low + 1) n k (omega arith) (omega arith) is)
  where
    go : (b : Bool) → test ((current + low) % count) ≡ b → (k ≢ low → is_some (find test (map (λ k. (current + k) % count) (range_with_len (low + 1) n))) ≡ true)
        → is_some (cond b (Some ((current + low) % count)) (find test (map (λ k. (current + k) % count) (range_with_len (low + 1) n)))) ≡ true
    go true e more = refl
    go false e more = more (λ same. false≢true (sym e ∙ (ap (λ j. test ((current + j) % count)) (sym same) ∙ is)))

-- each slot has its turn
in_turn : (current count slot : ℕ) → current < count → slot < count → (k : ℕ) × ((k < count) × ((current + k) % count ≡ slot))
in_turn current count slot c l = cases_lt_then current slot
    (λ before. let k = slot + count - current in
    let sum : current + k ≡ count + slot = omega arith in
    (k, (omega arith, ap (λ j. j % count) sum ∙ (add-mod_left count slot ∙ mod-eq_of_lt l))))
    (λ behind. let k = slot - current in
    let sum : current + k ≡ slot = omega arith in
    (k, (omega arith, ap (λ j. j % count) sum ∙ mod-eq_of_lt l)))

pub ready_runs : (slots : List Slot) (current slot : ℕ) → current < length slots → is_ready (slot_at slots slot).status ≡ true → is_some (running slots current) ≡ true
ready_runs slots current slot c ready = cases_lt_then (length slots) slot
    (λ l. let t = in_turn current (length slots) slot c l in
    find_some (λ i. is_ready (slot_at slots i).status) current (length slots) 0 (length slots) t.0 (omega arith) (omega (arith, t.1.0)) (ap (λ i. is_ready (slot_at slots i).status) t.1.1 ∙ ready))
    (λ past. absurd (false≢true (sym (ap (λ (u : Slot). is_ready u.status) (get_or_past slots slot no_slot past)) ∙ ready)))

-- ---- enabled main events

module _ (parts : Parts) (parameters : Parameters) (s : MachineState) (small : (n : ℕ) → n < node_count parts → (node_at s n).clock < 2 ^ 32 - 1) where
  enabled_by : (event : Event) → node_of event < node_count parts → may parts parameters (node_at s (node_of event)) event (taken_by parts s event) ≡ true → is_enabled parts parameters s event ≡ true
  enabled_by event here is = let n = node_of event in
      and_is (n == n) _ (eq-eqb n n refl) (and_is (nat_lt n (node_count parts)) _ (lt-ltb n (node_count parts) here) (and_is (nat_lt (node_at s n).clock (2 ^ 32 - 1)) _ (lt-ltb (node_at s n).clock (2 ^ 32 - 1) (small n here)) is))

  -- a slot runs, a packet is handled, a head is delivered
  pub instr_goes : (n : ℕ) → n < node_count parts → is_some (running (node_at s n).slots (node_at s n).current) ≡ true → may_go_on parts parameters s ≡ true
  instr_goes n here is = instr_among parts (is_enabled parts parameters s) n here (enabled_by (Instr (record { 0 = n })) here is)

  pub handle_goes : (n : ℕ) → n < node_count parts → is_nonempty (node_at s n).packets ≡ true → may_go_on parts parameters s ≡ true
  handle_goes n here is = handle_among parts (is_enabled parts parameters s) n here (enabled_by (Handle (record { 0 = n })) here is)

  pub deliver_goes : (from n : ℕ) → from < node_count parts → n < node_count parts → passes (may_deliver parts parameters from n (node_at s n)) (front (link_at parts s from n)) ≡ true → may_go_on parts parameters s ≡ true
  deliver_goes from n f here is = deliver_among parts (is_enabled parts parameters s) n here from f (enabled_by (Deliver (record { 0 = from }) (record { 0 = n })) here (and_is (nat_lt from (node_count parts)) _ (lt-ltb from (node_count parts) f) is))
