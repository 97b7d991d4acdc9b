-- Rows that fit a machine say its main events that may happen, in the schedule's order.
use Rattle.std.proofs.Common.{◌≡◌, ℕ, zero, suc, ◌+◌, ◌-◌, ◌^◌, ◌<◌, ◌≤◌, ◌==◌, nat_lt, nat_le, Bool, true, false, cond, ◌||◌, List, [], ◌∷◌, ◌++◌, length, map, flat_map, filter, IsTrue, refl, sym, ap, subst, ◌∙◌, arith}
use Rattle.std.specs.List.{list_any, range_with_len}
use Rattle.std.proofs.lemmas.Bool.{true≢false, ltb-true, leb-true, lt-ltb, false_from_ne_true}
use Rattle.std.proofs.lemmas.List.Elements.{filter-append}
use Rattle.alw_num.specs.NodeSets.{Nodes, has_node, members, nodes_of}
use Rattle.alw_num.specs.Weights.{digit, times}
use Rattle.alw_num.proofs.Sets.{AscendsFrom, times_before, members_are, ascends_lower}
use Rattle.alw_num.proofs.Weigh.{is_node, digit_same, digit_other}
use Rattle.alw_msg.specs.declared.events.Event.{Event}
use Rattle.alw_msg.specs.declared.events.Event.TheVariants.{Instr, Handle, Deliver, Evict}
use Rattle.alw_msg.specs.Events.{node_of}
use Rattle.alw_msg.specs.Lists.{is_nonempty}
use Rattle.alw_image.specs.declared.parts.Parts.{Parts}
use Rattle.alw_image.specs.Images.{node_count}
use Rattle.alw_image.specs.Parameters.{Parameters}
use Rattle.alw_model.specs.NodeStates.{may}
use Rattle.alw_model.specs.Machine.{MachineState, node_at, taken_by, is_enabled, is_within_limit, has_halted, main_events, goes_on}
use Rattle.alw_model.proofs.Journals.{and_parts, and_is}
use Rattle.law_lines.proofs.Steps.{enabled_is}
use Rattle.alw_ready.specs.declared.rows.Row.{Row}
use Rattle.alw_ready.specs.Rows.{instr_at, handle_at, delivery, event_if, row_events, events_from, events_of, row_at}
use Rattle.alw_ready.specs.Fits.{may_happen, is_in_time, SaysBut, RowsFit, nobody}
use Rattle.alw_ready.specs.Changes.{ComesFromBelow}
use Rattle.law_order.proofs.Clocks.{stamp_above}

-- ---- numbers that pass a test

module _ (keep : ℕ → Bool) where
  kept_ascends : (first n : ℕ) → AscendsFrom first (filter keep (range_with_len first n))
  kept_ascends first zero = tt
  kept_ascends first (suc n) = go (keep first) (filter keep (range_with_len (first + 1) n)) (kept_ascends (first + 1) n)
    where
      go : (b : Bool) (rest : List ℕ) → AscendsFrom (first + 1) rest → AscendsFrom first (cond b (first ∷ rest) rest)
      go true rest a = (omega arith, a)
      go false rest a = ascends_lower first (first + 1) rest (omega arith) a

  kept_times : (k first n : ℕ) → first ≤ k → (keep k ≡ true → k < first + n) → times k (filter keep (range_with_len first n)) ≡ digit (keep k)
  kept_times k first zero from within = sym (ap digit (false_from_ne_true (keep k) (λ is. let l = within is in omega arith)))
  kept_times k first (suc n) from within =
      go (keep first) refl (filter keep (range_with_len (first + 1) n)) (times_before (first + 1) _ k (kept_ascends (first + 1) n))
      (λ other. kept_times k (first + 1) n (omega arith) (λ is. let l = within is in omega arith))
    where
      go : (b : Bool) → keep first ≡ b → (rest : List ℕ) → (k < first + 1 → times k rest ≡ 0) → (first < k → times k rest ≡ digit (keep k)) → times k (cond b (first ∷ rest) rest) ≡ digit (keep k)
      go true is rest none more = is_node _ k first
          (λ same. omega (arith, digit_same k first same, none (omega arith), ap digit (ap keep same ∙ is)))
          (λ other. omega (arith, digit_other k first other, more (omega arith)))
      go false is rest none more = is_node _ k first
          (λ same. omega (arith, none (omega arith), ap digit (ap keep same ∙ is)))
          (λ other. more (omega arith))

  -- a set of the numbers that pass lists them
  members_kept : (P : Nodes) (n : ℕ) → ((k : ℕ) → has_node P k ≡ keep k) → ((k : ℕ) → keep k ≡ true → k < n) → members P ≡ filter keep (range_with_len 0 n)
  members_kept P n has within =
      members_are P 0 (filter keep (range_with_len 0 n)) (kept_ascends 0 n) (λ k. kept_times k 0 n (omega arith) (λ is. let l = within k is in omega arith) ∙ ap digit (sym (has k)))

filter-map : (test : Event → Bool) (f : ℕ → Event) (xs : List ℕ) → map f (filter (λ x. test (f x)) xs) ≡ filter test (map f xs)
filter-map test f [] = refl
filter-map test f (x ∷ xs) = go (test (f x)) (filter-map test f xs)
  where
    go : (b : Bool) → map f (filter (λ x. test (f x)) xs) ≡ filter test (map f xs) → map f (cond b (x ∷ filter (λ x. test (f x)) xs) (filter (λ x. test (f x)) xs)) ≡ cond b (f x ∷ filter test (map f xs)) (filter test (map f xs))
    go true e = ap (λ rest. f x ∷ rest) e
    go false e = e

filter_none : (test : Event → Bool) (f : ℕ → Event) (xs : List ℕ) → ((x : ℕ) → test (f x) ≡ false) → filter test (map f xs) ≡ []
filter_none test f [] none = refl
filter_none test f (x ∷ xs) none = rw (none x) (filter_none test f xs none)

-- ---- one node

module _ (test : Event → Bool) (n : ℕ) where
  -- the main events of a node, among n
  abbrev pub node_events : ℕ → List Event
  node_events at = instr_at at ∷ handle_at at ∷ map (λ from. delivery from at) (range_with_len 0 n)

  row_says : (at : ℕ) (row : Row) → SaysBut test at nobody row → ((from : ℕ) → test (delivery from at) ≡ true → from < n)
      → event_if row.instr (instr_at at) (event_if row.handle (handle_at at) (map (λ from. delivery from at) (members (nodes_of row.senders)))) ≡ filter test (node_events at)
  row_says at row says within =
      let deliveries : map (λ from. delivery from at) (members (nodes_of row.senders)) ≡ filter test (map (λ from. delivery from at) (range_with_len 0 n)) =
      ap (map (λ from. delivery from at)) (members_kept (λ from. test (delivery from at)) (nodes_of row.senders) n (λ from. says.senders from refl) within)
      ∙ filter-map test (λ from. delivery from at) (range_with_len 0 n) in
      λ x. event_if (says.instr x) (instr_at at) (event_if (says.handle x) (handle_at at) (deliveries x))

  pub row_is : (at : ℕ) (row : Row) → (row.in_time ≡ true → SaysBut test at nobody row) → (row.in_time ≡ false → (event : Event) → node_of event ≡ at → test event ≡ false) → ((from : ℕ) → test (delivery from at) ≡ true → from < n)
      → row_events at row ≡ filter test (node_events at)
  row_is at row says late within = go row.in_time refl
    where
      go : (b : Bool) → row.in_time ≡ b → cond b (event_if row.instr (instr_at at) (event_if row.handle (handle_at at) (map (λ from. delivery from at) (members (nodes_of row.senders))))) [] ≡ filter test (node_events at)
      go true is = row_says at row (says is) within
      go false is =
          let none = late is in
          sym (rw (none (instr_at at) refl, none (handle_at at) refl) (filter_none test (λ from. delivery from at) (range_with_len 0 n) (λ from. none (delivery from at) refl)))

  -- a row says its node's events that pass
  abbrev pub IsRowOf : Row → ℕ → Type 0
  IsRowOf row at = row_events at row ≡ filter test (node_events at)

  all_rows : (first : ℕ) (rows : List Row) (m : ℕ) → length rows ≡ m → ((k : ℕ) → k < m → IsRowOf (row_at rows k) (first + k)) → events_from first rows ≡ filter test (flat_map node_events (range_with_len first m))
  all_rows first [] zero size each = refl
  all_rows first [] (suc m) size each = absurd (omega arith)
  all_rows first (row ∷ rows) zero size each = absurd (omega arith)
  all_rows first (row ∷ rows) (suc m) size each =
      let start : first + 0 ≡ first = omega arith in
      let here : IsRowOf row first = subst (IsRowOf row) start (each 0 (omega arith)) in
      let rest = all_rows (first + 1) rows m (omega arith) (λ k l. let e : first + suc k ≡ first + 1 + k = omega arith in subst (IsRowOf (row_at rows k)) e (each (suc k) (omega arith))) in
      (λ x. here x ++ rest x) ∙ sym (filter-append test (node_events first) (flat_map node_events (range_with_len (first + 1) m)))

-- ---- the machine

module _ (parts : Parts) (parameters : Parameters) (s : MachineState) where
  -- an event that may happen is of a node in time
  pub may_in_time : (event : Event) → may_happen parts parameters s event ≡ true → is_in_time parameters s (node_of event) ≡ true
  may_in_time event is =
      let n = node_of event in
      let p = and_parts (is_enabled parts parameters s event) (is_within_limit parts parameters s event) is in
      let a = and_parts (n == n) _ p.0 in
      let b = and_parts (nat_lt n (node_count parts)) _ a.1 in
      let c = and_parts (nat_lt (node_at s n).clock (2 ^ 32 - 1)) _ b.1 in
      and_is (nat_lt (node_at s n).clock (2 ^ 32 - 1)) (nat_lt (node_at s n).clock parameters.limit || has_halted s) c.0
      (early (has_halted s) (stamp_above (node_at s n).clock (taken_by parts s event)) p.1)
    where
      early : {clock stamp : ℕ} (halted : Bool) → clock < stamp → IsTrue (nat_le stamp parameters.limit || halted) → IsTrue (nat_lt clock parameters.limit || halted)
      early {clock = clock} {stamp = stamp} true l w = or_true (nat_lt clock parameters.limit)
        where
          or_true : (b : Bool) → (b || true) ≡ true
          or_true true = refl
          or_true false = refl
      early {clock = clock} {stamp = stamp} false l w = rw (lt-ltb clock parameters.limit (omega (arith, leb-true stamp parameters.limit (or_none (nat_le stamp parameters.limit) w)))) refl
        where
          or_none : (b : Bool) → (b || false) ≡ true → b ≡ true
          or_none true is = refl
          or_none false is = is

  -- and a delivery that may happen is from a node
  pub sender_exists : (from at : ℕ) → may_happen parts parameters s (delivery from at) ≡ true → from < node_count parts
  sender_exists from at is =
      let p = and_parts (is_enabled parts parameters s (delivery from at)) _ is in
      let q = and_parts (nat_lt from (node_count parts)) _ (enabled_is parts parameters s (delivery from at) p.0).may_be in
      ltb-true from (node_count parts) q.0

  -- so an event that may happen takes from a node, if any
  pub comes_from : (event : Event) → may_happen parts parameters s event ≡ true → ComesFromBelow (node_count parts) event
  comes_from (Instr at) is = tt
  comes_from (Handle at) is = tt
  comes_from (Deliver from to) is = sender_exists from.0 to.0 is
  comes_from (Evict at set) is = tt

  module _ (rows : List Row) (fit : RowsFit parts parameters s rows) where
    pub filter_main : events_of rows ≡ filter (may_happen parts parameters s) (main_events parts)
    filter_main = all_rows (may_happen parts parameters s) (node_count parts) 0 rows (node_count parts) fit.counted (λ k l. let e : k ≡ 0 + k = omega arith in subst (IsRowOf (may_happen parts parameters s) (node_count parts) (row_at rows k)) e (each k l))
      where
        each : (k : ℕ) → k < node_count parts → IsRowOf (may_happen parts parameters s) (node_count parts) (row_at rows k) k
        each k l =
            let fits = fit.each k l in
            row_is (may_happen parts parameters s) (node_count parts) k (row_at rows k) fits.events
            (λ late event is. false_from_ne_true (may_happen parts parameters s event) (λ may. true≢false (sym (may_in_time event may) ∙ (ap (is_in_time parameters s) is ∙ (sym fits.in_time ∙ late)))))
            (λ from. sender_exists from k)

    pub goes_on_is : goes_on parts parameters s ≡ is_nonempty (events_of rows)
    goes_on_is = any_is (main_events parts) ∙ sym (ap is_nonempty filter_main)
      where
        any_is : (events : List Event) → list_any (may_happen parts parameters s) events ≡ is_nonempty (filter (may_happen parts parameters s) events)
        any_is [] = refl
        any_is (event ∷ rest) = go (may_happen parts parameters s event) (any_is rest)
          where
            go : (b : Bool) → list_any (may_happen parts parameters s) rest ≡ is_nonempty (filter (may_happen parts parameters s) rest) → (b || list_any (may_happen parts parameters s) rest) ≡ is_nonempty (cond b (event ∷ filter (may_happen parts parameters s) rest) (filter (may_happen parts parameters s) rest))
            go true e = refl
            go false e = e
