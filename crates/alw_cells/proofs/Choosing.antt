-- The event that a number picks: its row of events, that it may happen, and that a cell without one is spent.
use Rattle.std.proofs.Common.{◌≡◌, ℕ, zero, suc, ◌+◌, ◌≤◌, ◌<◌, ◌==◌, ◌&&◌, ◌||◌, ◌%◌, ◌^◌, ◌-◌, nat_lt, nat_le, Bool, true, false, cond, not, Option, Some, None, List, [], ◌∷◌, length, filter, slice_get, get_or, IsTrue, refl, sym, subst, ap, ◌∙◌, inl, inr, arith}
use Rattle.std.specs.Option.{option_map}
use Rattle.std.specs.List.{list_any, range_with_len}
use Rattle.std.proofs.lemmas.Bool.{true≢false, eq-eqb, lt-ltb, ltb-true, false_from_ne_true, le-leb}
use Rattle.std.proofs.lemmas.Nat.{mod_below}
use Rattle.std.proofs.lemmas.Option.{same_Some, slice_get-get_or, slice_get-map}
use Rattle.alw_num.specs.Maps.{passes}
use Rattle.alw_num.specs.declared.node_sets.NodeSet.{NodeSet}
use Rattle.alw_num.specs.NodeSets.{Nodes, no_nodes, has_node, nodes_of, count_nodes}
use Rattle.alw_num.specs.Weights.{digit}
use Rattle.alw_num.proofs.Sets.{has-none, count-none}
use Rattle.alw_num.proofs.Weigh.{cases_lt_then}
use Rattle.alw_msg.specs.declared.messages.Msg.{Msg}
use Rattle.alw_msg.specs.declared.events.Event.{Event}
use Rattle.alw_msg.specs.Events.{node_of, is_evict}
use Rattle.alw_msg.specs.Lists.{is_nonempty, front}
use Rattle.alw_msg.specs.Statuses.{is_ready, has_trapped}
use Rattle.alw_image.specs.Images.{node_count}
use Rattle.alw_model.specs.Contexts.{Slot, slot_at, all_halted}
use Rattle.alw_model.specs.NodeStates.{NodeState, stamp_of, is_enabled_at, may, may_deliver}
use Rattle.alw_model.proofs.Journals.{and_parts, and_is}
use Rattle.law_machine.proofs.MainEvents.{ready_runs}
use Rattle.alw_ready.specs.declared.rows.Row.{Row}
use Rattle.alw_ready.specs.Rows.{instr_at, handle_at, delivery, row_events, row_count}
use Rattle.alw_ready.proofs.MainEvents.{row_is}
use Rattle.alw_ready.proofs.Renewing.{AreFound}
use Rattle.alw_ready.proofs.RowEvents.{row_length}
use Rattle.alw_cells.specs.Cells.{Cell, IsCell, IsSpent, in_from}
use Rattle.alw_cells.specs.Choice.{taken_by, may_happen, main_events_of, next_events, asked_eviction, is_evicted, picked_event}
use Rattle.alw_cells.specs.Keeping.{AreSenders}
use Rattle.alw_cells.proofs.Runs.{may_be, clock_most}

-- ---- the row of events

-- a delivery that may happen is from a node
pub sender_exists : (cell : Cell) (from : ℕ) → may_happen cell (delivery from cell.node.number) ≡ true → from < node_count cell.node.parts
sender_exists cell from is = ltb-true from (node_count cell.node.parts) (and_parts (nat_lt from (node_count cell.node.parts)) _ (may_be cell (delivery from cell.node.number) is)).0

-- and has a message in its in list
pub has_come : (cell : Cell) (from : ℕ) → may_happen cell (delivery from cell.node.number) ≡ true → is_nonempty (in_from cell.come from) ≡ true
has_come cell from is = there (in_from cell.come from) (and_parts (nat_lt from (node_count cell.node.parts)) _ (may_be cell (delivery from cell.node.number) is)).1
  where
    there : (come : List Msg) → IsTrue (passes (may_deliver cell.node.parts cell.node.parameters from cell.node.number cell.node.state) (front come)) → is_nonempty come ≡ true
    there [] may = absurd (true≢false (sym may))
    there (msg ∷ rest) may = refl

-- at first those are found from which nothing has come: none of them may be delivered
pub found_start : (cell : Cell) (senders : NodeSet) (found : Nodes) → AreSenders cell.come senders → found ≡ no_nodes → AreFound (λ from. may_happen cell (delivery from cell.node.number)) found (nodes_of senders)
found_start cell senders found are empty from none = ap (λ S. has_node S from) empty
    ∙ (has-none from ∙ sym (false_from_ne_true (may_happen cell (delivery from cell.node.number)) (λ may. true≢false (sym (has_come cell from may) ∙ (sym (are from) ∙ none)))))

-- what is asked of a cell's row
pub record IsCellRow (cell : Cell) (row : Row) : Type 0 where
  pub in_time : row.in_time ≡ true
  pub instr : row.instr ≡ may_happen cell (instr_at cell.node.number)
  pub handle : row.handle ≡ may_happen cell (handle_at cell.node.number)
  pub senders : (from : ℕ) → has_node (nodes_of row.senders) from ≡ may_happen cell (delivery from cell.node.number)

pub row_says : (cell : Cell) (row : Row) → IsCellRow cell row → row_events cell.node.number row ≡ next_events cell
row_says cell row is =
    row_is (may_happen cell) (node_count cell.node.parts) cell.node.number row (λ _. record { instr = is.instr; handle = is.handle; senders = λ from aside. is.senders from })
    (λ late. absurd (true≢false (sym is.in_time ∙ late))) (sender_exists cell)

pub row_counts : (cell : Cell) (row : Row) → IsCellRow cell row → row_count row ≡ length (next_events cell)
row_counts cell row is = sym (row_length cell.node.number row) ∙ ap length (row_says cell row is)

-- where nothing may be delivered, the others alone count
pub counts_own : (row : Row) → row.in_time ≡ true → nodes_of row.senders ≡ no_nodes → digit row.instr + digit row.handle ≡ row_count row
counts_own row in_time empty = rw (in_time, empty, count-none) (omega arith)

-- ---- what a number picks

none_there : {X : Type 0} (xs : List X) → length xs ≡ 0 → is_nonempty xs ≡ false
none_there [] none = refl
none_there (x ∷ xs) none = absurd (omega arith)

some_there : {X : Type 0} (xs : List X) → 0 < length xs → is_nonempty xs ≡ true
some_there [] some = absurd (omega arith)
some_there (x ∷ xs) some = refl

pub picks_none : (cell : Cell) (number : ℕ) → length (next_events cell) ≡ 0 → picked_event cell number ≡ None
picks_none cell number none = ap (λ b. cond b (cond (is_evicted cell number) (Some (asked_eviction cell number)) (slice_get (next_events cell) (number % length (next_events cell)))) None) (none_there (next_events cell) none)

-- the eviction where it is made, and else number r mod m
pub picks : (cell : Cell) (number : ℕ) (event : Event) → 0 < length (next_events cell)
    → cond (is_evicted cell number) (Some (asked_eviction cell number)) (slice_get (next_events cell) (number % length (next_events cell))) ≡ Some event → picked_event cell number ≡ Some event
picks cell number event some is =
    ap (λ b. cond b (cond (is_evicted cell number) (Some (asked_eviction cell number)) (slice_get (next_events cell) (number % length (next_events cell)))) None) (some_there (next_events cell) some) ∙ is

pub picks_evicted : (cell : Cell) (row : Row) (number : ℕ) (event : Event) → IsCellRow cell row → 0 < row_count row
    → cond (is_evicted cell number) (Some (asked_eviction cell number)) None ≡ Some event
    → picked_event cell number ≡ Some event
picks_evicted cell row number event is some evicted = picks cell number event (subst (λ n. 0 < n) (row_counts cell row is) some) (go (is_evicted cell number) evicted)
  where
    go : (b : Bool) → cond b (Some (asked_eviction cell number)) None ≡ Some event → cond b (Some (asked_eviction cell number)) (slice_get (next_events cell) (number % length (next_events cell))) ≡ Some event
    go true is = is
    go false is = absurd (cc)

pub picks_nth : (cell : Cell) (row : Row) (number at count : ℕ) (event : Event) → IsCellRow cell row → at ≡ cell.node.number → count ≡ row_count row → 0 < count
    → ((asked : Event) → cond (is_evicted cell number) (Some (asked_eviction cell number)) None ≡ Some asked → ⊥) → slice_get (row_events at row) (number % count) ≡ Some event → picked_event cell number ≡ Some event
picks_nth cell row number at count event is at_is count_is some none nth =
    let whole : count ≡ length (next_events cell) = count_is ∙ row_counts cell row is in
    let here : slice_get (next_events cell) (number % length (next_events cell)) ≡ Some event =
    (λ x. slice_get (sym (row_says cell row is) x) (number % sym whole x)) ∙ ((λ x. slice_get (row_events (sym at_is x) row) (number % count)) ∙ nth) in
    picks cell number event (subst (λ n. 0 < n) whole some) (go (is_evicted cell number) none here)
  where
    go : (b : Bool) → ((asked : Event) → cond b (Some (asked_eviction cell number)) None ≡ Some asked → ⊥) → slice_get (next_events cell) (number % length (next_events cell)) ≡ Some event
        → cond b (Some (asked_eviction cell number)) (slice_get (next_events cell) (number % length (next_events cell))) ≡ Some event
    go true none here = absurd (none (asked_eviction cell number) refl)
    go false none here = here

-- an instruction alone may happen, where nothing has come, no packet waits and no eviction is tried: each number picks it
pub picks_instr : (cell : Cell) (senders : NodeSet) (number : ℕ) → AreSenders cell.come senders → nodes_of senders ≡ no_nodes → is_nonempty cell.node.state.packets ≡ false
    → cell.node.parameters.evict ≡ 0 → may_happen cell (instr_at cell.node.number) ≡ true → picked_event cell number ≡ Some (instr_at cell.node.number)
picks_instr cell senders number are none quiet evict happens =
    picks_nth cell row number cell.node.number 1 (instr_at cell.node.number) is_row refl one (omega arith) untried
    (ap (slice_get (row_events cell.node.number row)) (divides number))
  where
    row : Row
    row = record { in_time = true; instr = true; handle = false; senders = senders }

    empty : (from : ℕ) → has_node (nodes_of senders) from ≡ false
    empty from = ap (λ S. has_node S from) none ∙ has-none from

    is_row : IsCellRow cell row
    is_row = record {
      in_time = refl;
      instr = sym happens;
      handle = sym (false_from_ne_true (may_happen cell (handle_at cell.node.number)) (λ handles. true≢false (sym (may_be cell (handle_at cell.node.number) handles) ∙ quiet)));
      senders = λ from. empty from ∙ sym (false_from_ne_true (may_happen cell (delivery from cell.node.number)) (λ comes. true≢false (sym (has_come cell from comes) ∙ (sym (are from) ∙ empty from))));
    }

    one : 1 ≡ row_count row
    one = sym (ap (λ n. 1 + (0 + n)) (ap count_nodes none ∙ count-none))

    untried : (asked : Event) → cond (is_evicted cell number) (Some (asked_eviction cell number)) None ≡ Some asked → ⊥
    untried asked is = go (nat_lt (number % 256) cell.node.parameters.evict) refl is
      where
        go : (b : Bool) → nat_lt (number % 256) cell.node.parameters.evict ≡ b
            → cond (b && (not (all_halted cell.node.state.slots) && may_happen cell (asked_eviction cell number))) (Some (asked_eviction cell number)) None ≡ Some asked → ⊥
        go true below is = let less = ltb-true (number % 256) cell.node.parameters.evict below in absurd (omega arith)
        go false below is = absurd (cc)

    divides : (n : ℕ) → n % 1 ≡ 0
    divides n = omega arith

-- a member of those that pass a test is among all, and passes
kept_among : {X : Type 0} (test : X → Bool) (xs : List X) (k : ℕ) (x : X) → slice_get (filter test xs) k ≡ Some x → (j : ℕ) × ((slice_get xs j ≡ Some x) × (test x ≡ true))
kept_among test [] k x is = absurd (cc)
kept_among {X = X} test (first ∷ rest) k x is = go (λ j next. kept_among test rest j x next) (test first) refl k is
  where
    go : ((k : ℕ) → slice_get (filter test rest) k ≡ Some x → (j : ℕ) × ((slice_get rest j ≡ Some x) × (test x ≡ true)))
        → (b : Bool) → test first ≡ b → (k : ℕ) → slice_get (cond b (first ∷ filter test rest) (filter test rest)) k ≡ Some x → (j : ℕ) × ((slice_get (first ∷ rest) j ≡ Some x) × (test x ≡ true))
    go deeper true holds zero is = (0, (is, sym (ap test (same_Some first x is)) ∙ holds))
    go deeper true holds (suc k) is = let d = deeper k is in (suc d.0, d.1)
    go deeper false holds k is = let d = deeper k is in (suc d.0, d.1)

-- a main event is no eviction
main_plain : (nodes number k : ℕ) (event : Event) → slice_get (main_events_of nodes number) k ≡ Some event → is_evict event ≡ false
main_plain nodes number zero event is = sym (ap is_evict (same_Some (instr_at number) event is))
main_plain nodes number (suc zero) event is = sym (ap is_evict (same_Some (handle_at number) event is))
main_plain nodes number (suc (suc k)) event is =
    go (slice_get (range_with_len 0 nodes) k) (sym (slice_get-map (λ from. delivery from number) (range_with_len 0 nodes) k) ∙ is)
  where
    go : (o : Option ℕ) → option_map (λ from. delivery from number) o ≡ Some event → is_evict event ≡ false
    go None is = absurd (cc)
    go (Some from) is = sym (ap is_evict (same_Some (delivery from number) event is))

module _ (cell : Cell) (number : ℕ) (event : Event) where
  -- what is picked may happen, and is an eviction only where some are wanted
  pub picked_may : picked_event cell number ≡ Some event → (may_happen cell event ≡ true) × (cell.node.parameters.evict ≡ 0 → is_evict event ≡ false)
  picked_may is = some (is_nonempty (next_events cell)) is
    where
      main : slice_get (next_events cell) (number % length (next_events cell)) ≡ Some event → (may_happen cell event ≡ true) × (cell.node.parameters.evict ≡ 0 → is_evict event ≡ false)
      main is =
          let among = kept_among (may_happen cell) (main_events_of (node_count cell.node.parts) cell.node.number) (number % length (next_events cell)) event is in
          (among.1.1, λ none. main_plain (node_count cell.node.parts) cell.node.number among.0 event among.1.0)

      evicted : is_evicted cell number ≡ true → Some (asked_eviction cell number) ≡ Some event → (may_happen cell event ≡ true) × (cell.node.parameters.evict ≡ 0 → is_evict event ≡ false)
      evicted is same =
          let p = and_parts (nat_lt (number % 256) cell.node.parameters.evict) _ is in
          let e = same_Some (asked_eviction cell number) event same in
          (sym (ap (may_happen cell) e) ∙ (and_parts (not (all_halted cell.node.state.slots)) _ p.1).1, λ none. absurd (let l = ltb-true (number % 256) cell.node.parameters.evict p.0 in omega arith))

      either : (b : Bool) → is_evicted cell number ≡ b → cond b (Some (asked_eviction cell number)) (slice_get (next_events cell) (number % length (next_events cell))) ≡ Some event
          → (may_happen cell event ≡ true) × (cell.node.parameters.evict ≡ 0 → is_evict event ≡ false)
      either true e is = evicted e is
      either false e is = main is

      some : (b : Bool) → cond b (cond (is_evicted cell number) (Some (asked_eviction cell number)) (slice_get (next_events cell) (number % length (next_events cell)))) None ≡ Some event
          → (may_happen cell event ≡ true) × (cell.node.parameters.evict ≡ 0 → is_evict event ≡ false)
      some true is = either (is_evicted cell number) refl is
      some false is = absurd (cc)

-- where nothing is picked, no main event may happen
pub nothing_picked : (cell : Cell) (number : ℕ) → picked_event cell number ≡ None → next_events cell ≡ []
nothing_picked cell number none = go (next_events cell) none
  where
    go : (events : List Event) → cond (is_nonempty events) (cond (is_evicted cell number) (Some (asked_eviction cell number)) (slice_get events (number % length events))) None ≡ None → events ≡ []
    go [] none = refl
    go (event ∷ rest) none = either (is_evicted cell number) none
      where
        there : (k : ℕ) → k < length (event ∷ rest) → slice_get (event ∷ rest) k ≡ None → ⊥
        there k l none = let some : slice_get (event ∷ rest) k ≡ Some (get_or (event ∷ rest) k event) = slice_get-get_or (event ∷ rest) k event l in absurd (cc)

        either : (b : Bool) → cond b (Some (asked_eviction cell number)) (slice_get (event ∷ rest) (number % length (event ∷ rest))) ≡ None → event ∷ rest ≡ []
        either true none = absurd (cc)
        either false none = absurd (there (number % length (event ∷ rest)) (mod_below number (length (event ∷ rest)) (omega arith)) none)

-- ---- a cell without a main event

filter_none_at : (test : Event → Bool) (events : List Event) (k : ℕ) (event : Event) → filter test events ≡ [] → slice_get events k ≡ Some event → test event ≡ false
filter_none_at test [] k event none is = absurd (cc)
filter_none_at test (first ∷ rest) k event none is = go (λ j none is. filter_none_at test rest j event none is) (test first) refl k none is
  where
    go : ((j : ℕ) → filter test rest ≡ [] → slice_get rest j ≡ Some event → test event ≡ false) → (b : Bool) → test first ≡ b → (k : ℕ)
        → cond b (first ∷ filter test rest) (filter test rest) ≡ [] → slice_get (first ∷ rest) k ≡ Some event → test event ≡ false
    go deeper true fails k none is = absurd (cc)
    go deeper false fails zero none is = sym (ap test (same_Some first event is)) ∙ fails
    go deeper false fails (suc k) none is = deeper k none is

pub none_trapped : (slots : List Slot) → ((k : ℕ) → k < length slots → has_trapped (slot_at slots k).status ≡ false) → list_any (λ slot. has_trapped slot.status) slots ≡ false
none_trapped [] each = refl
none_trapped (slot ∷ rest) each = ap (λ b. b || list_any (λ slot. has_trapped slot.status) rest) (each 0 (omega arith)) ∙ none_trapped rest (λ k l. each (suc k) (omega arith))

none_ready : (slots : List Slot) → ((k : ℕ) → k < length slots → is_ready (slot_at slots k).status ≡ false) → list_any (λ slot. is_ready slot.status) slots ≡ false
none_ready [] each = refl
none_ready (slot ∷ rest) each = ap (λ b. b || list_any (λ slot. is_ready slot.status) rest) (each 0 (omega arith)) ∙ none_ready rest (λ k l. each (suc k) (omega arith))

module _ (cell : Cell) (exists : cell.node.number < node_count cell.node.parts) (early : cell.node.state.clock < cell.node.parameters.limit) (limit : cell.node.parameters.limit < 2 ^ 32 - 1) where
  -- where the clock is below the limit, an event that takes no message may happen by what it wants of its node alone
  may_go : (event : Event) → (node_of event == cell.node.number) ≡ true → taken_by cell.come event ≡ None → may cell.node.parts cell.node.parameters cell.node.state event (taken_by cell.come event) ≡ true → may_happen cell event ≡ true
  may_go event own none is =
      let within : nat_le (stamp_of cell.node.state.clock (taken_by cell.come event)) cell.node.parameters.limit ≡ true =
      ap (λ (taken : Option Msg). nat_le (stamp_of cell.node.state.clock taken) cell.node.parameters.limit) none ∙ le-leb (cell.node.state.clock + 1) cell.node.parameters.limit (omega arith) in
      and_is (is_enabled_at cell.node.parts cell.node.parameters cell.node.number cell.node.state event (taken_by cell.come event)) _
      (and_is (node_of event == cell.node.number) _ own
      (and_is (nat_lt cell.node.number (node_count cell.node.parts)) _ (lt-ltb cell.node.number (node_count cell.node.parts) exists)
      (and_is (nat_lt cell.node.state.clock (2 ^ 32 - 1)) _ (lt-ltb cell.node.state.clock (2 ^ 32 - 1) (omega arith)) is)))
      within

  nothing_runs : cell.node.state.current < length cell.node.state.slots → next_events cell ≡ [] → list_any (λ slot. is_ready slot.status) cell.node.state.slots ≡ false
  nothing_runs current none = none_ready cell.node.state.slots (λ k l. false_from_ne_true (is_ready (slot_at cell.node.state.slots k).status) (λ ready.
      true≢false (sym (may_go (instr_at cell.node.number) (eq-eqb cell.node.number cell.node.number refl) refl (ready_runs cell.node.state.slots cell.node.state.current k current ready))
      ∙ filter_none_at (may_happen cell) (main_events_of (node_count cell.node.parts) cell.node.number) 0 (instr_at cell.node.number) none refl)))

  no_packets : next_events cell ≡ [] → cell.node.state.packets ≡ []
  no_packets none = go cell.node.state.packets refl
    where
      go : (packets : List Msg) → cell.node.state.packets ≡ packets → cell.node.state.packets ≡ []
      go [] is = is
      go (packet ∷ rest) is = absurd (true≢false (sym (may_go (handle_at cell.node.number) (eq-eqb cell.node.number cell.node.number refl) refl (ap is_nonempty is))
          ∙ filter_none_at (may_happen cell) (main_events_of (node_count cell.node.parts) cell.node.number) 1 (handle_at cell.node.number) none refl))

-- a cell where no main event may happen is spent
pub none_spent : (cell : Cell) → IsCell cell → cell.node.number < node_count cell.node.parts → cell.node.parameters.limit < 2 ^ 32 - 1 → cell.node.state.current < length cell.node.state.slots
    → next_events cell ≡ [] → IsSpent cell.node.parameters cell.node.state
none_spent cell is exists limit current none = cases_lt_then cell.node.parameters.limit cell.node.state.clock
    (λ early. inr (nothing_runs cell exists early limit current none, no_packets cell exists early limit none))
    (λ late. inl (let most : cell.node.state.clock ≤ cell.node.parameters.limit = subst (λ (state : NodeState). state.clock ≤ cell.node.parameters.limit) (sym is.state) (clock_most cell.node.parts cell.node.parameters cell.node.number cell.log is.run) in omega arith))

-- ---- a step
