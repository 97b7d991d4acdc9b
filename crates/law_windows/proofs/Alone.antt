-- An event of another node leaves what comes next at a node before the lookahead.
use Rattle.std.proofs.Common.{◌≡◌, ◌≢◌, ℕ, ◌+◌, ◌<◌, ◌≤◌, true, List, [], ◌∷◌, inl, ◌↔◌, refl, sym, ap, subst, ◌∙◌, arith}
use Rattle.alw_num.proofs.Weigh.{is_node, cases_lt_then}
use Rattle.alw_msg.specs.declared.events.Event.{Event}
use Rattle.alw_msg.specs.Events.{node_of}
use Rattle.alw_image.specs.Images.{node_count}
use Rattle.alw_mesh.specs.Histories.{History, IsRun, grown, entry_of, state_of, may_be_next}
use Rattle.alw_mesh.specs.Ends.{next_events}
use Rattle.alw_times.specs.declared.costs.Costs.{Costs}
use Rattle.alw_times.proofs.Rising.{starts_rise}
use Rattle.alw_due.specs.Due.{times_in, is_due_for, EventIsTimed}
use Rattle.alw_due.proofs.Mains.{here, in_next}
use Rattle.alw_due.proofs.Members.{kept, next_main}
use Rattle.alw_due.proofs.Timely.{in_next_of, first_due, first_may, none_earlier}
use Rattle.law_windows.specs.Windows.{lookahead, start_next, key_next, IsDueAt, ComesBelow, LiftsNoLimit, NothingIsLeft}
use Rattle.law_windows.proofs.Choices.{SeesIn, and_event, run_grows, begins, comes_in_one, comes_in_other, key_same, late_too, goes_elsewhere}
use Rattle.law_windows.proofs.Limits.{leads_itself, grown_leads, none_between}

-- the event that comes next of all does so at its node
pub comes_timed : (g : History) (costs : Costs) (n bound : ℕ) (event : Event) → node_of event ≡ n → EventIsTimed g costs event → start_next g costs event < bound → ComesBelow g costs n bound event
comes_timed g costs n bound event at timed below =
    let times = times_in g costs in
    record {
      due = record {
        node = at;
        main = next_main g event (in_next_of g costs times event timed.first);
        may = first_may g costs times event timed.first;
        due = first_due g costs times event timed.first;
      };
      first = λ other is. let there = kept (is_due_for g costs times) (next_events g) other (in_next g other is.main is.may) is.due in timed.first.first there.place other there.stands;
      below = below;
    }

module _ (h : History) (costs : Costs) (event : Event) (run : IsRun h) (may : may_be_next h event ≡ true) (lifts : LiftsNoLimit h (grown h event)) where
  held : LiftsNoLimit (grown h event) h
  held =
      let leads = grown_leads h costs event run may in
      none_between h.image h.parameters (state_of h) (state_of (grown h event)) lifts (state_of (grown h event)) (state_of h)
      (record { since = leads; till = leads_itself (state_of (grown h event)) }) (record { since = leads_itself (state_of h); till = leads })

  module _ (n : ℕ) (exists : n < node_count h.image) (apart : n ≢ node_of event) (bound : ℕ) (low : bound ≤ start_next h costs event + lookahead costs) where
    sees : SeesIn h costs n bound (and_event h h.journal event) h.journal
    sees = goes_elsewhere h costs n bound h.journal h.journal run run (begins h costs n bound h.journal) (inl refl) event exists apart may low

    pub chooses_below : (other : Event) → ComesBelow (grown h event) costs n bound other ↔ ComesBelow h costs n bound other
    chooses_below other = (
      comes_in_other h costs n bound (and_event h h.journal event) h.journal (run_grows h event run may) run sees held other,
      comes_in_one h costs n bound (and_event h h.journal event) h.journal (run_grows h event run may) run sees held other,
    )

    key_below : (other : Event) → ComesBelow h costs n bound other → key_next (grown h event) costs other ≡ key_next h costs other
    key_below other comes = key_same h costs n bound (and_event h h.journal event) h.journal (run_grows h event run may) run sees held other
        ((chooses_below other).1 comes)

    -- what is due starts no sooner than a time where all did before
    pub late_below : (from : ℕ) → from ≤ bound → ((other : Event) → IsDueAt h costs n other → from ≤ start_next h costs other) → (other : Event) → IsDueAt (grown h event) costs n other →
        from ≤ start_next (grown h event) costs other
    late_below = late_too h costs n bound (and_event h h.journal event) h.journal (run_grows h event run may) run sees held

  module _ (n : ℕ) (exists : n < node_count h.image) (apart : n ≢ node_of event) where
    pub chooses_alike : (other : Event) → ComesBelow (grown h event) costs n (start_next h costs event + lookahead costs) other ↔ ComesBelow h costs n (start_next h costs event + lookahead costs) other
    chooses_alike = chooses_below n exists apart (start_next h costs event + lookahead costs) (omega arith)

    pub with_its_key : (other : Event) → ComesBelow h costs n (start_next h costs event + lookahead costs) other → key_next (grown h event) costs other ≡ key_next h costs other
    with_its_key = key_below n exists apart (start_next h costs event + lookahead costs) (omega arith)

  -- nothing that is due at a node starts before a time where nothing did before, and the event doesn't if it is the node's
  pub late_at : (time n : ℕ) → time ≤ start_next h costs event + lookahead costs → (node_of event ≡ n → time ≤ start_next h costs event) → ((other : Event) → IsDueAt h costs n other → time ≤ start_next h costs other) →
      (other : Event) → IsDueAt (grown h event) costs n other → time ≤ start_next (grown h event) costs other
  late_at time n low own all other is = is_node (time ≤ start_next (grown h event) costs other) n (node_of event)
      (λ same. let rises = starts_rise h.image h.parameters costs h.journal [] (entry_of h event) (entry_of (grown h event) other) (here h event may) (is.node ∙ same) in let late = own (sym same) in omega (arith, late, rises))
      (λ apart. late_below n exists apart (start_next h costs event + lookahead costs) (omega arith) time low all other is)
    where
      exists : n < node_count h.image
      exists = subst (λ (k : ℕ). k < node_count h.image) is.node (here (grown h event) other is.may)

  -- nor at any node
  pub late_on : (from : ℕ) → from ≤ start_next h costs event → NothingIsLeft h costs from → NothingIsLeft (grown h event) costs from
  late_on from late nothing n = late_at from n (omega (arith, late)) (λ same. late) (nothing n)

-- ---- two events of the timed schedule

-- the first of some numbers
abbrev pub first_number : List ℕ → ℕ
first_number [] = 0
first_number (number ∷ numbers) = number

-- the second starts no earlier
pub starts_ascend : (h : History) (costs : Costs) (event other : Event) → IsRun h → EventIsTimed h costs event → EventIsTimed (grown h event) costs other → LiftsNoLimit h (grown h event) →
    start_next h costs event ≤ start_next (grown h event) costs other
starts_ascend h costs event other run timed then lifts = is_node (start_next h costs event ≤ start_next (grown h event) costs other) (node_of other) (node_of event)
    (λ same. starts_rise h.image h.parameters costs h.journal [] (entry_of h event) (entry_of (grown h event) other) (here h event may) same)
    (λ apart. cases_lt_then (start_next h costs event + lookahead costs) (start_next (grown h event) costs other)
    (λ below. elsewhere apart below)
    (λ late. omega (arith, late)))
  where
    may : may_be_next h event ≡ true
    may = first_may h costs (times_in h costs) event timed.first

    elsewhere : node_of other ≢ node_of event → start_next (grown h event) costs other < start_next h costs event + lookahead costs → start_next h costs event ≤ start_next (grown h event) costs other
    elsewhere apart below =
        let exists = here (grown h event) other (first_may (grown h event) costs (times_in (grown h event) costs) other then.first) in
        let bound = start_next h costs event + lookahead costs in
        let before = (chooses_alike h costs event run may lifts (node_of other) exists apart other).0 (comes_timed (grown h event) costs (node_of other) bound other refl then below) in
        let key = with_its_key h costs event run may lifts (node_of other) exists apart other before in
        let there = kept (is_due_for h costs (times_in h costs)) (next_events h) other (in_next h other before.due.main before.due.may) before.due.due in
        let first = none_earlier h costs event timed there.place other there.stands in
        subst (λ (start : ℕ). start_next h costs event ≤ start) (sym (ap first_number key)) first
