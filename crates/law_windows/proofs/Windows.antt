-- The events of a window, node by node, are the nodes' runs alone.
use Rattle.std.proofs.Common.{◌≡◌, ℕ, ◌+◌, ◌<◌, ◌≤◌, true, List, [], ◌∷◌, ◌⊎◌, inl, inr, refl, sym, subst, arith, ◌∙◌}
use Rattle.alw_msg.specs.declared.events.Event.{Event}
use Rattle.alw_msg.specs.Events.{node_of}
use Rattle.alw_msg.specs.declared.events.Entry.{Entry}
use Rattle.alw_image.specs.Images.{node_count}
use Rattle.alw_model.specs.Machine.{MachineState}
use Rattle.alw_mesh.specs.Histories.{History, IsRun, grown, state_of, may_be_next}
use Rattle.alw_times.specs.declared.costs.Costs.{Costs}
use Rattle.alw_due.specs.Due.{times_in, is_before, EventIsTimed, EventsAreTimed}
use Rattle.alw_due.proofs.Before.{not_both}
use Rattle.alw_due.proofs.Timely.{first_may}
use Rattle.law_windows.specs.Windows.{lookahead, start_next, key_next, ComesBelow, RunsAlone, grown_by, IsRunAlone, StartBelow, IsWindow, LiftsNoLimit, NothingIsLeft, events_of, timeline, told_of, IsFrontOf}
use Rattle.law_windows.proofs.Alone.{comes_timed, starts_ascend}
use Rattle.law_windows.proofs.Choices.{with_journal, and_event, run_grows, comes_in_one}
use Rattle.law_windows.proofs.Limits.{Leads, LiftsNone, leads_itself, leads_then, grown_leads, none_between}
use Rattle.law_windows.proofs.Passing.{AllPass, Goes, goes, held, all_lead, all_come, lifts_none, under_way_first, entries_by, entries_at}

-- ---- a run alone is one

pub same_next : (h : History) (costs : Costs) (n bound : ℕ) (one other : Event) → ComesBelow h costs n bound one → ComesBelow h costs n bound other → one ≡ other
same_next h costs n bound one other comes also = go (comes.first other also.due) (also.first one comes.due)
  where
    go : (other ≡ one) ⊎ (is_before (key_next h costs one) (key_next h costs other) ≡ true) → (one ≡ other) ⊎ (is_before (key_next h costs other) (key_next h costs one) ≡ true) → one ≡ other
    go (inl same) any = sym same
    go (inr lt) (inl same) = same
    go (inr lt) (inr more) = absurd (not_both (key_next h costs one) (key_next h costs other) lt more)

-- what has come of a run alone is a front of the whole
pub front_of : (h : History) (costs : Costs) (n bound : ℕ) (front whole : List Event) → RunsAlone h costs n bound front → IsRunAlone h costs n bound whole → IsFrontOf front whole
front_of h costs n bound [] whole runs is = record { rest = whole; whole_is = refl }
front_of h costs n bound (event ∷ front) [] runs is = absurd (is.none_left event runs.0)
front_of h costs n bound (event ∷ front) (other ∷ whole) runs is =
    let same = same_next h costs n bound event other runs.0 is.runs.0 in
    let more = front_of (grown h other) costs n bound front whole (subst (λ (e : Event). RunsAlone (grown h e) costs n bound front) same runs.1) (record { runs = is.runs.1; none_left = is.none_left }) in
    record { rest = more.rest; whole_is = λ x. sym same x ∷ more.whole_is x }

-- ---- the events of a window

timed_may : (costs : Costs) (g : History) (event : Event) → EventIsTimed g costs event → may_be_next g event ≡ true
timed_may costs g event timed = first_may g costs (times_in g costs) event timed.first

-- timed events leave the machine in which they have happened
timed_after : (costs : Costs) (g : History) (events : List Event) (after : History) → EventsAreTimed g costs events after → grown_by g events ≡ after
timed_after costs g [] after are = are
timed_after costs g (event ∷ rest) after are = timed_after costs (grown g event) rest after are.1

timed_leads : (costs : Costs) (g : History) (events : List Event) (after : History) → IsRun g → EventsAreTimed g costs events after → Leads (state_of g) (state_of after)
timed_leads costs g [] after run are = subst (λ (h : History). Leads (state_of g) (state_of h)) are (leads_itself (state_of g))
timed_leads costs g (event ∷ rest) after run are =
    let may = timed_may costs g event are.0 in
    leads_then (state_of g) (state_of (grown g event)) (state_of after) (grown_leads g costs event run may) (timed_leads costs (grown g event) rest after (run_grows g event run may) are.1)

window_lifts : (costs : Costs) (from : ℕ) (g : History) (events : List Event) (after : History) → IsWindow g costs from events after → LiftsNone g.image g.parameters (state_of g) (state_of after)
window_lifts costs from g events after window =
    let is = timed_after costs g events after window.timed in
    subst (λ (last : History). LiftsNone g.image g.parameters (state_of g) (state_of last)) is (lifts_none g events (subst (λ (last : History). LiftsNoLimit g last) (sym is) window.limit))

module _ (costs : Costs) (from : ℕ) where
  abbrev bound : ℕ
  bound = from + lookahead costs

  -- each event starts within the window, and lifts no limit
  pub record IsWithin (g : History) (event : Event) : Type 0 where
    pub late : from ≤ start_next g costs event
    pub early : start_next g costs event < bound
    pub limit : LiftsNoLimit g (grown g event)

  abbrev pub AreWithin : History → List Event → Type 0
  AreWithin g [] = Unit {0}
  AreWithin g (event ∷ rest) = IsWithin g event × AreWithin (grown g event) rest

  -- the first of them starts within it
  abbrev FirstIsLate : History → List Event → Type 0
  FirstIsLate g [] = Unit {0}
  FirstIsLate g (event ∷ rest) = from ≤ start_next g costs event

  next_late : (g : History) (event : Event) (rest : List Event) (after : History) → IsRun g → EventsAreTimed g costs (event ∷ rest) after → IsWithin g event → FirstIsLate (grown g event) rest
  next_late g event [] after run are is = tt
  next_late g event (other ∷ rest) after run are is =
      let ascends = starts_ascend g costs event other run are.0 are.1.0 is.limit in
      let late = is.late in omega (arith, ascends, late)

  module _ (h after : History) (lifts : LiftsNone h.image h.parameters (state_of h) (state_of after)) where
    are_within : (one : List Entry) (events : List Event) → IsRun (with_journal h one) → Leads (state_of h) (state_of (with_journal h one)) → EventsAreTimed (with_journal h one) costs events after →
        StartBelow (with_journal h one) costs bound events → FirstIsLate (with_journal h one) events → AreWithin (with_journal h one) events
    are_within one [] run since are below late = tt
    are_within one (event ∷ rest) run since are below late =
        let g = with_journal h one in
        let may = timed_may costs g event are.0 in
        let next = run_grows g event run may in
        let then = leads_then (state_of h) (state_of g) (state_of (grown g event)) since (grown_leads g costs event run may) in
        let limit = none_between h.image h.parameters (state_of h) (state_of after) lifts (state_of g) (state_of (grown g event))
        (record { since = since; till = timed_leads costs g (event ∷ rest) after run are }) (record { since = then; till = timed_leads costs (grown g event) rest after next are.1 }) in
        let is : IsWithin (with_journal h one) event = record { late = late; early = below.0; limit = limit } in
        (is, are_within (and_event h one event) rest next then are.1 below.1 (next_late g event rest after run are is))

  first_late : (g : History) (events : List Event) (after : History) → IsWindow g costs from events after → FirstIsLate g events
  first_late g [] after window = tt
  first_late g (event ∷ rest) after window = window.none_before event window.timed.0.first

  pub all_within : (g : History) (events : List Event) (after : History) → IsRun g → IsWindow g costs from events after → AreWithin g events
  all_within g events after run window =
      are_within g after (window_lifts costs from g events after window) g.journal events run (leads_itself (state_of g)) window.timed window.within (first_late g events after window)

  all_pass : (g : History) (events : List Event) (after : History) → EventsAreTimed g costs events after → AreWithin g events → AllPass costs from g events
  all_pass g [] after are within = tt
  all_pass g (event ∷ rest) after are within =
      (record { comes = comes_timed g costs (node_of event) bound event refl are.0 within.0.early; late = within.0.late; limit = within.0.limit }, all_pass (grown g event) rest after are.1 within.1)

-- ---- the laws

module _ (h : History) (costs : Costs) (from : ℕ) (events : List Event) (after : History) (run : IsRun h) (window : IsWindow h costs from events after) (n : ℕ) (exists : n < node_count h.image) where
  abbrev end : MachineState
  end = state_of (grown_by h events)

  lifts : LiftsNone h.image h.parameters (state_of h) (state_of (grown_by h events))
  lifts = subst (λ (last : History). LiftsNone h.image h.parameters (state_of h) (state_of last)) (sym (timed_after costs h events after window.timed)) (window_lifts costs from h events after window)

  passing : AllPass costs from h events
  passing = all_pass costs from h events after window.timed (all_within costs from h events after run window)

  till : Leads (state_of h) (state_of (grown_by h events))
  till = all_lead costs from h events run (all_come costs from h events passing)

  all : Goes costs from h end lifts n exists (grown_by h events) h.journal (events_of n events) (told_of n (timeline h costs events)) (entries_at n (entries_by h events))
  all = goes costs from h end lifts n exists h.journal h.journal events (under_way_first costs from h end lifts n exists run) till (leads_itself end) passing

  pub runs_alone : RunsAlone h costs n (from + lookahead costs) (events_of n events)
  runs_alone = all.runs

  pub starts_alone : told_of n (timeline h costs events) ≡ timeline h costs (events_of n events)
  starts_alone = all.told_is

  pub is_run_alone : NothingIsLeft after costs (from + lookahead costs) → IsRunAlone h costs n (from + lookahead costs) (events_of n events)
  is_run_alone nothing = record {
    runs = all.runs;
    none_left = λ event comes.
        let last = all.last in
        let alone = subst (λ (g : History). ComesBelow g costs n (from + lookahead costs) event) last.alone_is comes in
        let leads = subst (λ (g : History). Leads (state_of g) end) last.all_is (leads_itself end) in
        let limit = held costs from h end lifts n exists last.all last.alone last.under till leads in
        let one = comes_in_one h costs n (from + lookahead costs) last.all last.alone last.under.run last.under.also last.under.sees limit event alone in
        let there = subst (λ (g : History). ComesBelow g costs n (from + lookahead costs) event) (sym last.all_is ∙ timed_after costs h events after window.timed) one in
        let late = nothing n event there.due in
        let early = there.below in
        absurd (omega (arith, late, early));
  }
