-- Where nodes go in turn through a window, the sort of what is told of them is what the timed schedule takes.
use Rattle.std.proofs.Common.{◌≡◌, ℕ, ◌+◌, ◌<◌, ◌≤◌, false, cond, List, [], ◌∷◌, ◌++◌, refl, sym, ap, subst, ◌∙◌, arith}
use Rattle.std.specs.List.Sorted.{IsPermutation}
use Rattle.std.proofs.lemmas.Bool.{ne_eqb}
use Rattle.std.proofs.lemmas.List.Sorted.{IsPermutation-append_right}
use Rattle.alw_num.proofs.Weigh.{cases_lt_then}
use Rattle.alw_msg.specs.declared.events.Event.{Event}
use Rattle.alw_msg.specs.declared.events.Entry.{Entry}
use Rattle.alw_msg.specs.Events.{node_of}
use Rattle.alw_image.specs.Images.{node_count}
use Rattle.alw_model.specs.Machine.{MachineState, node_at, no_node, any_trapped}
use Rattle.law_order.proofs.Unique.{same_state}
use Rattle.law_times.proofs.Orders.{same_times}
use Rattle.alw_mesh.specs.Histories.{History, IsRun, grown, entry_of, state_of}
use Rattle.alw_times.specs.declared.costs.Costs.{Costs}
use Rattle.alw_due.specs.Due.{times_in, EventsAreTimed}
use Rattle.alw_due.proofs.Mains.{here}
use Rattle.law_windows.specs.Turns.{in_turn, GoInTurn, IsSortOf, events_told, AreAlike}
use Rattle.law_windows.specs.Windows.{lookahead, start_next, grown_by, StartBelow, IsWindow, NothingIsLeft, events_of, timeline, told_of}
use Rattle.law_windows.proofs.ByNode.{same_members}
use Rattle.law_windows.proofs.Choices.{with_journal, run_grows}
use Rattle.law_windows.proofs.Going as going
use Rattle.law_windows.proofs.InOrder.{AreFirst, Remains, Stand, Takes, takes, node_past}
use Rattle.law_windows.proofs.InTurn as turn
use Rattle.law_windows.proofs.Limits.{Leads, LiftsNone, leads_itself, none_between}
use Rattle.law_windows.proofs.Merges.{told_there}
use Rattle.law_windows.proofs.Passing.{AllCome, AllPass, Goes, goes, all_run, all_lead, all_come, under_way_first, grown_journal, lifts_no_limit, entries_by, entries_at}

-- ---- events that come, of whatever nodes

module _ (costs : Costs) (from : ℕ) where
  told_beyond : (g : History) (events : List Event) (n : ℕ) → AllCome costs from g events → node_count g.image ≤ n → told_of n (timeline g costs events) ≡ []
  told_beyond g [] n come le = refl
  told_beyond g (event ∷ rest) n come le =
      let exists = here g event come.0.due.may in
      told_there n (start_next g costs event, event) (timeline (grown g event) costs rest) (λ same. absurd (omega (arith, exists, le, same)))
      ∙ told_beyond (grown g event) rest n come.1 le

  entries_beyond : (g : History) (events : List Event) (n : ℕ) → AllCome costs from g events → node_count g.image ≤ n → entries_at n (entries_by g events) ≡ []
  entries_beyond g [] n come le = refl
  entries_beyond g (event ∷ rest) n come le =
      let exists = here g event come.0.due.may in
      ap (λ b. cond b (entry_of g event ∷ entries_at n (entries_by (grown g event) rest)) (entries_at n (entries_by (grown g event) rest))) (ne_eqb (node_of event) n (λ same. omega (arith, exists, le, same)))
      ∙ entries_beyond (grown g event) rest n come.1 le

  run_by : (g : History) (events : List Event) → IsRun g → AllCome costs from g events → IsRun (with_journal g (g.journal ++ entries_by g events))
  run_by g events run come = subst IsRun (grown_journal g events) (all_run costs from g events run come)

  starts_below : (g : History) (events : List Event) → AllPass costs from g events → StartBelow g costs (from + lookahead costs) events
  starts_below g [] all = tt
  starts_below g (event ∷ rest) all = (all.0.comes.below, starts_below (grown g event) rest all.1)

  -- those that are each the first that is due are timed, where none has trapped behind them
  are_timed : (g : History) (events : List Event) → IsRun g → AllPass costs from g events → AreFirst g costs events → any_trapped (state_of (grown_by g events)) ≡ false → EventsAreTimed g costs events (grown_by g events)
  are_timed g [] run all firsts none = refl
  are_timed g (event ∷ rest) run all firsts none =
      let due = all.0.comes.due in
      let come = all_come costs from g (event ∷ rest) all in
      let none_yet = going.untrapped_front g (entries_by g (event ∷ rest)) run (run_by g (event ∷ rest) run come).legal
      (subst (λ (last : History). any_trapped (state_of last) ≡ false) (grown_journal g (event ∷ rest)) none) in (
        record { going = going.goes g run event due.main due.may none_yet; first = firsts.0 },
        are_timed (grown g event) rest (run_grows g event run due.may) all.1 firsts.1 none,
      )

events_again : (g : History) (costs : Costs) (events : List Event) → events_told (timeline g costs events) ≡ events
events_again g costs [] = refl
events_again g costs (event ∷ rest) = ap (λ (more : List Event). event ∷ more) (events_again (grown g event) costs rest)

-- ---- a window in turn

module _ (h : History) (costs : Costs) (from : ℕ) (nodes : List ℕ) (parts : List (List Event)) (run : IsRun h) (turns : GoInTurn h costs from nodes parts) (sorted : List (ℕ × Event)) (sort : IsSortOf sorted (timeline h costs (in_turn parts))) where
  abbrev events : List Event
  events = in_turn parts

  abbrev end : MachineState
  end = state_of (grown_by h (in_turn parts))

  abbrev told : List Event
  told = events_told sorted

  lifts : LiftsNone h.image h.parameters (state_of h) (state_of (grown_by h (in_turn parts)))
  lifts = turn.lifts costs from h nodes parts run turns

  come : AllCome costs from h (in_turn parts)
  come = turn.come costs from h nodes parts run turns

  whole : Leads (state_of h) (state_of (grown_by h (in_turn parts)))
  whole = turn.whole costs from h nodes parts run turns

  beyond_end : (k : ℕ) → node_count h.image ≤ k → node_at (state_of (grown_by h (in_turn parts))) k ≡ no_node
  beyond_end k le = subst (λ (last : History). node_at (state_of last) k ≡ no_node) (sym (grown_journal h (in_turn parts)))
      (node_past (with_journal h (h.journal ++ entries_by h (in_turn parts))) costs (run_by costs from h (in_turn parts) run come) k le)

  -- all of what each node does alone is told
  remains : (k : ℕ) (exists : k < node_count h.image) → Remains costs from h end lifts h.journal sorted k exists
  remains k exists =
      let alone = turn.alone costs from h nodes parts run turns k exists in
      let last = alone.last in
      record {
        other = h.journal;
        own = events_of k events;
        under = under_way_first costs from h end lifts k exists run;
        alone = turn.is_whole costs from h nodes parts run turns k exists;
        told_is = sort.same k ∙ alone.told_is;
        ends = ap (λ (g : History). node_at (state_of g) k) last.alone_is ∙ (sym last.under.sees.nodes.here ∙ ap (λ (g : History). node_at (state_of g) k) (sym last.all_is));
      }

  stand : Stand costs from h end lifts h.journal sorted
  stand = record {
    run = run;
    since = leads_itself (state_of h);
    merged = sort.merged;
    late = turn.nothing_first costs from h nodes parts run turns;
    each = remains;
    beyond = λ k le. sort.same k ∙ told_beyond costs from h (in_turn parts) k come le;
  }

  all : Takes costs from h end lifts beyond_end whole h.journal sorted
  all = takes costs from h end lifts beyond_end whole h.journal sorted stand

  pub told_again : timeline h costs (events_told sorted) ≡ sorted
  told_again = all.told_is

  pub nothing_left : NothingIsLeft (grown_by h (events_told sorted)) costs (from + lookahead costs)
  nothing_left = all.left

  -- ---- both leave the same

  come_sorted : AllCome costs from h (events_told sorted)
  come_sorted = all_come costs from h (events_told sorted) all.passing

  module _ (n : ℕ) (exists : n < node_count h.image) where
    in_sorted : Goes costs from h end lifts n exists (grown_by h (events_told sorted)) h.journal (events_of n (events_told sorted)) (told_of n (timeline h costs (events_told sorted))) (entries_at n (entries_by h (events_told sorted)))
    in_sorted = goes costs from h end lifts n exists h.journal h.journal (events_told sorted) (under_way_first costs from h end lifts n exists run) whole all.last all.passing

    same_own : events_of n (events_told sorted) ≡ events_of n (in_turn parts)
    same_own =
        let timelines = sym in_sorted.told_is ∙ (ap (told_of n) told_again ∙ (sort.same n ∙ (turn.alone costs from h nodes parts run turns n exists).told_is)) in
        sym (events_again h costs (events_of n (events_told sorted))) ∙ (ap events_told timelines ∙ events_again h costs (events_of n (in_turn parts)))

    entries_here : entries_at n (entries_by h (events_told sorted)) ≡ entries_at n (entries_by h (in_turn parts))
    entries_here = in_sorted.entries_are ∙ (ap (entries_by h) same_own ∙ sym (turn.alone costs from h nodes parts run turns n exists).entries_are)

  same_entries : (n : ℕ) → entries_at n (entries_by h (events_told sorted)) ≡ entries_at n (entries_by h (in_turn parts))
  same_entries n = cases_lt_then (node_count h.image) n (entries_here n)
      (λ le. entries_beyond costs from h (events_told sorted) n come_sorted le ∙ sym (entries_beyond costs from h (in_turn parts) n come le))

  permuted : IsPermutation (h.journal ++ entries_by h (events_told sorted)) (h.journal ++ entries_by h (in_turn parts))
  permuted = IsPermutation-append_right h.journal (entries_by h (events_told sorted)) (entries_by h (in_turn parts))
      (same_members (λ (entry : Entry). node_of entry.event) (entries_by h (events_told sorted)) (entries_by h (in_turn parts)) same_entries)

  pub both_alike : AreAlike costs (grown_by h (events_told sorted)) (grown_by h (in_turn parts))
  both_alike =
      let one = run_by costs from h (events_told sorted) run come_sorted in
      let other = run_by costs from h (in_turn parts) run come in
      record {
        states = ap state_of (grown_journal h (events_told sorted)) ∙ (same_state h.image h.parameters _ _ one.legal other.legal permuted ∙ ap state_of (sym (grown_journal h (in_turn parts))));
        times = ap (λ (g : History). times_in g costs) (grown_journal h (events_told sorted)) ∙ (same_times h.image h.parameters costs _ _ one.legal other.legal permuted ∙ ap (λ (g : History). times_in g costs) (sym (grown_journal h (in_turn parts))));
      }

  pub is_window : IsWindow h costs from (events_told sorted) (grown_by h (events_told sorted))
  is_window = record {
    timed = are_timed costs from h (events_told sorted) run all.passing all.firsts (ap any_trapped both_alike.states ∙ turns.untrapped);
    none_before = turns.none_before;
    within = starts_below costs from h (events_told sorted) all.passing;
    limit = lifts_no_limit h (events_told sorted) (none_between h.image h.parameters (state_of h) end lifts (state_of h) (state_of (grown_by h (events_told sorted)))
        (record { since = leads_itself (state_of h); till = whole }) (record { since = all_lead costs from h (events_told sorted) run come_sorted; till = all.last }));
  }
