-- Windows one behind another: each begins where nothing is left, so that their events come in the order of their starts.
use Rattle.std.proofs.Common.{ℕ, ◌+◌, ◌*◌, ◌<◌, ◌≤◌, List, [], ◌∷◌, ◌++◌, length, inl, refl, subst, arith}
use Rattle.std.specs.List.{AllByRecursion}
use Rattle.alw_msg.specs.declared.events.Event.{Event}
use Rattle.alw_msg.specs.Events.{node_of}
use Rattle.alw_mesh.specs.Histories.{History, IsRun, grown}
use Rattle.alw_times.specs.declared.costs.Costs.{Costs}
use Rattle.alw_due.specs.Due.{times_in, IsFirstDue, EventsAreTimed}
use Rattle.alw_due.proofs.Members.{next_main}
use Rattle.alw_due.proofs.Timely.{in_next_of, first_due, first_may}
use Rattle.law_windows.specs.Following.{GoesOnTo, WindowsFollow, AreWindows}
use Rattle.law_windows.specs.Turns.{in_turn, GoInTurn, IsSortOf, events_told}
use Rattle.law_windows.specs.Windows.{lookahead, start_next, grown_by, StartBelow, IsWindow, NothingIsLeft, timeline, NoLater, AreMerged}
use Rattle.law_windows.proofs.Choices.{run_grows}
use Rattle.law_windows.proofs.Merges.{windows_ascend}
use Rattle.law_windows.proofs.Sorted as sorts
use Rattle.law_windows.proofs.Windows.{AreWithin, all_within}

-- ---- a window may begin

-- where nothing is left below a time, the first that is due doesn't start before it
pub none_before : (h : History) (costs : Costs) (from : ℕ) → NothingIsLeft h costs from → (event : Event) → IsFirstDue h costs (times_in h costs) event → from ≤ start_next h costs event
none_before h costs from nothing event first =
    let times = times_in h costs in
    nothing (node_of event) event (record {
      node = refl;
      main = next_main h event (in_next_of h costs times event first);
      may = first_may h costs times event first;
      due = first_due h costs times event first;
    })

is_window : (h : History) (costs : Costs) (from : ℕ) (events : List Event) → NothingIsLeft h costs from → GoesOnTo h costs (from + lookahead costs) events → IsWindow h costs from events (grown_by h events)
is_window h costs from events nothing goes = record { timed = goes.timed; none_before = none_before h costs from nothing; within = goes.within; limit = goes.limit }

-- what is told of nodes in turn, once it is sorted, goes to the window's end
pub turns_go : (h : History) (costs : Costs) (from : ℕ) (nodes : List ℕ) (parts : List (List Event)) → IsRun h → GoInTurn h costs from nodes parts → (sorted : List (ℕ × Event)) → IsSortOf sorted (timeline h costs (in_turn parts)) →
    GoesOnTo h costs (from + lookahead costs) (events_told sorted)
turns_go h costs from nodes parts run turns sorted sort =
    let window = sorts.is_window h costs from nodes parts run turns sorted sort in
    record { timed = window.timed; within = window.within; left = sorts.nothing_left h costs from nodes parts run turns sorted sort; limit = window.limit }

-- ---- two runs of events, one behind the other

module _ (costs : Costs) where
  timed_run : (g : History) (events : List Event) (after : History) → IsRun g → EventsAreTimed g costs events after → IsRun (grown_by g events)
  timed_run g [] after run are = run
  timed_run g (event ∷ rest) after run are = timed_run (grown g event) rest after (run_grows g event run (first_may g costs (times_in g costs) event are.0.first)) are.1

  both_timed : (g : History) (xs ys : List Event) (after : History) → EventsAreTimed g costs xs (grown_by g xs) → EventsAreTimed (grown_by g xs) costs ys after → EventsAreTimed g costs (xs ++ ys) after
  both_timed g [] ys after one other = other
  both_timed g (event ∷ xs) ys after one other = (one.0, both_timed (grown g event) xs ys after one.1 other)

  -- each that is told starts at a time or later
  abbrev StartFrom : ℕ → List (ℕ × Event) → Type 0
  StartFrom time told = AllByRecursion (λ (one : ℕ × Event). time ≤ one.0) told

  sooner : (time earlier : ℕ) (told : List (ℕ × Event)) → earlier ≤ time → StartFrom time told → StartFrom earlier told
  sooner time earlier [] le all = tt
  sooner time earlier (one ∷ rest) le all = (let late = all.0 in omega (arith, le, late), sooner time earlier rest le all.1)

  both_late : (from : ℕ) (g : History) (xs ys : List Event) → AreWithin costs from g xs → StartFrom from (timeline (grown_by g xs) costs ys) → StartFrom from (timeline g costs (xs ++ ys))
  both_late from g [] ys within late = late
  both_late from g (event ∷ xs) ys within late = (within.0.late, both_late from (grown g event) xs ys within.1 late)

  -- one that starts below a bound comes no later than all that start behind it
  no_later : (bound : ℕ) (one : ℕ × Event) (told : List (ℕ × Event)) → one.0 < bound → StartFrom bound told → AllByRecursion (NoLater one) told
  no_later bound one [] below late = tt
  no_later bound one (other ∷ rest) below late = (inl (let le = late.0 in omega (arith, below, le)), no_later bound one rest below late.1)

  both_no_later : (bound : ℕ) (one : ℕ × Event) (g : History) (xs ys : List Event) → one.0 < bound → AllByRecursion (NoLater one) (timeline g costs xs) → StartFrom bound (timeline (grown_by g xs) costs ys) →
      AllByRecursion (NoLater one) (timeline g costs (xs ++ ys))
  both_no_later bound one g [] ys below all late = no_later bound one (timeline g costs ys) below late
  both_no_later bound one g (event ∷ xs) ys below all late = (all.0, both_no_later bound one (grown g event) xs ys below all.1 late)

  both_ascend : (bound : ℕ) (g : History) (xs ys : List Event) → StartBelow g costs bound xs → AreMerged (timeline g costs xs) → StartFrom bound (timeline (grown_by g xs) costs ys) →
      AreMerged (timeline (grown_by g xs) costs ys) → AreMerged (timeline g costs (xs ++ ys))
  both_ascend bound g [] ys below merged late also = also
  both_ascend bound g (event ∷ xs) ys below merged late also = (
    both_no_later bound (start_next g costs event, event) (grown g event) xs ys below.0 merged.0 late,
    both_ascend bound (grown g event) xs ys below.1 merged.1 late also,
  )

  -- ---- windows one behind another

  pub are_windows : (h : History) (from : ℕ) (windows : List (List Event)) (after : History) → IsRun h → NothingIsLeft h costs from → WindowsFollow h costs from windows after → AreWindows h costs from windows
  are_windows h from [] after run nothing follow = tt
  are_windows h from (events ∷ windows) after run nothing follow = (
    is_window h costs from events nothing follow.0,
    are_windows (grown_by h events) (from + lookahead costs) windows after (timed_run h events (grown_by h events) run follow.0.timed) follow.0.left follow.1,
  )

  pub are_timed : (h : History) (from : ℕ) (windows : List (List Event)) (after : History) → WindowsFollow h costs from windows after → EventsAreTimed h costs (in_turn windows) after
  are_timed h from [] after follow = follow
  are_timed h from (events ∷ windows) after follow = both_timed h events (in_turn windows) after follow.0.timed (are_timed (grown_by h events) (from + lookahead costs) windows after follow.1)

  all_late : (h : History) (from : ℕ) (windows : List (List Event)) → IsRun h → AreWindows h costs from windows → StartFrom from (timeline h costs (in_turn windows))
  all_late h from [] run are = tt
  all_late h from (events ∷ windows) run are =
      let after = grown_by h events in
      let end = from + lookahead costs in
      let more = all_late (grown_by h events) (from + lookahead costs) windows (timed_run h events after run are.0.timed) are.1 in
      both_late from h events (in_turn windows) (all_within costs from h events (grown_by h events) run are.0) (sooner end from (timeline (grown_by h events) costs (in_turn windows)) (omega arith) more)

  pub all_ascend : (h : History) (from : ℕ) (windows : List (List Event)) → IsRun h → AreWindows h costs from windows → AreMerged (timeline h costs (in_turn windows))
  all_ascend h from [] run are = tt
  all_ascend h from (events ∷ windows) run are =
      let next = timed_run h events (grown_by h events) run are.0.timed in
      both_ascend (from + lookahead costs) h events (in_turn windows) are.0.within (windows_ascend h costs from events (grown_by h events) run are.0)
      (all_late (grown_by h events) (from + lookahead costs) windows next are.1) (all_ascend (grown_by h events) (from + lookahead costs) windows next are.1)

  pub none_left : (h : History) (from : ℕ) (windows : List (List Event)) (after : History) → NothingIsLeft h costs from → WindowsFollow h costs from windows after → NothingIsLeft after costs (from + length windows * lookahead costs)
  none_left h from [] after nothing follow = λ n event due. let le = subst (λ (last : History). NothingIsLeft last costs from) follow nothing n event due in omega (arith, le)
  none_left h from (events ∷ windows) after nothing follow = λ n event due.
      let le = none_left (grown_by h events) (from + lookahead costs) windows after follow.0.left follow.1 n event due in omega (arith, le)
