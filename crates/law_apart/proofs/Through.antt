-- Window after window: the pictures show the machine that the sort leaves, so that nodes may go apart through the next one.
use Rattle.std.proofs.Common.{◌≡◌, ℕ, ◌+◌, ◌<◌, ◌==◌, List, [], ◌∷◌, ◌++◌, filter, refl, sym, ap, subst, ◌∙◌}
use Rattle.std.proofs.lemmas.List.Elements.{filter-append}
use Rattle.alw_msg.specs.declared.events.Event.{Event}
use Rattle.alw_msg.specs.declared.events.Entry.{Entry}
use Rattle.alw_msg.specs.Events.{node_of}
use Rattle.alw_image.specs.Images.{node_count}
use Rattle.alw_mesh.specs.Histories.{History, IsRun, grown}
use Rattle.alw_times.specs.declared.costs.Costs.{Costs}
use Rattle.alw_due.specs.Due.{times_in, EventsAreTimed}
use Rattle.alw_due.proofs.Timely.{first_may}
use Rattle.law_windows.specs.Following.{GoesOnTo, WindowsFollow}
use Rattle.law_windows.specs.Turns.{in_turn, IsSortOf, events_told, sort_by_start}
use Rattle.law_windows.specs.Windows.{lookahead, start_next, grown_by, NothingIsLeft, timeline, told_of}
use Rattle.law_windows.proofs.Choices.{with_journal, run_grows}
use Rattle.law_windows.proofs.Following.{turns_go}
use Rattle.law_windows.proofs.Passing.{entries_by, grown_journal}
use Rattle.law_windows.proofs.Sorted.{nothing_left, told_again}
use Rattle.law_windows.proofs.Sorting.{is_sorted}
use Rattle.law_apart.specs.Pictures.{Picture, picture_of, IsPicture, Shows}
use Rattle.law_apart.specs.Alone.{told_in}
use Rattle.law_apart.specs.Apart.{nodes_of, parts_of, GoApart}
use Rattle.law_apart.specs.Through.{handed_over, pictures_behind, told_through, TakeWindow, TakeWindows, window_of, windows_of, machine_behind, AreShown}
use Rattle.law_apart.proofs.Come.{all_come_is}
use Rattle.law_apart.proofs.Runs.{run_is}
use Rattle.law_apart.proofs.Whole.{turns, told, shows_sorted}

timeline_both : (g : History) (costs : Costs) (xs ys : List Event) → timeline g costs (xs ++ ys) ≡ timeline g costs xs ++ timeline (grown_by g xs) costs ys
timeline_both g costs [] ys = refl
timeline_both g costs (event ∷ xs) ys = ap (λ told. (start_next g costs event, event) ∷ told) (timeline_both (grown g event) costs xs ys)

events_run : (g : History) (costs : Costs) (events : List Event) (after : History) → IsRun g → EventsAreTimed g costs events after → IsRun (grown_by g events)
events_run g costs [] after run are = run
events_run g costs (event ∷ rest) after run are = events_run (grown g event) costs rest after (run_grows g event run (first_may g costs (times_in g costs) event are.0.first)) are.1

module _ (h : History) (costs : Costs) where
  -- ---- one window

  module _ (journal : List Entry) (from : ℕ) (pictures : ℕ → Picture) (own : ℕ → List Event) (are : AreShown (with_journal h journal) costs from pictures)
      (take : TakeWindow h.image h.parameters costs from pictures own) where
    apart : GoApart (with_journal h journal) costs from pictures own
    apart = record { nothing_left = are.nothing_left; are = are.are; show = are.show; runs = take.runs; untrapped = take.untrapped; limit = take.limit }

    abbrev g : History
    g = with_journal h journal

    abbrev sorted : List (ℕ × Event)
    sorted = sort_by_start (timeline (with_journal h journal) costs (in_turn (parts_of (with_journal h journal) own)))

    sort : IsSortOf (sort_by_start (timeline (with_journal h journal) costs (in_turn (parts_of (with_journal h journal) own)))) (timeline (with_journal h journal) costs (in_turn (parts_of (with_journal h journal) own)))
    sort = is_sorted g costs from (nodes_of g) (parts_of g own) are.run (turns g costs from pictures own are.run apart)

    abbrev next : List Entry
    next = journal ++ entries_by (with_journal h journal) (window_of (with_journal h journal) costs own)

    grew : grown_by (with_journal h journal) (window_of (with_journal h journal) costs own) ≡ with_journal h next
    grew = grown_journal g (window_of g costs own)

    goes : GoesOnTo (with_journal h journal) costs (from + lookahead costs) (window_of (with_journal h journal) costs own)
    goes = turns_go g costs from (nodes_of g) (parts_of g own) are.run (turns g costs from pictures own are.run apart) sorted sort

    -- the pictures show the machine behind it
    shown : AreShown (with_journal h next) costs (from + lookahead costs) (handed_over h.image h.parameters costs pictures own)
    shown = record {
      run = subst IsRun grew (events_run g costs (window_of g costs own) (grown_by g (window_of g costs own)) are.run goes.timed);
      nothing_left = subst (λ (last : History). NothingIsLeft last costs (from + lookahead costs)) grew goes.left;
      are = λ n exists. all_come_is h.image n _ (nodes_of g) _ (run_is h.image h.parameters costs n (from + lookahead costs) (pictures n) (own n) (are.are n exists) (take.runs n exists).runs);
      show = λ n exists. subst (λ (last : History). Shows h.image n (picture_of last costs) (handed_over h.image h.parameters costs pictures own n)) grew
          (shows_sorted g costs from pictures own are.run apart n exists sorted sort);
    }

    -- what is told of a node there
    told_there : (n : ℕ) → n < node_count h.image → told_of n (timeline (with_journal h journal) costs (window_of (with_journal h journal) costs own)) ≡ told_in h.image h.parameters costs (pictures n) (own n)
    told_there n exists =
        let go = turns g costs from pictures own are.run apart in
        ap (told_of n) (told_again g costs from (nodes_of g) (parts_of g own) are.run go sorted sort)
        ∙ (sort.same n ∙ told g costs from pictures own are.run apart (nodes_of g) (parts_of g own) go n exists)

  -- ---- all of them

  pub record Taken (g : History) (from : ℕ) (pictures : ℕ → Picture) (windows : List (ℕ → List Event)) : Type 0 where
    pub follow : WindowsFollow g costs from (windows_of g costs windows) (machine_behind g costs windows)
    pub shown : (n : ℕ) → n < node_count h.image → Shows h.image n (picture_of (machine_behind g costs windows) costs) (pictures_behind h.image h.parameters costs pictures windows n)
    pub told : (n : ℕ) → n < node_count h.image → told_of n (timeline g costs (in_turn (windows_of g costs windows))) ≡ told_through h.image h.parameters costs pictures n windows

  module _ (journal : List Entry) (own : ℕ → List Event) where
    abbrev events : List Event
    events = window_of (with_journal h journal) costs own

    abbrev after : History
    after = grown_by (with_journal h journal) (window_of (with_journal h journal) costs own)

  then_taken : (journal : List Entry) (from : ℕ) (pictures : ℕ → Picture) (own : ℕ → List Event) (windows : List (ℕ → List Event)) → AreShown (with_journal h journal) costs from pictures →
      TakeWindow h.image h.parameters costs from pictures own → Taken (after journal own) (from + lookahead costs) (handed_over h.image h.parameters costs pictures own) windows →
      Taken (with_journal h journal) from pictures (own ∷ windows)
  then_taken journal from pictures own windows are take rest = record {
    follow = (goes journal from pictures own are take, rest.follow);
    shown = rest.shown;
    told = λ n exists.
        ap (told_of n) (timeline_both (with_journal h journal) costs (events journal own) (in_turn (windows_of (after journal own) costs windows)))
        ∙ (filter-append (λ (one : ℕ × Event). node_of one.1 == n) (timeline (with_journal h journal) costs (events journal own)) (timeline (after journal own) costs (in_turn (windows_of (after journal own) costs windows)))
        ∙ (λ x. told_there journal from pictures own are take n exists x ++ rest.told n exists x));
  }

  taken : (journal : List Entry) (from : ℕ) (pictures : ℕ → Picture) (windows : List (ℕ → List Event)) → AreShown (with_journal h journal) costs from pictures →
      TakeWindows h.image h.parameters costs from pictures windows → Taken (with_journal h journal) from pictures windows
  taken journal from pictures [] are take = record { follow = refl; shown = are.show; told = λ n exists. refl }
  taken journal from pictures (own ∷ windows) are take =
      let over = handed_over h.image h.parameters costs pictures own in
      let rest = taken (next journal from pictures own are take.0) (from + lookahead costs) over windows (shown journal from pictures own are take.0) take.1 in
      then_taken journal from pictures own windows are take.0 (subst (λ (last : History). Taken last (from + lookahead costs) over windows) (sym (grew journal from pictures own are take.0)) rest)

pub all_taken : (h : History) (costs : Costs) (from : ℕ) (pictures : ℕ → Picture) (windows : List (ℕ → List Event)) → AreShown h costs from pictures →
    TakeWindows h.image h.parameters costs from pictures windows → Taken h costs h from pictures windows
all_taken h costs from pictures windows are take = taken h costs h.journal from pictures windows are take
