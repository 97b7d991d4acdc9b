-- A picture that shows a node of a machine, once an event of the machine has happened.
use Rattle.std.proofs.Common.{◌≡◌, ◌≢◌, ℕ, ◌+◌, ◌<◌, ◌≤◌, true, IsTrue, List, ◌↔◌, sym, subst}
use Rattle.alw_msg.specs.declared.messages.Msg.{Msg}
use Rattle.alw_msg.specs.declared.events.Event.{Event}
use Rattle.alw_msg.specs.Events.{node_of}
use Rattle.alw_image.specs.Images.{node_count}
use Rattle.alw_model.specs.Machine.{taken_by, is_enabled}
use Rattle.alw_model.proofs.Journals.{and_parts}
use Rattle.alw_mesh.specs.Histories.{History, IsRun, grown, state_of, may_be_next}
use Rattle.alw_times.specs.declared.costs.Costs.{Costs}
use Rattle.law_times.proofs.Orders.{AreTimesOf}
use Rattle.law_windows.specs.Windows.{lookahead, start_next, ComesBelow}
use Rattle.law_apart.specs.Pictures.{Picture, picture_of, IsPicture, ShowsBelow, ShowsBut, Shows, and_come}
use Rattle.law_apart.specs.Alone.{LimitHolds, start_in, finish_in, after_in, ComesIn, sent_by}
use Rattle.law_apart.proofs.Shown.{SeesPart, are_of, machine_is, sees_of, shows_of}
use Rattle.law_apart.proofs.Chooses.{takes, start_same, comes_in_other, comes_in_one}
use Rattle.law_apart.proofs.Machines.{grown_is, comes_is}
use Rattle.law_apart.proofs.Runs.{enabled_in}
use Rattle.law_apart.proofs.Steps.{own_sees, other_shows, finish_same, sent_same}
use Rattle.law_apart.proofs.Exact.{own_exact, other_more}

-- what may be next is enabled
pub able : (h : History) (event : Event) → may_be_next h event ≡ true → IsTrue (is_enabled h.image h.parameters (state_of h) event)
able h event may = (and_parts (is_enabled h.image h.parameters (state_of h) event) _ may).0

module _ (h : History) (costs : Costs) (n bound : ℕ) (part : Picture) (run : IsRun h) (holds : LimitHolds h) (also : IsPicture h.image part)
    (shows : ShowsBelow h.image n bound (picture_of h costs) part) where
  abbrev whole : Picture
  whole = picture_of h costs

  are : AreTimesOf h.image h.parameters costs (picture_of h costs).times (picture_of h costs).state
  are = are_of h.image h.parameters costs (picture_of h costs) (machine_is h costs run)

  are' : AreTimesOf h.image h.parameters costs part.times part.state
  are' = are_of h.image h.parameters costs part also

  sees : SeesPart h.image n (picture_of h costs) part bound
  sees = sees_of h.image n (picture_of h costs) part bound shows

  pub comes_alike : (event : Event) → ComesBelow h costs n bound event ↔ ComesIn h.image h.parameters costs part n bound event
  comes_alike event = (
    λ comes. comes_in_other h.image h.parameters costs n bound whole part are are' sees event ((comes_is h costs run holds n bound event).0 comes),
    λ comes. (comes_is h costs run holds n bound event).1 (comes_in_one h.image h.parameters costs n bound whole part are are' sees event comes),
  )

  pub start_alike : (event : Event) → ComesBelow h costs n bound event → start_in h.image h.parameters costs part event ≡ start_next h costs event
  start_alike event comes = sym (start_same h.image h.parameters costs n bound whole part are are' sees event ((comes_is h costs run holds n bound event).0 comes))

  module _ (event : Event) (comes : ComesBelow h costs n bound event) where
    enabled' : IsTrue (is_enabled h.image h.parameters part.state event)
    enabled' = enabled_in h.image h.parameters costs n bound part event ((comes_alike event).0 comes)

    sees_here : SeesPart h.image (node_of event) (picture_of h costs) part bound
    sees_here = subst (λ (k : ℕ). SeesPart h.image k (picture_of h costs) part bound) (sym comes.due.node) sees

    pub own_shows : ShowsBelow h.image n bound (picture_of (grown h event) costs) (after_in h.image h.parameters costs part event)
    own_shows =
        let then = after_in h.image h.parameters costs part event in
        subst (λ (next : Picture). ShowsBelow h.image n bound next then) (sym (grown_is h costs event run comes.due.may))
        (shows_of h.image n (after_in h.image h.parameters costs whole event) then bound
        (subst (λ (k : ℕ). SeesPart h.image k (after_in h.image h.parameters costs whole event) then bound) comes.due.node
        (own_sees h.image h.parameters costs whole part event bound (machine_is h costs run) also enabled' sees_here)))

    taken_same : taken_by h.image (state_of h) event ≡ taken_by h.image part.state event
    taken_same = (takes h.image h.parameters costs n bound whole part are are' sees event comes.due.node enabled').taken

    pub finish_alike : finish_in h.image h.parameters costs (picture_of h costs) event ≡ finish_in h.image h.parameters costs part event
    finish_alike = finish_same h.image h.parameters costs whole part event bound sees_here taken_same (sym (start_alike event comes))

    pub sends_alike : (to : ℕ) → sent_by h.image h.parameters costs part to event ≡ sent_by h.image h.parameters costs (picture_of h costs) to event
    sends_alike = sent_same h.image h.parameters costs whole part event bound sees_here taken_same (sym (start_alike event comes))

  pub others_show : n < node_count h.image → (event : Event) → may_be_next h event ≡ true → n ≢ node_of event → bound ≤ start_next h costs event + lookahead costs →
      ShowsBelow h.image n bound (picture_of (grown h event) costs) part
  others_show exists event may apart low =
      subst (λ (next : Picture). ShowsBelow h.image n bound next part) (sym (grown_is h costs event run may))
      (shows_of h.image n (after_in h.image h.parameters costs whole event) part bound
      (other_shows h.image h.parameters costs whole part event n bound (machine_is h costs run) exists apart (able h event may) low sees))

-- the same where it shows the node as it is, or but for what has come
pub exact_next : (h : History) (costs : Costs) (part : Picture) → IsRun h → IsPicture h.image part → (event : Event) → may_be_next h event ≡ true →
    Shows h.image (node_of event) (picture_of h costs) part →
    Shows h.image (node_of event) (picture_of (grown h event) costs) (after_in h.image h.parameters costs part event)
exact_next h costs part run also event may shows =
    subst (λ (next : Picture). Shows h.image (node_of event) next (after_in h.image h.parameters costs part event)) (sym (grown_is h costs event run may))
    (own_exact h.image h.parameters costs (picture_of h costs) part event (machine_is h costs run) (able h event may) also shows)

pub more_next : (h : History) (costs : Costs) (n : ℕ) (come : ℕ → List (Msg × ℕ)) (part : Picture) → IsRun h → n < node_count h.image → ShowsBut h.image n come (picture_of h costs) part →
    (event : Event) → may_be_next h event ≡ true →
    n ≢ node_of event → ShowsBut h.image n (and_come (node_of event) (sent_by h.image h.parameters costs (picture_of h costs) n event) come) (picture_of (grown h event) costs) part
more_next h costs n come part run exists shows event may apart =
    subst (λ (next : Picture). ShowsBut h.image n (and_come (node_of event) (sent_by h.image h.parameters costs (picture_of h costs) n event) come) next part) (sym (grown_is h costs event run may))
    (other_more h.image h.parameters costs (picture_of h costs) part event (machine_is h costs run) (able h event may) n exists apart come shows)
