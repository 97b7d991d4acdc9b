-- The timed schedule: one event more, one run, no end before its last entry, and no start earlier than that of the event taken.
use Rattle.std.proofs.Common.{◌≡◌, ℕ, ◌≤◌, true, None, Some, List, [], ◌∷◌, ◌++◌, slice_get, ◌⊎◌, inl, inr, refl, sym, ap, subst, ◌∙◌, arith}
use Rattle.alw_msg.specs.declared.events.Event.{Event}
use Rattle.alw_msg.specs.declared.events.Entry.{Entry}
use Rattle.alw_image.specs.declared.parts.Parts.{Parts}
use Rattle.alw_image.specs.Parameters.{Parameters}
use Rattle.alw_model.specs.Headline.{IsScheduled}
use Rattle.alw_msg.specs.Events.{node_of}
use Rattle.alw_model.specs.Machine.{is_enabled, stamp_at, IsNext}
use Rattle.alw_model.proofs.Journals.{and_parts}
use Rattle.alw_model.proofs.Schedules.{scheduled_none, scheduled_more}
use Rattle.alw_mesh.specs.Histories.{History, begun, grown, entry_of, state_of, may_be_next}
use Rattle.alw_mesh.specs.Ends.{next_events}
use Rattle.alw_times.specs.declared.costs.Costs.{Costs}
use Rattle.alw_times.specs.Times.{Times}
use Rattle.alw_timing.specs.declared.timing.Timekeeper.{Timekeeper}
use Rattle.alw_timing.specs.Timing.{TimesAreOf, TimesAreKept}
use Rattle.alw_due.specs.Due.{end_in, times_in, start_for, is_due_for, due_events, rank_of, arrived_at, sender_of, key_for, is_before, IsFirstDue, EventIsTimed, EventsAreTimed, MachineIsTimed, IsTimedRun}
use Rattle.alw_due.proofs.Before.{not_both, first_le}
use Rattle.alw_due.proofs.Members.{IsIn, of_kept, next_may, next_main}

-- ---- the event that comes next

pub in_next_of : (h : History) (costs : Costs) (times : Times) (event : Event) → IsFirstDue h costs times event → IsIn (next_events h) event
in_next_of h costs times event first = (of_kept (is_due_for h costs times) (next_events h) event (record { place = first.place; stands = first.stands })).0

-- it is due
pub first_due : (h : History) (costs : Costs) (times : Times) (event : Event) → IsFirstDue h costs times event → is_due_for h costs times event ≡ true
first_due h costs times event first = (of_kept (is_due_for h costs times) (next_events h) event (record { place = first.place; stands = first.stands })).1

-- it may be next, and is no eviction
pub first_may : (h : History) (costs : Costs) (times : Times) (event : Event) → IsFirstDue h costs times event → may_be_next h event ≡ true
first_may h costs times event first = next_may h event (in_next_of h costs times event first)

-- there is one such event
one_first : (h : History) (costs : Costs) (times : Times) (one other : Event) → IsFirstDue h costs times one → IsFirstDue h costs times other → one ≡ other
one_first h costs times one other first also = by_first (first.first also.place other also.stands) (also.first first.place one first.stands)
  where
    by_first : (other ≡ one) ⊎ (is_before (key_for h costs times one) (key_for h costs times other) ≡ true) →
        (one ≡ other) ⊎ (is_before (key_for h costs times other) (key_for h costs times one) ≡ true) → one ≡ other
    by_first (inl same) any = sym same
    by_first (inr lt) (inl same) = same
    by_first (inr lt) (inr more) = absurd (not_both (key_for h costs times one) (key_for h costs times other) lt more)

-- an event more
pub timed_more : (h : History) (costs : Costs) (events : List Event) (mid : History) (event : Event) → EventsAreTimed h costs events mid → EventIsTimed mid costs event →
    EventsAreTimed h costs (events ++ event ∷ []) (grown mid event)
timed_more h costs [] mid event same next = rw same (next, refl)
timed_more h costs (first ∷ rest) mid event are next = (are.0, timed_more (grown h first) costs rest mid event are.1 next)

-- ---- one run

alike : (h : History) (costs : Costs) (events others : List Event) (a b : History) → EventsAreTimed h costs events a → EventsAreTimed h costs others b →
    (end_in a ≡ None → ⊥) → (end_in b ≡ None → ⊥) → a ≡ b
alike h costs [] [] a b here there ended also = sym here ∙ there
alike h costs [] (other ∷ more) a b here there ended also = absurd (ended (ap end_in (sym here) ∙ there.0.going))
alike h costs (event ∷ rest) [] a b here there ended also = absurd (also (ap end_in (sym there) ∙ here.0.going))
alike h costs (event ∷ rest) (other ∷ more) a b here there ended also =
    let same = one_first h costs (times_in h costs) event other here.0.first there.0.first in
    alike (grown h other) costs rest more a b (subst (λ (e : Event). EventsAreTimed (grown h e) costs rest a) same here.1) there.1 ended also

pub one_timed : (before : History) (costs : Costs) (a b : History) → MachineIsTimed before costs a → MachineIsTimed before costs b →
    (end_in a ≡ None → ⊥) → (end_in b ≡ None → ⊥) → a ≡ b
one_timed before costs a b one other ended also = alike before costs one.events other.events a b one.timed_are other.timed_are ended also

-- ---- no end before the last entry

scheduled : (h : History) (costs : Costs) (events : List Event) (after : History) → EventsAreTimed h costs events after →
    IsScheduled h.image h.parameters h.journal → IsScheduled after.image after.parameters after.journal
scheduled h costs [] after are so_far = subst (λ (g : History). IsScheduled g.image g.parameters g.journal) are so_far
scheduled h costs (event ∷ rest) after are so_far =
    scheduled (grown h event) costs rest after are.1
    (scheduled_more h.image h.parameters h.journal (entry_of h event) so_far are.0.going (λ none. next_main h event (in_next_of h costs (times_in h costs) event are.0.first)))

pub timed_scheduled : (image : Parts) (parameters : Parameters) (costs : Costs) (journal : List Entry) → IsTimedRun image parameters costs journal → IsScheduled image parameters journal
timed_scheduled image parameters costs journal timed =
    scheduled (begun image parameters) costs timed.events (record { image = image; parameters = parameters; journal = journal; joined = 0 }) timed.timed_are
    (scheduled_none image parameters)

-- ---- no start is earlier

pub none_earlier : (h : History) (costs : Costs) (event : Event) → EventIsTimed h costs event → (k : ℕ) (other : Event) → slice_get (due_events h costs (times_in h costs)) k ≡ Some other →
    start_for h costs (times_in h costs) event ≤ start_for h costs (times_in h costs) other
none_earlier h costs event timed k other got = by_first (timed.first.first k other got)
  where
    by_first : (other ≡ event) ⊎ (is_before (key_for h costs (times_in h costs) event) (key_for h costs (times_in h costs) other) ≡ true) →
        start_for h costs (times_in h costs) event ≤ start_for h costs (times_in h costs) other
    by_first (inl same) = subst (λ (e : Event). start_for h costs (times_in h costs) event ≤ start_for h costs (times_in h costs) e) (sym same) (omega arith)
    by_first (inr lt) =
        let times = times_in h costs in
        first_le (start_for h costs times event) (start_for h costs times other) (rest_for times event) (rest_for times other) lt
      where
        rest_for : Times → Event → List ℕ
        rest_for times e = node_of e ∷ rank_of e ∷ arrived_at h.image times e ∷ sender_of e ∷ []

-- ---- the loop

-- the entry of an event that may be next is the next one
pub next_is : (h : History) (event : Event) (entry : Entry) → may_be_next h event ≡ true → entry.event ≡ event → entry.stamp ≡ (entry_of h event).stamp → IsNext h.image h.parameters (state_of h) entry
next_is h event entry may event_is stamp_is =
    let parts = and_parts (is_enabled h.image h.parameters (state_of h) event) _ may in
    record { enabled = rw event_is parts.0; within = rw event_is parts.1; stamp = stamp_is ∙ ap (λ e. stamp_at h.image (state_of h) e) (sym event_is) }

-- the events so far are timed, and the times are kept
pub record FinishIsUnderWay (before : History) (start : Timekeeper) (h : History) (now : Timekeeper) : Type 0 where
  pub events : List Event
  pub timed_are : EventsAreTimed before start.costs events h
  pub kept : TimesAreKept start h now

pub begins : (before : History) (start : Timekeeper) → TimesAreKept start before start → FinishIsUnderWay before start before start
begins before start kept = record { events = []; timed_are = refl; kept = kept }

-- times that are kept on, from what was kept
pub kept_on : (start : Timekeeper) (h : History) (now : Timekeeper) (after : History) (later : Timekeeper) → TimesAreKept start h now → TimesAreKept now after later → TimesAreKept start after later
kept_on start h now after later so_far more = record {
  costs_are = more.costs_are ∙ so_far.costs_are;
  are = subst (λ (costs : Costs). TimesAreOf costs after later.times) so_far.costs_are more.are;
  waits_stay = more.waits_stay ∙ so_far.waits_stay;
  spans_stay = more.spans_stay ∙ so_far.spans_stay;
  within = more.within;
  legal = more.legal;
}

pub goes_on : (before : History) (start : Timekeeper) (h : History) (now : Timekeeper) (event : Event) (after : History) (later : Timekeeper) →
    FinishIsUnderWay before start h now → end_in h ≡ None → IsFirstDue h now.costs now.times.clocks event → after ≡ grown h event →
    TimesAreKept now after later → FinishIsUnderWay before start after later
goes_on before start h now event after later so_far going first after_is kept = record {
  events = so_far.events ++ event ∷ [];
  timed_are = rw after_is (timed_more before start.costs so_far.events h event so_far.timed_are (record { going = going; first = first_too }));
  kept = kept_on start h now after later so_far.kept kept;
}
  where
    first_too : IsFirstDue h start.costs (times_in h start.costs) event
    first_too = let c = so_far.kept.costs_are in let t = so_far.kept.are.clocks in subst (λ (ts : Times). IsFirstDue h start.costs ts event) t (subst (λ (cs : Costs). IsFirstDue h cs now.times.clocks event) c first)
