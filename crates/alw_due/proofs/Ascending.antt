-- Along a timed run no start is earlier than the one before it, as long as not every context halts.
use Rattle.std.proofs.Common.{◌≡◌, ◌≢◌, ℕ, zero, suc, ◌+◌, ◌*◌, ◌≤◌, ◌==◌, max, Bool, true, false, cond, Option, Some, None, List, [], ◌∷◌, ◌++◌, length, length-append, slice_index_or, slice_set, refl, sym, ap, subst, ◌∙◌, arith}
use Rattle.std.specs.List.{AllByRecursion}
use Rattle.std.proofs.lemmas.List.{nil_from_length}
use Rattle.alw_num.proofs.Weigh.{is_node}
use Rattle.alw_msg.specs.declared.messages.Msg.{Msg}
use Rattle.alw_msg.specs.declared.events.Event.{Event}
use Rattle.alw_msg.specs.declared.events.Event.TheVariants.{Instr, Handle, Deliver, Evict}
use Rattle.alw_msg.specs.Events.{node_of, is_evict}
use Rattle.alw_msg.specs.Lists.{front}
use Rattle.alw_image.specs.declared.parts.Parts.{Parts}
use Rattle.alw_image.specs.Images.{hops_between}
use Rattle.alw_model.specs.Machine.{is_enabled, has_halted, link_place}
use Rattle.alw_model.proofs.Journals.{and_parts, legal_push}
use Rattle.alw_times.specs.declared.costs.Costs.{Costs}
use Rattle.alw_times.specs.Times.{Times, Outgoing, queue_at, first_time, cost_of, leaves_at, length_of, arrivals_taken, joined, sent_one, sent, outgoing_at, taken_after}
use Rattle.alw_times.proofs.Rising.{starts_rise}
use Rattle.law_times.proofs.Beside.{beside_at}
use Rattle.law_times.proofs.Counted.{AreAsMany, has_time}
use Rattle.law_order.proofs.Local.{has_front}
use Rattle.alw_ready.specs.Rows.{delivery}
use Rattle.alw_ready.specs.Changes.{is_fed_for}
use Rattle.alw_mesh.specs.Histories.{History, IsRun, grown, entry_of, state_of, may_be_next}
use Rattle.alw_mesh.specs.Ends.{next_events}
use Rattle.alw_mesh.proofs.Carriers.{none_is_empty}
use Rattle.alw_due.specs.Due.{times_in, start_for, is_due_for, EventIsTimed, EventsAreTimed, StartsAscend}
use Rattle.alw_due.proofs.Left as left
use Rattle.alw_due.proofs.Mains.{here, in_next}
use Rattle.alw_due.proofs.Members.{kept, next_main}
use Rattle.alw_due.proofs.Renewed.{fed_is}
use Rattle.alw_due.proofs.Timely.{in_next_of, first_due, first_may, next_is, none_earlier}

-- ---- what is sent arrives no earlier than it leaves

abbrev AreFrom : ℕ → List ℕ → Type 0
AreFrom leave queue = AllByRecursion (λ time. leave ≤ time) queue

from_push : (leave : ℕ) (queue : List ℕ) (time : ℕ) → leave ≤ time → AreFrom leave queue → AreFrom leave (queue ++ time ∷ [])
from_push leave [] time le all = (le, tt)
from_push leave (first ∷ rest) time le all = (all.0, from_push leave rest time le all.1)

first_from : (leave : ℕ) (queue : List ℕ) (time : ℕ) → front queue ≡ Some time → AreFrom leave queue → leave ≤ first_time queue
first_from leave [] time is all = absurd (cc)
first_from leave (first ∷ rest) time is all = all.0

-- a queue at a place, once one was put at another or there
put_read : (P : List ℕ → Type 0) (queues : List (List ℕ)) (k p : ℕ) (queue : List ℕ) → P (queue_at queues p) → (k ≡ p → P queue) → P (queue_at (slice_set queues k queue) p)
put_read P [] k p queue old new = old
put_read P (first ∷ rest) zero zero queue old new = new refl
put_read P (first ∷ rest) zero (suc p) queue old new = old
put_read P (first ∷ rest) (suc k) zero queue old new = old
put_read P (first ∷ rest) (suc k) (suc p) queue old new = put_read P rest k p queue old (λ same. new (ap suc same))

module _ (parts : Parts) (costs : Costs) (from leave p : ℕ) where
  joined_from : (to time : ℕ) (arrivals : List (List ℕ)) → leave ≤ time → AreFrom leave (queue_at arrivals p) → AreFrom leave (queue_at (joined parts from to time arrivals) p)
  joined_from to time arrivals le all = put_read (AreFrom leave) arrivals (link_place parts from to) p _ all
      (λ same. from_push leave (queue_at arrivals (link_place parts from to)) time le (subst (λ (k : ℕ). AreFrom leave (queue_at arrivals k)) (sym same) all))

  one_from : (out : Outgoing) (send : ℕ × Msg) → AreFrom leave (queue_at out.arrivals p) → AreFrom leave (queue_at (sent_one parts costs from leave out send).arrivals p)
  one_from out send all = by_test (send.0 == from)
    where
      free : ℕ
      free = max out.port leave + length_of costs send.1.kind

      by_test : (b : Bool) → AreFrom leave (queue_at (cond {A = Outgoing} b (record { port = out.port; arrivals = joined parts from send.0 leave out.arrivals })
          (record { port = free; arrivals = joined parts from send.0 (free + costs.hop * hops_between parts from send.0) out.arrivals })).arrivals p)
      by_test true = joined_from send.0 leave out.arrivals (omega arith) all
      by_test false = joined_from send.0 (free + costs.hop * hops_between parts from send.0) out.arrivals (omega arith) all

  sent_from : (sends : List (ℕ × Msg)) (out : Outgoing) → AreFrom leave (queue_at out.arrivals p) → AreFrom leave (queue_at (sent parts costs from leave out sends).arrivals p)
  sent_from [] out all = all
  sent_from (send ∷ rest) out all = sent_from rest (sent_one parts costs from leave out send) (one_from out send all)

taken_from : (parts : Parts) (event : Event) (leave p : ℕ) (arrivals : List (List ℕ)) → queue_at arrivals p ≡ [] → AreFrom leave (queue_at (arrivals_taken parts event arrivals) p)
taken_from parts (Instr at) leave p arrivals none = rw none tt
taken_from parts (Handle at) leave p arrivals none = rw none tt
taken_from parts (Deliver from to) leave p arrivals none = put_read (AreFrom leave) arrivals (link_place parts from.0 to.0) p _ (rw none tt)
    (λ same. rw (ap (λ k. queue_at arrivals k) same ∙ none) tt)
taken_from parts (Evict at set) leave p arrivals none = rw none tt

leaves_late : (event : Event) (start cost : ℕ) → start ≤ leaves_at event start (start + cost)
leaves_late (Instr at) start cost = omega arith
leaves_late (Handle at) start cost = omega arith
leaves_late (Deliver from to) start cost = omega arith
leaves_late (Evict at set) start cost = omega arith

-- ---- two events

module _ (h : History) (costs : Costs) (event : Event) (run : IsRun h) (timed : EventIsTimed h costs event) where
  abbrev g : History
  g = grown h event

  abbrev times : Times
  times = times_in h costs

  abbrev later : Times
  later = times_in g costs

  abbrev n : ℕ
  n = node_of event

  may : may_be_next h event ≡ true
  may = first_may h costs times event timed.first

  run_grows : IsRun g
  run_grows = record {
    image = run.image;
    parameters = run.parameters;
    legal = legal_push h.image h.parameters h.journal (entry_of h event) run.legal (next_is h event (entry_of h event) may refl refl);
    joined = omega (arith, run.joined, length-append h.journal (entry_of h event ∷ []));
  }

  module _ (alike : has_halted (state_of g) ≡ has_halted (state_of h)) where
    same : has_halted (left.next h costs event run may) ≡ has_halted (state_of h)
    same = ap has_halted (sym (left.after_is h costs event run may)) ∙ alike

    -- what might be next before, and is due, was due
    was_due : (other : Event) → node_of other ≢ n → is_evict other ≡ false → may_be_next h other ≡ true → is_due_for g costs later other ≡ true → start_for h costs times event ≤ start_for g costs later other
    was_due other apart main might due =
        let due_then = sym (left.due_stays h costs event run may same other apart might) ∙ due in
        let there = kept (is_due_for h costs times) (next_events h) other (in_next h other main might) due_then in
        subst (λ (start : ℕ). start_for h costs times event ≤ start) (sym (left.start_stays h costs event run may same other apart might)) (none_earlier h costs event timed there.place other there.stands)

    -- what might not is of a message that came on an empty link
    module _ (m : ℕ) (apart : m ≢ n) (can : may_be_next g (delivery n m) ≡ true) (isnt : may_be_next h (delivery n m) ≡ false) where
      abbrev p : ℕ
      p = link_place h.image n m

      none_there : (head : Option Msg) → front (slice_index_or (state_of h).links p []) ≡ head → head ≡ None
      none_there None is = refl
      none_there (Some msg) is = absurd (let as_before = left.may_alike h costs event run may same (delivery n m) apart (here g (delivery n m) can) (msg, is) in cc)

      queue_is : queue_at times.arrivals p ≡ []
      queue_is = nil_from_length (queue_at times.arrivals p)
          (beside_at AreAsMany times.arrivals (state_of h).links p [] [] refl (left.are h costs event run may).arrivals ∙ ap length (none_is_empty (slice_index_or (state_of h).links p []) (none_there _ refl)))

      abbrev leave : ℕ
      leave = leaves_at event (start_for h costs times event) (start_for h costs times event + cost_of costs (left.happened h costs event run may) (left.sends h costs event run may))

      all_from : AreFrom leave (queue_at later.arrivals p)
      all_from = subst (λ (t : Times). AreFrom leave (queue_at t.arrivals p)) (sym (left.times_are h costs event run may))
          (sent_from h.image costs n leave p (left.sends h costs event run may) (outgoing_at (taken_after h.image event times) n) (taken_from h.image event leave p times.arrivals queue_is))

      came_later : start_for h costs times event ≤ start_for g costs later (delivery n m)
      came_later =
          let able = (and_parts (is_enabled g.image g.parameters (state_of g) (delivery n m)) _ can).0 in
          let has = has_time g.image g.parameters later.arrivals (state_of g).links (delivery n m) (left.times_are_of g.image g.parameters costs g.journal run_grows.legal).arrivals
          (has_front g.image g.parameters (state_of g) (delivery n m) able) in
          let first = first_from leave (queue_at later.arrivals p) has.0 has.1 all_from in
          let late = leaves_late event (start_for h costs times event) (cost_of costs (left.happened h costs event run may) (left.sends h costs event run may)) in
          omega (arith, first, late)

    elsewhere : (other : Event) → EventIsTimed g costs other → node_of other ≢ n → (might fed : Bool) → may_be_next h other ≡ might → is_fed_for n (left.sends h costs event run may) other ≡ fed →
        start_for h costs times event ≤ start_for g costs later other
    elsewhere other also apart true fed is from = was_due other apart (next_main g other (in_next_of g costs later other also.first)) is (first_due g costs later other also.first)
    elsewhere other also apart false true is from =
        let same_event = fed_is n (node_of other) (left.sends h costs event run may) other from refl in
        subst (λ (e : Event). start_for h costs times event ≤ start_for g costs later e) (sym same_event)
        (came_later (node_of other) apart (ap (may_be_next g) (sym same_event) ∙ first_may g costs later other also.first) (ap (may_be_next h) (sym same_event) ∙ is))
    elsewhere other also apart false false is from =
        absurd (let can = first_may g costs later other also.first in let before = left.before_too h costs event run may same other apart (here g other can) from in cc)

    ascends : (other : Event) → EventIsTimed g costs other → start_for h costs times event ≤ start_for g costs later other
    ascends other also = is_node (start_for h costs times event ≤ start_for g costs later other) (node_of other) n
        (λ is. starts_rise h.image h.parameters costs h.journal [] (entry_of h event) (entry_of g other) (here h event may) is)
        (λ apart. elsewhere other also apart (may_be_next h other) (is_fed_for n (left.sends h costs event run may) other) refl refl)

pub all_ascend : (h : History) (costs : Costs) (events : List Event) (after : History) → IsRun h → EventsAreTimed h costs events after → StartsAscend h costs events
all_ascend h costs [] after run are = tt
all_ascend h costs (event ∷ []) after run are = tt
all_ascend h costs (event ∷ other ∷ rest) after run are = (λ alike. ascends h costs event run are.0 alike other are.1.0, all_ascend (grown h event) costs (other ∷ rest) after (run_grows h costs event run are.0) are.1)
