-- The first of the due events of a node stays where an event of another one happens, and not every context halts with it, but for deliveries of what that event sent.
use Rattle.std.proofs.Common.{◌≡◌, ◌≢◌, ℕ, ◌<◌, nat_le, Bool, true, false, not, ◌&&◌, ◌||◌, IsTrue, Option, Some, None, List, [], ◌∷◌, inl, inr, refl, sym, ap, subst, ◌∙◌}
use Rattle.alw_msg.specs.declared.messages.Msg.{Msg}
use Rattle.alw_msg.specs.declared.events.Event.{Event}
use Rattle.alw_msg.specs.declared.events.Event.TheVariants.{Instr, Handle, Deliver, Evict}
use Rattle.alw_msg.specs.declared.events.Entry.{Entry}
use Rattle.alw_msg.specs.Events.{node_of}
use Rattle.alw_image.specs.declared.parts.Parts.{Parts}
use Rattle.alw_image.specs.Images.{node_count}
use Rattle.alw_image.specs.Parameters.{Parameters}
use Rattle.alw_model.specs.declared.steps.Did.TheVariants.{Took}
use Rattle.alw_model.specs.Contexts.{running}
use Rattle.alw_model.specs.NodeStates.{NodeState}
use Rattle.alw_model.specs.Machine.{MachineState, machine_start, node_at, is_enabled, has_halted, stepped_by, step, state, after, AreLegal, IsLegal}
use Rattle.alw_model.specs.Runs.{moments, moments_from}
use Rattle.alw_model.proofs.Journals.{and_parts, state_push}
use Rattle.law_lines.specs.Links.{GoBelow}
use Rattle.law_order.specs.Orders.{SeesAlike}
use Rattle.law_order.proofs.Aimed.{sends_below}
use Rattle.law_order.proofs.Local.{HasFront, node_kept, taken_kept, has_front, enabled_alike, stamp_alike}
use Rattle.law_times.proofs.Apart.{HasTime, start_kept, arrival_kept}
use Rattle.law_times.proofs.Counted.{has_time, runs_within}
use Rattle.law_times.proofs.Orders.{AreTimesOf, start_are, step_are, timed_at}
use Rattle.alw_ready.specs.Fits.{may_happen}
use Rattle.alw_ready.specs.Changes.{is_fed_for}
use Rattle.alw_ready.proofs.Leaves.{other_stays}
use Rattle.alw_mesh.specs.Histories.{History, IsRun, grown, entry_of, state_of, may_be_next, last_sends}
use Rattle.alw_mesh.specs.Moments.{moment_in}
use Rattle.alw_mesh.proofs.Journals.{last_push}
use Rattle.alw_times.specs.declared.costs.Costs.{Costs}
use Rattle.alw_times.specs.declared.happenings.TimedMoment.{TimedMoment}
use Rattle.alw_times.specs.Times.{Times, times_start, queue_at, is_later, timed, timed_all, times_of, start_by, passed}
use Rattle.alw_times.specs.Happening.{happened_of}
use Rattle.alw_times.proofs.Rising.{times_push}
use Rattle.alw_timing.specs.declared.timing.Timekeeper.{Timekeeper}
use Rattle.alw_timing.specs.Timing.{TimesAreKept}
use Rattle.alw_timing.specs.Takes.{halts_with}
use Rattle.alw_timing.proofs.Halting.{halts_alike}
use Rattle.alw_due.specs.declared.keys.Due.{Due}
use Rattle.alw_due.specs.Due.{times_in, slot_for, start_for, is_due_for, rank_of, arrived_at, sender_of, key_for, is_before}
use Rattle.alw_due.specs.Picks.{IsOneOf, IsFirstOf, IsBestOf}
use Rattle.alw_due.specs.Bests.{IsOf, best_at, AreBests, IsBestBut, AreBestsBut}
use Rattle.alw_due.proofs.Mains.{here}
use Rattle.alw_due.proofs.Stays.{packets_stay}

-- ---- times and a machine

module _ (parts : Parts) (parameters : Parameters) (costs : Costs) where
  are_after : (times : Times) (s : MachineState) (journal : List Entry) → AreTimesOf parts parameters costs times s → AreLegal parts parameters s journal →
      AreTimesOf parts parameters costs (timed_all parts costs times (moments_from parts parameters s journal)) (after parts parameters s journal)
  are_after times s [] are legal = are
  are_after times s (entry ∷ rest) are legal =
      are_after (timed_at parts parameters costs times s entry) (step parts parameters s entry.event) rest (step_are parts parameters costs times s entry legal.0.enabled are) legal.1

  pub times_are_of : (journal : List Entry) → IsLegal parts parameters journal → AreTimesOf parts parameters costs (times_of parts parameters costs journal) (state parts parameters journal)
  unfolding times_of moments state
  times_are_of journal legal = are_after (times_start parts costs) (machine_start parts) journal (start_are parts parameters costs) legal

-- ---- an event

module _ (h : History) (costs : Costs) (event : Event) (run : IsRun h) (may : may_be_next h event ≡ true) where
  abbrev pub s : MachineState
  s = state_of h

  abbrev pub next : MachineState
  next = step h.image h.parameters s event

  abbrev pub sends : List (ℕ × Msg)
  sends = (stepped_by h.image h.parameters s event).sends

  abbrev g : History
  g = grown h event

  abbrev pub times : Times
  times = times_in h costs

  abbrev pub later : Times
  later = times_in g costs

  pub after_is : state_of g ≡ next
  after_is = state_push h.image h.parameters h.journal (entry_of h event)

  able : (other : Event) → may_be_next h other ≡ true → IsTrue (is_enabled h.image h.parameters s other)
  able other is = (and_parts (is_enabled h.image h.parameters s other) _ is).0

  pub are : AreTimesOf h.image h.parameters costs times s
  are = times_are_of h.image h.parameters costs h.journal run.legal

  -- where no turn halts its context, the machine goes on as before
  pub goes_alike : halts_with (stepped_by h.image h.parameters s event).did ≡ false → has_halted next ≡ has_halted s
  goes_alike = halts_alike h.image h.parameters s event are.aimed.nodes (able event may)

  -- what it sends goes to nodes
  pub goes_below : GoBelow (node_count h.image) (last_sends g)
  goes_below = subst (λ (all : List (ℕ × Msg)). GoBelow (node_count h.image) all) (sym (last_push h run.joined event)) (sends_below h.image h.parameters s event (able event may) are.aimed)

  abbrev pub happened : TimedMoment
  happened = happened_of (moment_in h event)

  -- the times after it
  pub times_are : later ≡ passed h.image costs times happened sends
  unfolding timed
  times_are = times_push h.image h.parameters costs h.journal (entry_of h event)

  module _ (alike : has_halted next ≡ has_halted s) where
    -- ---- an event of another node

    pub before_too : (other : Event) → node_of other ≢ node_of event → node_of other < node_count h.image → is_fed_for (node_of event) sends other ≡ false → may_be_next g other ≡ may_be_next h other
    before_too other apart exists fed =
        ap (λ (m : MachineState). may_happen h.image h.parameters m other) after_is ∙ other_stays h.image h.parameters s event are.aimed (able event may) alike other apart exists fed

    module _ (other : Event) (apart : node_of other ≢ node_of event) (exists : node_of other < node_count h.image) (front : HasFront h.image h.parameters s.links other) where
      sees : SeesAlike h.image other next s
      sees = record {
        node = node_kept h.image h.parameters s event (stepped_by h.image h.parameters s event) (node_of other) apart;
        taken = taken_kept h.image h.parameters s event other (stepped_by h.image h.parameters s event) (here h event may) exists apart front;
      }

      pub may_alike : may_be_next g other ≡ may_be_next h other
      may_alike =
          ap (λ (m : MachineState). may_happen h.image h.parameters m other) after_is
          ∙ (λ x. enabled_alike h.image h.parameters next s other sees x && (nat_le (stamp_alike h.image h.parameters next s other sees x) h.parameters.limit || alike x))

      has : HasTime h.image times.arrivals other
      has = has_time h.image h.parameters times.arrivals s.links other are.arrivals front

      -- it, as one that happens
      abbrev as_moment : TimedMoment
      as_moment = record { event = other; slot = slot_for h other; last = 0; taken = None; did = Took; woken = [] }

      slot_stays : slot_for g other ≡ slot_for h other
      slot_stays = ap (λ (node : NodeState). running node.slots node.current) (ap (λ (m : MachineState). node_at m (node_of other)) after_is ∙ sees.node)

      start_alike : start_for g costs later other ≡ start_for h costs times other
      start_alike = (λ i. start_by h.image costs (times_are i) (slot_stays i) other)
          ∙ start_kept h.image costs happened as_moment sends times (here h event may) exists apart (runs_within h.image s (node_of other) are.slots) has

    -- one that might be next before has a message to take
    fronts : (other : Event) → may_be_next h other ≡ true → HasFront h.image h.parameters s.links other
    fronts other might = has_front h.image h.parameters s other (able other might)

    pub start_stays : (other : Event) → node_of other ≢ node_of event → may_be_next h other ≡ true → start_for g costs later other ≡ start_for h costs times other
    start_stays other apart might = start_alike other apart (here h other might) (fronts other might)

    may_still : (other : Event) → node_of other ≢ node_of event → may_be_next h other ≡ true → may_be_next g other ≡ true
    may_still other apart might = may_alike other apart (here h other might) (fronts other might) ∙ might

    arrived_stays : (other : Event) → node_of other ≢ node_of event → may_be_next h other ≡ true → arrived_at h.image later other ≡ arrived_at h.image times other
    arrived_stays (Instr at) apart might = refl
    arrived_stays (Handle at) apart might = refl
    arrived_stays (Deliver from to) apart might =
        let other = Deliver from to in
        ap (λ (t : Times). arrived_at h.image t other) times_are
        ∙ arrival_kept h.image costs happened (as_moment other apart (here h other might) (fronts other might)) sends times (here h event may) (here h other might) apart
        (has other apart (here h other might) (fronts other might))
    arrived_stays (Evict at set) apart might = refl

    key_stays : (other : Event) → node_of other ≢ node_of event → may_be_next h other ≡ true → key_for g costs later other ≡ key_for h costs times other
    key_stays other apart might = λ i. start_stays other apart might i ∷ node_of other ∷ rank_of other ∷ arrived_stays other apart might i ∷ sender_of other ∷ []

    pub due_stays : (other : Event) → node_of other ≢ node_of event → may_be_next h other ≡ true → is_due_for g costs later other ≡ is_due_for h costs times other
    due_stays (Instr at) apart might =
        let queue : queue_at later.packets at.0 ≡ queue_at times.packets at.0 = ap (λ (t : Times). queue_at t.packets at.0) times_are ∙ packets_stay h.image costs times happened sends at.0 apart in
        let handles = before_too (Handle at) apart (here h (Instr at) might) refl in
        λ i. not (handles i) || is_later (queue i) (start_stays (Instr at) apart might i)
    due_stays (Handle at) apart might = refl
    due_stays (Deliver from to) apart might = refl
    due_stays (Evict at set) apart might = refl

    -- ---- another node

    module _ (m : ℕ) (apart : m ≢ node_of event) (exists : m < node_count h.image) where
      off : (other : Event) → node_of other ≡ m → node_of other ≢ node_of event
      off other is same = apart (sym is ∙ same)

      one_stays : (best : Option Due) → IsOneOf h costs times (IsOf h m) best → IsOneOf g costs later (IsOf g m) best
      one_stays None one = tt
      one_stays (Some due) one =
          let away = off due.event one.1.2 in (
            record { due_is = due_stays due.event away one.1.0 ∙ one.0.due_is; key_is = one.0.key_is ∙ sym (key_stays due.event away one.1.0); early = one.0.early },
            (may_still due.event away one.1.0, one.1.1, one.1.2),
          )

      first_stays : (best : Option Due) (other : Event) → IsOneOf h costs times (IsOf h m) best → IsOf h m other → IsFirstOf h costs times best other → IsFirstOf g costs later best other
      first_stays None other one of never = absurd never
      first_stays (Some due) other one of (inl same) = inl same
      first_stays (Some due) other one of (inr lt) =
          inr ((λ i. is_before (key_stays due.event (off due.event one.1.2) one.1.0 i) (key_stays other (off other of.2) of.0 i)) ∙ lt)

      best_stays : (best : Option Due) → IsBestOf h costs times (IsOf h m) best → IsBestBut g costs later (node_of event) sends m best
      best_stays best is = record {
        one = one_stays best is.one;
        first = λ other of fed due.
            let away = off other of.2 in
            let might = sym (before_too other away (subst (λ (n : ℕ). n < node_count h.image) (sym of.2) exists) fed) ∙ of.0 in
            first_stays best other is.one (might, of.1, of.2) (is.first other (might, of.1, of.2) (sym (due_stays other away might) ∙ due));
      }

  -- all but those of its own node, and but for deliveries of what it sent
  pub bests_left : has_halted next ≡ has_halted s → (bests : List (Option Due)) → AreBests h costs times bests → AreBestsBut g costs later (node_of event) (last_sends g) bests
  bests_left alike bests are_bests = record {
    past = are_bests.past;
    each = λ n exists apart. subst (λ (all : List (ℕ × Msg)). IsBestBut g costs later (node_of event) all n (best_at bests n)) (sym (last_push h run.joined event))
        (best_stays alike n apart exists (best_at bests n) (are_bests.each n exists));
  }

-- ---- after it

pub left_after : (h : History) (now : Timekeeper) (event : Event) (after : History) (later : Timekeeper) (own : ℕ) (bests : List (Option Due)) (halts : Bool) →
    IsRun h → may_be_next h event ≡ true → TimesAreKept now h now → AreBests h now.costs now.times.clocks bests → after ≡ grown h event → TimesAreKept now after later →
    own ≡ node_of event → halts ≡ false → halts ≡ halts_with (moment_in h event).stepped.did → AreBestsBut after later.costs later.times.clocks own (last_sends after) bests
left_after h now event after later own bests halts run may kept are after_is more own_is goes is =
    let costs = now.costs in
    let n = node_of event in
    let alike = goes_alike h costs event run may (sym is ∙ goes) in
    let before = subst (λ (t : Times). AreBests h costs t bests) kept.are.clocks are in
    let left = bests_left h costs event run may alike bests before in
    let here_after : AreBestsBut after costs (times_in after costs) n (last_sends after) bests = subst (λ (g : History). AreBestsBut g costs (times_in g costs) n (last_sends g) bests) (sym after_is) left in
    let timed : AreBestsBut after costs later.times.clocks n (last_sends after) bests = subst (λ (t : Times). AreBestsBut after costs t n (last_sends after) bests) (sym more.are.clocks) here_after in
    let costed : AreBestsBut after later.costs later.times.clocks n (last_sends after) bests =
    subst (λ (c : Costs). AreBestsBut after c later.times.clocks n (last_sends after) bests) (sym more.costs_are) timed in
    subst (λ (k : ℕ). AreBestsBut after later.costs later.times.clocks k (last_sends after) bests) (sym own_is) costed
