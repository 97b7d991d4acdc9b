-- No time of a node is later than a number of cycles for each stamp.
use Rattle.std.proofs.Common.{◌≡◌, ◌≢◌, ◌<◌, ℕ, zero, suc, ◌+◌, ◌-◌, ◌*◌, ◌≤◌, max, Bool, true, false, cond, Option, Some, None, List, [], ◌∷◌, ◌++◌, ◌==◌, ◌%◌, length, replicate, slice_index_or, slice_set, IsTrue, refl, sym, subst, ap, ◌∙◌, arith}
use Rattle.std.specs.List.{AllByRecursion}
use Rattle.std.proofs.Math.Nat.{zero-mul, mul-suc, mul-le-mul_left}
use Rattle.std.proofs.lemmas.Nat.{same_from_place}
use Rattle.alw_num.proofs.Weigh.{is_node}
use Rattle.alw_num.specs.Maps.{passes}
use Rattle.alw_num.specs.Draws.{drawn, drawn_number}
use Rattle.alw_msg.specs.declared.messages.Msg.{Msg}
use Rattle.alw_msg.specs.declared.events.Event.{Event}
use Rattle.alw_msg.specs.declared.events.Event.TheVariants.{Instr, Handle, Deliver, Evict}
use Rattle.alw_msg.specs.declared.events.Entry.{Entry}
use Rattle.alw_msg.specs.Events.{node_of}
use Rattle.alw_msg.specs.Kinds.{to_memory, has_body}
use Rattle.alw_msg.specs.Lists.{front, behind}
use Rattle.alw_image.specs.declared.parts.Parts.{Parts}
use Rattle.alw_image.specs.Images.{node_count, context_count, hops_between}
use Rattle.alw_image.specs.Parameters.{Parameters}
use Rattle.alw_model.specs.declared.steps.Did.{Did}
use Rattle.alw_model.specs.declared.steps.Did.TheVariants.{Turn, Missed, Took, Packet, Handled, Evicted}
use Rattle.alw_model.specs.Contexts.{running}
use Rattle.alw_model.specs.NodeStates.{stamp_of}
use Rattle.alw_model.specs.Machine.{MachineState, machine_start, node_at, link_place, link_at, taken_by, is_enabled, stamp_at, links_taken, step, after, state, AreLegal, IsLegal}
use Rattle.alw_model.specs.Runs.{Moment, moment_of, moments_from, moments}
use Rattle.law_lines.proofs.Steps.{enabled_is}
use Rattle.law_order.specs.Aims.{IsAimed}
use Rattle.law_order.proofs.Aimed.{start_aimed, step_aimed}
use Rattle.law_order.proofs.Clocks.{clock_stepped}
use Rattle.law_order.proofs.Sends.{step_so}
use Rattle.law_machine.proofs.ContextRuns.{HasContexts, entry_contexts, start_contexts}
use Rattle.law_machine.proofs.FlatSlots.{runs_ready}
use Rattle.alw_times.specs.declared.costs.Costs.{Costs}
use Rattle.alw_times.specs.declared.happenings.TimedMoment.{TimedMoment}
use Rattle.alw_times.specs.Happening.{happened_of}
use Rattle.alw_times.specs.Times.{Times, Waking, times_start, time_at, queue_at, first_time, begin_by, woken_at, work_before, cost_by, turn_cost, leaves_at, processors_after, controllers_after, arrivals_taken, packets_taken, packets_given, is_busy, woken_one, woken_below, woken_by, outgoing_at, taken_after, sent, timed, timed_all, times_of}
use Rattle.alw_times.specs.Within.{AreWithin}
use Rattle.alw_times.specs.Laws.{start_in, finish_in, finished}
use Rattle.law_times.specs.Prices.{lengths_of, WaysAre, IsPriced, ArePriced, AreUnit}
use Rattle.law_times.proofs.Lists.{ByNode, by_at, by_put, by_kept, by_start, clock_kept, Paired, AllPaired, all_at, all_set, all_start, paired_behind}
use Rattle.law_times.proofs.Sending.{IsOut, all_out}
use Rattle.alw_times.proofs.Bounds.{leaves_early}

-- ---- what is woken

put_other : (times : List ℕ) (k place time : ℕ) → place ≢ k → time_at (slice_set times k time) place ≡ time_at times place
put_other [] k place time other = refl
put_other (t ∷ ts) zero zero time other = absurd (other refl)
put_other (t ∷ ts) zero (suc place) time other = refl
put_other (t ∷ ts) (suc k) zero time other = refl
put_other (t ∷ ts) (suc k) (suc place) time other = put_other ts k place time (λ same. other (ap suc same))

put_near : (times : List ℕ) (k place time : ℕ) → time_at (slice_set times k time) place ≤ max (time_at times place) time
put_near [] k place time = omega arith
put_near (t ∷ ts) zero zero time = omega arith
put_near (t ∷ ts) zero (suc place) time = omega arith
put_near (t ∷ ts) (suc k) zero time = omega arith
put_near (t ∷ ts) (suc k) (suc place) time = put_near ts k place time

rest_below : (n k : ℕ) → n % max k 1 ≤ max k 1 - 1
rest_below n k = omega arith

module _ (costs : Costs) (flags : List Bool) (first time : ℕ) where
  one_other : (refused : Bool) (k place : ℕ) (waking : Waking) → place ≢ k → time_at (woken_one costs refused time k waking).wakes place ≡ time_at waking.wakes place
  one_other true k place waking other = put_other waking.wakes k place (time + drawn_number (drawn waking.state) % max costs.retry 1) other
  one_other false k place waking other = put_other waking.wakes k place time other

  one_near : (refused : Bool) (k place : ℕ) (waking : Waking) → time_at (woken_one costs refused time k waking).wakes place ≤ max (time_at waking.wakes place) (time + cond refused (max costs.retry 1 - 1) 0)
  one_near true k place waking =
      let near = put_near waking.wakes k place (time + drawn_number (drawn waking.state) % max costs.retry 1) in
      let few = rest_below (drawn_number (drawn waking.state)) costs.retry in
      omega (arith, near, few)
  one_near false k place waking = let near = put_near waking.wakes k place time in omega (arith, near)

  slot_other : (refused flag : Bool) (k place : ℕ) (waking : Waking) → place ≢ k → time_at (cond flag (woken_one costs refused time k waking) waking).wakes place ≡ time_at waking.wakes place
  slot_other refused true k place waking other = one_other refused k place waking other
  slot_other refused false k place waking other = refl

  slot_near : (refused flag : Bool) (k place : ℕ) (waking : Waking) →
      time_at (cond flag (woken_one costs refused time k waking) waking).wakes place ≤ max (time_at waking.wakes place) (time + cond refused (max costs.retry 1 - 1) 0)
  slot_near refused true k place waking = one_near refused k place waking
  slot_near refused false k place waking = omega arith

  below_other : (refused : Bool) (count place : ℕ) (waking : Waking) → ((slot : ℕ) → slot < count → place ≢ first + slot) →
      time_at (woken_below costs refused flags first time count waking).wakes place ≡ time_at waking.wakes place
  below_other refused zero place waking apart = refl
  below_other refused (suc slot) place waking apart =
      slot_other refused (slice_index_or flags slot false) (first + slot) place (woken_below costs refused flags first time slot waking) (apart slot (omega arith))
      ∙ below_other refused slot place waking (λ j less. apart j (omega arith))

  below_near : (refused : Bool) (count place : ℕ) (waking : Waking) →
      time_at (woken_below costs refused flags first time count waking).wakes place ≤ max (time_at waking.wakes place) (time + cond refused (max costs.retry 1 - 1) 0)
  below_near refused zero place waking = omega arith
  below_near refused (suc slot) place waking =
      let near = slot_near refused (slice_index_or flags slot false) (first + slot) place (woken_below costs refused flags first time slot waking) in
      let rest = below_near refused slot place waking in
      omega (arith, near, rest)

-- ---- the times of a machine

replicate_read : (n k : ℕ) → time_at (replicate n 0) k ≡ 0
replicate_read zero k = refl
replicate_read (suc n) zero = refl
replicate_read (suc n) (suc k) = replicate_read n k

-- the first of times that are paired
first_time_within : (d top : ℕ) (times : List ℕ) (msgs : List Msg) → Paired d times msgs → ((msg : Msg) → front msgs ≡ Some msg → d * msg.stamp ≤ top) → first_time times ≤ top
first_time_within d top [] [] Paired.none few = omega arith
first_time_within d top (t ∷ ts) (m ∷ ms) (Paired.more le rest) few = omega (arith, le, few m refl)
first_time_within d top [] (m ∷ ms) never few = elim never [ ]
first_time_within d top (t ∷ ts) [] never few = elim never [ ]

first_of : (most : ℕ) (queue : List ℕ) → AreWithin most queue → first_time queue ≤ most
first_of most [] all = omega arith
first_of most (t ∷ ts) all = all.0

each_push : (P : ℕ → Type 0) (xs : List ℕ) (x : ℕ) → AllByRecursion P xs → P x → AllByRecursion P (xs ++ x ∷ [])
each_push P [] x all is = (is, tt)
each_push P (y ∷ ys) x all is = (all.0, each_push P ys x all.1 is)

each_behind : (P : ℕ → Type 0) (xs : List ℕ) → AllByRecursion P xs → AllByRecursion P (behind xs)
each_behind P [] all = tt
each_behind P (x ∷ xs) all = all.1

each_later : (a b : ℕ) → a ≤ b → (xs : List ℕ) → AreWithin a xs → AreWithin b xs
each_later a b le [] all = tt
each_later a b le (x ∷ xs) all = (omega (arith, le, all.0), each_later a b le xs all.1)

stamp_above : (clock : ℕ) (taken : Option Msg) → clock + 1 ≤ stamp_of clock taken
stamp_above clock None = omega arith
stamp_above clock (Some msg) = omega arith

stamp_taken : (clock : ℕ) (taken : Option Msg) (msg : Msg) → taken ≡ Some msg → msg.stamp + 1 ≤ stamp_of clock taken
stamp_taken clock None msg is = absurd (cc)
stamp_taken clock (Some m) msg is = let same : m ≡ msg = cc in subst (λ (x : Msg). x.stamp + 1 ≤ max clock m.stamp + 1) same (omega arith)

module _ (parts : Parts) (parameters : Parameters) (costs : Costs) (d work lengths way : ℕ) (fits : work + lengths + way ≤ d) where
  abbrev TimeBy : ℕ → ℕ → Type 0
  TimeBy time clock = time ≤ d * clock

  abbrev QueueBy : List ℕ → ℕ → Type 0
  QueueBy queue clock = AreWithin (d * clock) queue

  time_later : (x a b : ℕ) → a ≤ b → TimeBy x a → TimeBy x b
  time_later x a b le is = let more = mul-le-mul_left d le in omega (arith, more, is)

  queue_later : (x : List ℕ) (a b : ℕ) → a ≤ b → QueueBy x a → QueueBy x b
  queue_later x a b le is = each_later (d * a) (d * b) (mul-le-mul_left d le) x is

  -- each time of a node is within d for each stamp so far, and each arrival within d for each stamp of its message
  record IsBounded (s : MachineState) (times : Times) : Type 0 where
    starts : ByNode TimeBy times.starts s.nodes
    processors : ByNode TimeBy times.processors s.nodes
    controllers : ByNode TimeBy times.controllers s.nodes
    ports : ByNode TimeBy times.ports s.nodes
    packets : ByNode QueueBy times.packets s.nodes
    wakes : (n slot : ℕ) → n < node_count parts → slot < parts.contexts → time_at times.wakes (n * parts.contexts + slot) ≤ d * (node_at s n).clock
    arrivals : AllPaired d times.arrivals s.links

  module _ (s : MachineState) (times : Times) (aimed : IsAimed parts s) (has : HasContexts parts parameters s) (are : IsBounded s times) where
    woken_early : (n top : ℕ) → n < node_count parts → d * (node_at s n).clock ≤ top → (slot : Option ℕ) → running (node_at s n).slots (node_at s n).current ≡ slot → woken_at parts times n slot ≤ top
    woken_early n top here low None is = omega arith
    woken_early n top here low (Some slot) is =
        let below = (runs_ready (node_at s n).slots (node_at s n).current slot is).below in
        let size = (has.contexts n here).size in
        let wake = are.wakes n slot here (omega (arith, below, size)) in
        omega (arith, wake, low)

    -- an event begins no later than d for each stamp before its own
    begins : (event : Event) (top : ℕ) → node_of event < node_count parts → d * (node_at s (node_of event)).clock ≤ top → ((msg : Msg) → taken_by parts s event ≡ Some msg → d * msg.stamp ≤ top) →
        begin_by parts times (running (node_at s (node_of event)).slots (node_at s (node_of event)).current) event ≤ top
    begins (Instr at) top here low head =
        let p = by_at TimeBy times.processors s.nodes at.0 0 (omega arith) are.processors in
        let w = woken_early at.0 top here low (running (node_at s at.0).slots (node_at s at.0).current) refl in
        omega (arith, p, w, low)
    begins (Handle at) top here low head =
        let p = by_at TimeBy times.processors s.nodes at.0 0 (omega arith) are.processors in
        let q = first_of (d * (node_at s at.0).clock) (queue_at times.packets at.0) (by_at QueueBy times.packets s.nodes at.0 [] tt are.packets) in
        omega (arith, p, q, low)
    begins (Deliver from to) top here low head =
        let p = by_at TimeBy times.controllers s.nodes to.0 0 (omega arith) are.controllers in
        let place = link_place parts from.0 to.0 in
        let q = first_time_within d top (queue_at times.arrivals place) (link_at parts s from.0 to.0) (all_at d times.arrivals s.links place are.arrivals) head in
        omega (arith, p, q, low)
    begins (Evict at set) top here low head =
        let p = by_at TimeBy times.controllers s.nodes at.0 0 (omega arith) are.controllers in omega (arith, p, low)

    taken_paired : (event : Event) → AllPaired d (arrivals_taken parts event times.arrivals) (links_taken parts s.links event)
    taken_paired (Instr at) = are.arrivals
    taken_paired (Handle at) = are.arrivals
    taken_paired (Deliver from to) =
        let place = link_place parts from.0 to.0 in
        all_set d times.arrivals s.links place (behind (queue_at times.arrivals place)) (behind (link_at parts s from.0 to.0)) are.arrivals
        (paired_behind d (queue_at times.arrivals place) (link_at parts s from.0 to.0) (all_at d times.arrivals s.links place are.arrivals))
    taken_paired (Evict at set) = are.arrivals

    module _ (entry : Entry) (enabled : IsTrue (is_enabled parts parameters s entry.event)) (priced : IsPriced parts costs work lengths way (moment_of parts parameters s entry)) where
      abbrev moment : Moment
      moment = moment_of parts parameters s entry

      abbrev n : ℕ
      n = node_of entry.event

      abbrev next : MachineState
      next = step parts parameters s entry.event

      abbrev stamp : ℕ
      stamp = stamp_at parts s entry.event

      abbrev start : ℕ
      start = start_in parts costs times moment

      abbrev finish : ℕ
      finish = finish_in parts costs times moment

      here : n < node_count parts
      here = (enabled_is parts parameters s entry.event enabled).here

      risen : (node_at s n).clock + 1 ≤ stamp
      risen = stamp_above (node_at s n).clock (taken_by parts s entry.event)

      -- a number below the stamp leaves room for an event
      room : (k : ℕ) → k + 1 ≤ stamp → d * k + d ≤ d * stamp
      room k le =
          let one : suc k ≤ stamp = omega (arith, le) in
          let more = mul-le-mul_left d one in
          omega (arith, mul-suc d k, more)

      starts_early : start + d ≤ d * stamp + work_before costs entry.event
      starts_early =
          let top = d * stamp - d in
          let here_room = room (node_at s n).clock risen in
          let last = by_at TimeBy times.starts s.nodes n 0 (omega arith) are.starts in
          let begin = begins entry.event top here (omega (arith, here_room)) (λ msg is. let below = room msg.stamp (stamp_taken (node_at s n).clock (taken_by parts s entry.event) msg is) in omega (arith, below)) in
          omega (arith, begin, last, here_room)

      finishes_early : finish + d ≤ d * stamp + work
      finishes_early = omega (arith, starts_early, priced.work)

      finish_bounded : finish ≤ d * stamp
      finish_bounded = omega (arith, finishes_early, fits)

      start_bounded : start ≤ d * stamp
      start_bounded = omega (arith, finish_bounded)

      clock_is : (node_at next n).clock ≡ stamp
      clock_is = clock_stepped parts parameters s entry.event aimed enabled

      -- lists by node go on, with what is put at the event's node
      put_on : (xs : List ℕ) (time : ℕ) → ByNode TimeBy xs next.nodes → time ≤ d * stamp → ByNode TimeBy (slice_set xs n time) next.nodes
      put_on xs time all le = by_put TimeBy xs next.nodes n time all (subst (λ (c : ℕ). time ≤ d * c) (sym clock_is) le)

      go_on : (xs : List ℕ) → ByNode TimeBy xs s.nodes → ByNode TimeBy xs next.nodes
      go_on xs all = by_kept TimeBy time_later xs s.nodes n moment.stepped.node all (omega (arith, risen))

      processors_on : (event : Event) → node_of event ≡ n → ByNode TimeBy times.processors next.nodes → ByNode TimeBy (processors_after event finish times.processors) next.nodes
      processors_on (Instr at) same all = subst (λ (k : ℕ). ByNode TimeBy (slice_set times.processors k finish) next.nodes) (sym same) (put_on times.processors finish all finish_bounded)
      processors_on (Handle at) same all = subst (λ (k : ℕ). ByNode TimeBy (slice_set times.processors k finish) next.nodes) (sym same) (put_on times.processors finish all finish_bounded)
      processors_on (Deliver from to) same all = all
      processors_on (Evict at set) same all = all

      controllers_on : (event : Event) → node_of event ≡ n → ByNode TimeBy times.controllers next.nodes → ByNode TimeBy (controllers_after event finish times.controllers) next.nodes
      controllers_on (Instr at) same all = all
      controllers_on (Handle at) same all = all
      controllers_on (Deliver from to) same all = subst (λ (k : ℕ). ByNode TimeBy (slice_set times.controllers k finish) next.nodes) (sym same) (put_on times.controllers finish all finish_bounded)
      controllers_on (Evict at set) same all = subst (λ (k : ℕ). ByNode TimeBy (slice_set times.controllers k finish) next.nodes) (sym same) (put_on times.controllers finish all finish_bounded)

      queue_on : (xs : List (List ℕ)) (queue : List ℕ) → ByNode QueueBy xs next.nodes → AreWithin (d * stamp) queue → ByNode QueueBy (slice_set xs n queue) next.nodes
      queue_on xs queue all is = by_put QueueBy xs next.nodes n queue all (subst (λ (c : ℕ). AreWithin (d * c) queue) (sym clock_is) is)

      queue_is : (xs : List (List ℕ)) → ByNode QueueBy xs next.nodes → AreWithin (d * stamp) (queue_at xs n)
      queue_is xs all = subst (λ (c : ℕ). AreWithin (d * c) (queue_at xs n)) clock_is (by_at QueueBy xs next.nodes n [] tt all)

      packets_taken_on : (event : Event) → node_of event ≡ n → (xs : List (List ℕ)) → ByNode QueueBy xs next.nodes → ByNode QueueBy (packets_taken event xs) next.nodes
      packets_taken_on (Instr at) same xs all = all
      packets_taken_on (Handle at) same xs all =
          subst (λ (k : ℕ). ByNode QueueBy (slice_set xs k (behind (queue_at xs k))) next.nodes) (sym same)
          (queue_on xs (behind (queue_at xs n)) all (each_behind (λ t. t ≤ d * stamp) (queue_at xs n) (queue_is xs all)))
      packets_taken_on (Deliver from to) same xs all = all
      packets_taken_on (Evict at set) same xs all = all

      packets_given_on : (did : Did) (xs : List (List ℕ)) → ByNode QueueBy xs next.nodes → ByNode QueueBy (packets_given did n finish xs) next.nodes
      packets_given_on (Turn slot outcome) xs all = all
      packets_given_on (Missed slot) xs all = all
      packets_given_on Took xs all = all
      packets_given_on Packet xs all = queue_on xs (queue_at xs n ++ finish ∷ []) all (each_push (λ t. t ≤ d * stamp) (queue_at xs n) finish (queue_is xs all) finish_bounded)
      packets_given_on (Handled kind old) xs all = all
      packets_given_on Evicted xs all = all

      clocks_on : (m : ℕ) → (node_at s m).clock ≤ (node_at next m).clock
      clocks_on m = clock_kept s.nodes n m moment.stepped.node (omega (arith, risen))

      wakes_on : (event : Event) → node_of event ≡ n → finish + cond (passes is_busy (happened_of moment).taken) (max costs.retry 1 - 1) 0 ≤ d * stamp + work_before costs event → (state : ℕ) →
          (m slot : ℕ) → m < node_count parts → slot < parts.contexts →
          time_at (woken_by parts costs (happened_of moment) finish (record { state = state; wakes = times.wakes }) event).wakes (m * parts.contexts + slot) ≤ d * (node_at next m).clock
      wakes_on (Instr at) same late state m slot exists fit = let old = are.wakes m slot exists fit in let more = mul-le-mul_left d (clocks_on m) in omega (arith, old, more)
      wakes_on (Handle at) same late state m slot exists fit = let old = are.wakes m slot exists fit in let more = mul-le-mul_left d (clocks_on m) in omega (arith, old, more)
      wakes_on (Evict at set) same late state m slot exists fit = let old = are.wakes m slot exists fit in let more = mul-le-mul_left d (clocks_on m) in omega (arith, old, more)
      wakes_on (Deliver from to) same late state m slot exists fit =
          let happened = happened_of moment in
          let waking : Waking = record { state = state; wakes = times.wakes } in
          let refused = passes is_busy happened.taken in
          let first = to.0 * parts.contexts in
          let place = m * parts.contexts + slot in
          let old = are.wakes m slot exists fit in
          let more = mul-le-mul_left d (clocks_on m) in
          is_node (time_at (woken_below costs refused happened.woken first finish parts.contexts waking).wakes place ≤ d * (node_at next m).clock) m n
          (λ at. let near = below_near costs happened.woken first finish refused parts.contexts place waking in
          let clock : d * (node_at next m).clock ≡ d * stamp = ap (λ (k : ℕ). d * (node_at next k).clock) at ∙ ap (λ (c : ℕ). d * c) clock_is in
          omega (arith, near, old, more, clock, late))
          (λ apart. let kept = below_other costs happened.woken first finish refused parts.contexts place waking
          (λ j less is. apart ((same_from_place m slot to.0 j parts.contexts fit less is).0 ∙ same)) in
          omega (arith, kept, old, more))

      abbrev leave : ℕ
      leave = leaves_at entry.event start finish

      sends_fit : max (time_at times.ports n) leave + lengths_of costs moment.stepped.sends + way ≤ d * stamp
      sends_fit =
          let port = by_at TimeBy times.ports s.nodes n 0 (omega arith) are.ports in
          let here_room = room (node_at s n).clock risen in
          let early = leaves_early entry.event start finish (omega arith) in
          omega (arith, port, here_room, early, finishes_early, priced.lengths, fits)

      goes_out : IsOut d parts costs n leave way stamp (sent parts costs n leave (outgoing_at (taken_after parts entry.event times) n) moment.stepped.sends) next.links
          (time_at times.ports n) (lengths_of costs moment.stepped.sends)
      goes_out = all_out d parts costs n leave way stamp (outgoing_at (taken_after parts entry.event times) n) (links_taken parts s.links entry.event) moment.stepped.sends
          (taken_paired entry.event) (step_so parts parameters n (node_at s n) entry.event (taken_by parts s entry.event)) priced.ways sends_fit

      bounded_after : IsBounded next (timed parts costs times moment)
      unfolding timed
      bounded_after = record {
        starts = put_on times.starts start (go_on times.starts are.starts) start_bounded;
        processors = processors_on entry.event refl (go_on times.processors are.processors);
        controllers = controllers_on entry.event refl (go_on times.controllers are.controllers);
        ports = put_on times.ports (sent parts costs n leave (outgoing_at (taken_after parts entry.event times) n) moment.stepped.sends).port (go_on times.ports are.ports)
            (omega (arith, goes_out.port, sends_fit));
        packets = packets_given_on moment.stepped.did (packets_taken entry.event times.packets)
            (packets_taken_on entry.event refl times.packets (by_kept QueueBy queue_later times.packets s.nodes n moment.stepped.node are.packets (omega (arith, risen))));
        wakes = wakes_on entry.event refl (omega (arith, starts_early, priced.wait, fits)) (time_at times.draws n);
        arrivals = goes_out.paired;
      }

  -- ---- journals

  module _ (some : 1 ≤ parameters.pointers) where
    last_bounded : (s : MachineState) (times : Times) (journal : List Entry) (entry : Entry) → IsAimed parts s → HasContexts parts parameters s → IsBounded s times →
        AreLegal parts parameters s (journal ++ entry ∷ []) → AllByRecursion (IsPriced parts costs work lengths way) (moments_from parts parameters s (journal ++ entry ∷ [])) →
        finish_in parts costs (timed_all parts costs times (moments_from parts parameters s journal)) (moment_of parts parameters (after parts parameters s journal) entry) ≤ d * entry.stamp
    last_bounded s times [] entry aimed has are (is_next, legal) (priced, all) =
        subst (λ (k : ℕ). finish_in parts costs times (moment_of parts parameters s entry) ≤ d * k) (sym is_next.stamp) (finish_bounded s times aimed has are entry is_next.enabled priced)
    last_bounded s times (first ∷ rest) entry aimed has are (is_next, legal) (priced, all) =
        last_bounded (step parts parameters s first.event) (timed parts costs times (moment_of parts parameters s first)) rest entry
        (step_aimed parts parameters s first.event is_next.enabled aimed) (entry_contexts parts parameters some s first is_next has)
        (bounded_after s times aimed has are first is_next.enabled priced) legal all

    start_bounded_times : IsBounded (machine_start parts) (times_start parts costs)
    start_bounded_times =
        let n = node_count parts in
        record {
          starts = by_start TimeBy parts 0 n 0 (omega arith);
          processors = by_start TimeBy parts 0 n 0 (omega arith);
          controllers = by_start TimeBy parts 0 n 0 (omega arith);
          ports = by_start TimeBy parts 0 n 0 (omega arith);
          packets = by_start QueueBy parts 0 n [] tt;
          wakes = λ m slot exists fit. let none = replicate_read (context_count parts) (m * parts.contexts + slot) in omega (arith, none);
          arrivals = all_start d (n * n);
        }

    pub journal_bounded : 1 ≤ parts.contexts → (journal : List Entry) (entry : Entry) → IsLegal parts parameters (journal ++ entry ∷ []) →
        ArePriced parts parameters costs work lengths way (journal ++ entry ∷ []) → finished parts parameters costs journal entry ≤ d * entry.stamp
    unfolding times_of moments state
    journal_bounded slots journal entry legal priced =
        last_bounded (machine_start parts) (times_start parts costs) journal entry (start_aimed parts parameters) (start_contexts parts parameters some slots) start_bounded_times legal priced

pub finishes_are_priced : (parts : Parts) → (parameters : Parameters) → (costs : Costs) → 1 ≤ parts.contexts → 1 ≤ parameters.pointers → (work lengths way : ℕ) → (journal : List Entry) → (entry : Entry) →
    IsLegal parts parameters (journal ++ entry ∷ []) → ArePriced parts parameters costs work lengths way (journal ++ entry ∷ []) →
    finished parts parameters costs journal entry ≤ (work + lengths + way) * entry.stamp
finishes_are_priced parts parameters costs slots some work lengths way journal entry legal priced =
    journal_bounded parts parameters costs (work + lengths + way) work lengths way (omega arith) some slots journal entry legal priced

-- ---- unit costs

module _ (parts : Parts) (costs : Costs) (unit : AreUnit costs) where
  switch_is : (b : Bool) → cond b 0 costs.switch ≡ 0
  switch_is true = refl
  switch_is false = unit.switch

  turn_is : (last : ℕ) (slot : Option ℕ) → turn_cost costs last slot ≡ 1
  turn_is last None = unit.hit
  turn_is last (Some slot) = omega (arith, unit.hit, switch_is (slot == last))

  delivery_is : (b : Bool) → cond b costs.home costs.fill ≡ 1
  delivery_is true = unit.home
  delivery_is false = unit.fill

  wait_is : (b : Bool) → cond b (max costs.retry 1 - 1) 0 ≡ 0
  wait_is true = omega (arith, unit.retry)
  wait_is false = refl

  length_is : (b : Bool) → costs.send + cond b costs.data 0 ≡ 0
  length_is true = omega (arith, unit.send, unit.body)
  length_is false = omega (arith, unit.send)

  works : (happened : TimedMoment) (sends : List (ℕ × Msg)) (event : Event) → work_before costs event + cost_by costs happened sends event ≤ 1
  works happened sends (Instr at) = omega (arith, turn_is happened.last happened.slot)
  works happened sends (Handle at) = let none : costs.inv * (length sends - 1) ≡ 0 = ap (λ (k : ℕ). k * (length sends - 1)) unit.inv ∙ zero-mul (length sends - 1) in omega (arith, unit.trap, none)
  works happened sends (Deliver from to) = omega (arith, delivery_is (passes to_memory happened.taken))
  works happened sends (Evict at set) = omega (arith, unit.fill)

  lengths_are : (sends : List (ℕ × Msg)) → lengths_of costs sends ≤ 0
  lengths_are [] = omega arith
  lengths_are (send ∷ rest) = omega (arith, length_is (has_body send.1.kind), lengths_are rest)

  ways_are : (from : ℕ) (sends : List (ℕ × Msg)) → WaysAre parts costs from 0 sends
  ways_are from [] = tt
  ways_are from (send ∷ rest) = (let none : costs.hop * hops_between parts from send.0 ≡ 0 = ap (λ (k : ℕ). k * hops_between parts from send.0) unit.hop ∙ zero-mul (hops_between parts from send.0) in omega (arith, none), ways_are from rest)

  unit_priced : (run : List Moment) → AllByRecursion (IsPriced parts costs 1 0 0) run
  unit_priced [] = tt
  unit_priced (moment ∷ rest) = (
    record {
      work = works (happened_of moment) moment.stepped.sends moment.entry.event;
      wait = omega (arith, works (happened_of moment) moment.stepped.sends moment.entry.event, wait_is (passes is_busy (happened_of moment).taken));
      lengths = lengths_are moment.stepped.sends;
      ways = ways_are (node_of moment.entry.event) moment.stepped.sends;
    },
    unit_priced rest,
  )

pub stamps_bound_unit_times : (parts : Parts) → (parameters : Parameters) → (costs : Costs) → 1 ≤ parts.contexts → 1 ≤ parameters.pointers → AreUnit costs → (journal : List Entry) → (entry : Entry) →
    IsLegal parts parameters (journal ++ entry ∷ []) → finished parts parameters costs journal entry ≤ entry.stamp
stamps_bound_unit_times parts parameters costs slots some unit journal entry legal =
    let one = finishes_are_priced parts parameters costs slots some 1 0 0 journal entry legal (unit_priced parts costs unit (moments parts parameters (journal ++ entry ∷ []))) in
    omega (arith, one)
