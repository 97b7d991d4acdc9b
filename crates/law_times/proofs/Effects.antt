-- What an event does to times, with what it reads of them given: changes at places of its own.
use Rattle.std.proofs.Common.{◌≡◌, ◌<◌, ℕ, zero, suc, ◌+◌, ◌*◌, ◌%◌, ◌==◌, max, Bool, true, false, cond, List, [], ◌∷◌, ◌++◌, slice_index_or, slice_set, refl, sym, ap, ◌∙◌, arith}
use Rattle.std.specs.List.{AllByRecursion}
use Rattle.alw_num.specs.Maps.{passes}
use Rattle.alw_num.specs.Draws.{drawn, drawn_number}
use Rattle.alw_msg.specs.declared.messages.Msg.{Msg}
use Rattle.alw_msg.specs.declared.events.Event.{Event}
use Rattle.alw_msg.specs.declared.events.Event.TheVariants.{Instr, Handle, Deliver, Evict}
use Rattle.alw_msg.specs.Events.{node_of}
use Rattle.alw_msg.specs.Lists.{behind}
use Rattle.alw_image.specs.declared.parts.Parts.{Parts}
use Rattle.alw_image.specs.Images.{node_count, hops_between}
use Rattle.alw_model.specs.declared.steps.Did.{Did}
use Rattle.alw_model.specs.declared.steps.Did.TheVariants.{Turn, Missed, Took, Packet, Handled, Evicted}
use Rattle.alw_model.specs.Machine.{link_place}
use Rattle.law_lines.specs.Links.{GoBelow}
use Rattle.alw_times.specs.declared.costs.Costs.{Costs}
use Rattle.alw_times.specs.declared.happenings.TimedMoment.{TimedMoment}
use Rattle.alw_times.specs.Times.{Times, Outgoing, Waking, time_at, length_of, sent_one, sent, is_busy, woken_one, woken_slot, woken_below, woken_by, leaves_at, processors_after, controllers_after, arrivals_taken, packets_taken, packets_given, draws_after, left_by}
use Rattle.law_times.proofs.Changes.{changed_all, changed_more, AllAt, all_more, with_last, pushes}

-- ---- what is sent

module _ (parts : Parts) (costs : Costs) (from leave : ℕ) where
  -- when the port is free after one message
  abbrev pub port_one : ℕ → ℕ × Msg → ℕ
  port_one port send = cond (send.0 == from) port (max port leave + length_of costs send.1.kind)

  -- when one message arrives
  abbrev pub time_one : ℕ → ℕ × Msg → ℕ
  time_one port send = cond (send.0 == from) leave (max port leave + length_of costs send.1.kind + costs.hop * hops_between parts from send.0)

  -- when the port is free after all, and what arrives where and when
  abbrev pub port_by : ℕ → List (ℕ × Msg) → ℕ
  port_by port [] = port
  port_by port (send ∷ rest) = port_by (port_one port send) rest

  -- what arrives, where and when
  abbrev pub goes : ℕ → List (ℕ × Msg) → List (ℕ × ℕ)
  goes port [] = []
  goes port (send ∷ rest) = (link_place parts from send.0, time_one port send) ∷ goes (port_one port send) rest

  abbrev sent_as : Outgoing → List (ℕ × Msg) → Outgoing
  sent_as out sends = record { port = port_by out.port sends; arrivals = changed_all [] (pushes (goes out.port sends)) out.arrivals }

  one_is : (out : Outgoing) (send : ℕ × Msg) → sent_one parts costs from leave out send ≡ sent_as out (send ∷ [])
  one_is out send = go (send.0 == from)
    where
      put : ℕ → List (List ℕ)
      put time = slice_set out.arrivals (link_place parts from send.0) (slice_index_or out.arrivals (link_place parts from send.0) [] ++ time ∷ [])

      free : ℕ
      free = max out.port leave + length_of costs send.1.kind

      chosen : Bool → Outgoing
      chosen b = cond b (record { port = out.port; arrivals = put leave }) (record { port = free; arrivals = put (free + costs.hop * hops_between parts from send.0) })

      told : Bool → Outgoing
      told b = record { port = cond b out.port free; arrivals = put (cond b leave (free + costs.hop * hops_between parts from send.0)) }

      go : (b : Bool) → chosen b ≡ told b
      go true = refl
      go false = refl

  -- what is sent leaves the port so, and pushes these arrivals
  pub sent_is : (out : Outgoing) (sends : List (ℕ × Msg)) → sent parts costs from leave out sends ≡ sent_as out sends
  sent_is out [] = refl
  sent_is out (send ∷ rest) = sent_is (sent_one parts costs from leave out send) rest ∙ ap (λ (o : Outgoing). sent_as o rest) (one_is out send)

  -- what arrives is of links from the node
  pub goes_at : (P : ℕ → Type 0) (port : ℕ) (sends : List (ℕ × Msg)) → ((to : ℕ) → to < node_count parts → P (link_place parts from to)) → GoBelow (node_count parts) sends →
      AllByRecursion (λ (push : ℕ × ℕ). P push.0) (goes port sends)
  goes_at P port [] each below = tt
  goes_at P port (send ∷ rest) each below = (each send.0 below.0, goes_at P (port_one port send) rest each below.1)

-- ---- what is woken

-- a time that is put
abbrev pub put : ℕ → ℕ → ℕ
put time old = time

module _ (costs : Costs) (refused : Bool) (flags : List Bool) where
  abbrev state_one : ℕ → ℕ
  state_one state = cond refused (drawn state) state

  -- where the draws stand once the slots below a number are woken
  abbrev pub state_below : ℕ → ℕ → ℕ
  state_below zero state = state
  state_below (suc slot) state = cond (slice_index_or flags slot false) (state_one (state_below slot state)) (state_below slot state)

module _ (costs : Costs) (refused : Bool) (flags : List Bool) (first time : ℕ) where
  abbrev wake_one : ℕ → ℕ
  wake_one state = cond refused (time + drawn_number (drawn state) % max costs.retry 1) time

  -- the wakes that this puts
  abbrev pub wakes_below : ℕ → ℕ → List (ℕ × (ℕ → ℕ))
  wakes_below zero state = []
  wakes_below (suc slot) state =
      cond (slice_index_or flags slot false) (wakes_below slot state ++ (first + slot, put (wake_one (state_below costs refused flags slot state))) ∷ []) (wakes_below slot state)

  abbrev waking_as : ℕ → List (ℕ × (ℕ → ℕ)) → List ℕ → Waking
  waking_as state changes wakes = record { state = state; wakes = changed_all 0 changes wakes }

  slot_is : (slot state : ℕ) (changes : List (ℕ × (ℕ → ℕ))) (wakes : List ℕ) →
      woken_slot costs refused flags first time slot (waking_as state changes wakes)
      ≡ waking_as (cond (slice_index_or flags slot false) (state_one costs refused flags state) state)
      (cond (slice_index_or flags slot false) (changes ++ (first + slot, put (wake_one state)) ∷ []) changes) wakes
  slot_is slot state changes wakes = go (slice_index_or flags slot false) refused
    where
      drawn_time : ℕ
      drawn_time = time + drawn_number (drawn state) % max costs.retry 1

      go : (flag b : Bool) → cond flag (woken_one costs b time (first + slot) (waking_as state changes wakes)) (waking_as state changes wakes)
          ≡ waking_as (cond flag (cond b (drawn state) state) state) (cond flag (changes ++ (first + slot, put (cond b drawn_time time)) ∷ []) changes) wakes
      go false b = refl
      go true true = λ x. record { state = drawn state; wakes = sym (changed_more 0 changes wakes (first + slot) (put drawn_time)) x }
      go true false = λ x. record { state = state; wakes = sym (changed_more 0 changes wakes (first + slot) (put time)) x }

  -- the slots below a number put these wakes
  pub below_is : (count : ℕ) (waking : Waking) →
      woken_below costs refused flags first time count waking ≡ waking_as (state_below costs refused flags count waking.state) (wakes_below count waking.state) waking.wakes
  below_is zero waking = refl
  below_is (suc slot) waking =
      ap (woken_slot costs refused flags first time slot) (below_is slot waking)
      ∙ slot_is slot (state_below costs refused flags slot waking.state) (wakes_below slot waking.state) waking.wakes

  -- they are of contexts of the node
  pub wakes_at : (P : ℕ → Type 0) (count state : ℕ) → ((slot : ℕ) → slot < count → P (first + slot)) → AllAt 0 P (wakes_below count state)
  wakes_at P zero state each = tt
  wakes_at P (suc slot) state each = go (slice_index_or flags slot false) (wakes_at P slot state (λ k less. each k (omega (arith, less))))
    where
      go : (flag : Bool) → AllAt 0 P (wakes_below slot state) →
          AllAt 0 P (cond flag (wakes_below slot state ++ (first + slot, put (wake_one (state_below costs refused flags slot state))) ∷ []) (wakes_below slot state))
      go true all = all_more 0 P (wakes_below slot state) (first + slot) (put (wake_one (state_below costs refused flags slot state))) all (each slot (omega arith))
      go false all = all

-- a context of a node
abbrev pub IsContextOf : Parts → ℕ → ℕ → Type 0
IsContextOf parts n place = (slot : ℕ) × ((slot < parts.contexts) × (place ≡ n * parts.contexts + slot))

module _ (parts : Parts) (costs : Costs) (happened : TimedMoment) where
  -- where the draws of its node stand after an event
  abbrev pub state_by : ℕ → Event → ℕ
  state_by state (Deliver from to) = state_below costs (passes is_busy happened.taken) happened.woken parts.contexts state
  state_by state _ = state

  -- the wakes that an event puts
  abbrev pub wakes_by : ℕ → ℕ → Event → List (ℕ × (ℕ → ℕ))
  wakes_by finish state (Deliver from to) = wakes_below costs (passes is_busy happened.taken) happened.woken (to.0 * parts.contexts) finish parts.contexts state
  wakes_by finish state _ = []

  abbrev waking_by : ℕ → Waking → Event → Waking
  waking_by finish waking event = record { state = state_by waking.state event; wakes = changed_all 0 (wakes_by finish waking.state event) waking.wakes }

  -- an event wakes so
  pub woken_is : (finish : ℕ) (waking : Waking) (event : Event) → woken_by parts costs happened finish waking event ≡ waking_by finish waking event
  woken_is finish waking (Instr at) = refl
  woken_is finish waking (Handle at) = refl
  woken_is finish waking (Deliver from to) = below_is costs (passes is_busy happened.taken) happened.woken (to.0 * parts.contexts) finish parts.contexts waking
  woken_is finish waking (Evict at set) = refl

  -- they are of its node
  pub wakes_of_node : (finish state : ℕ) (event : Event) → AllAt 0 (IsContextOf parts (node_of event)) (wakes_by finish state event)
  wakes_of_node finish state (Instr at) = tt
  wakes_of_node finish state (Handle at) = tt
  wakes_of_node finish state (Deliver from to) =
      wakes_at costs (passes is_busy happened.taken) happened.woken (to.0 * parts.contexts) finish (IsContextOf parts to.0) parts.contexts state (λ slot less. (slot, (less, refl)))
  wakes_of_node finish state (Evict at set) = tt

-- ---- by node

-- the changes of each list that an event makes
abbrev pub processor_changes : ℕ → Event → List (ℕ × (ℕ → ℕ))
processor_changes finish (Instr at) = (at.0, put finish) ∷ []
processor_changes finish (Handle at) = (at.0, put finish) ∷ []
processor_changes finish (Deliver from to) = []
processor_changes finish (Evict at set) = []

-- of the controllers
abbrev pub controller_changes : ℕ → Event → List (ℕ × (ℕ → ℕ))
controller_changes finish (Instr at) = []
controller_changes finish (Handle at) = []
controller_changes finish (Deliver from to) = (to.0, put finish) ∷ []
controller_changes finish (Evict at set) = (at.0, put finish) ∷ []

-- of the draws
abbrev pub draw_changes : ℕ → Event → List (ℕ × (ℕ → ℕ))
draw_changes state (Deliver from to) = (to.0, put state) ∷ []
draw_changes state _ = []

-- of the packets, by what was done
abbrev pub given_changes : Did → ℕ → ℕ → List (ℕ × (List ℕ → List ℕ))
given_changes Packet at finish = (at, with_last finish) ∷ []
given_changes _ at finish = []

-- of the packets
abbrev pub packet_changes : Did → ℕ → Event → List (ℕ × (List ℕ → List ℕ))
packet_changes did finish (Handle at) = (at.0, behind) ∷ given_changes did at.0 finish
packet_changes did finish (Instr at) = given_changes did at.0 finish
packet_changes did finish (Deliver from to) = given_changes did to.0 finish
packet_changes did finish (Evict at set) = given_changes did at.0 finish

-- each is at the node
abbrev pub Is : ℕ → ℕ → Type 0
Is n place = place ≡ n

-- a processor of the node
pub processor_at : (finish : ℕ) (event : Event) → AllAt 0 (Is (node_of event)) (processor_changes finish event)
processor_at finish (Instr at) = (refl, tt)
processor_at finish (Handle at) = (refl, tt)
processor_at finish (Deliver from to) = tt
processor_at finish (Evict at set) = tt

-- a controller of the node
pub controller_at : (finish : ℕ) (event : Event) → AllAt 0 (Is (node_of event)) (controller_changes finish event)
controller_at finish (Instr at) = tt
controller_at finish (Handle at) = tt
controller_at finish (Deliver from to) = (refl, tt)
controller_at finish (Evict at set) = (refl, tt)

-- the draws of the node
pub draw_at : (state : ℕ) (event : Event) → AllAt 0 (Is (node_of event)) (draw_changes state event)
draw_at state (Instr at) = tt
draw_at state (Handle at) = tt
draw_at state (Deliver from to) = (refl, tt)
draw_at state (Evict at set) = tt

given_at : (did : Did) (at finish : ℕ) → AllAt [] (Is at) (given_changes did at finish)
given_at (Turn slot outcome) at finish = tt
given_at (Missed slot) at finish = tt
given_at Took at finish = tt
given_at Packet at finish = (refl, tt)
given_at (Handled kind state) at finish = tt
given_at Evicted at finish = tt

-- the packets of the node
pub packet_at : (did : Did) (finish : ℕ) (event : Event) → AllAt [] (Is (node_of event)) (packet_changes did finish event)
packet_at did finish (Instr at) = given_at did at.0 finish
packet_at did finish (Handle at) = (refl, given_at did at.0 finish)
packet_at did finish (Deliver from to) = given_at did to.0 finish
packet_at did finish (Evict at set) = given_at did at.0 finish

processors_are : (finish : ℕ) (times : List ℕ) (event : Event) → processors_after event finish times ≡ changed_all 0 (processor_changes finish event) times
processors_are finish times (Instr at) = refl
processors_are finish times (Handle at) = refl
processors_are finish times (Deliver from to) = refl
processors_are finish times (Evict at set) = refl

controllers_are : (finish : ℕ) (times : List ℕ) (event : Event) → controllers_after event finish times ≡ changed_all 0 (controller_changes finish event) times
controllers_are finish times (Instr at) = refl
controllers_are finish times (Handle at) = refl
controllers_are finish times (Deliver from to) = refl
controllers_are finish times (Evict at set) = refl

draws_are : (state : ℕ) (draws : List ℕ) (event : Event) → draws_after event state draws ≡ changed_all 0 (draw_changes state event) draws
draws_are state draws (Instr at) = refl
draws_are state draws (Handle at) = refl
draws_are state draws (Deliver from to) = refl
draws_are state draws (Evict at set) = refl

given_are : (did : Did) (at finish : ℕ) (packets : List (List ℕ)) → packets_given did at finish packets ≡ changed_all [] (given_changes did at finish) packets
given_are (Turn slot outcome) at finish packets = refl
given_are (Missed slot) at finish packets = refl
given_are Took at finish packets = refl
given_are Packet at finish packets = refl
given_are (Handled kind state) at finish packets = refl
given_are Evicted at finish packets = refl

packets_are : (did : Did) (finish : ℕ) (packets : List (List ℕ)) (event : Event) →
    packets_given did (node_of event) finish (packets_taken event packets) ≡ changed_all [] (packet_changes did finish event) packets
packets_are did finish packets (Instr at) = given_are did at.0 finish packets
packets_are did finish packets (Handle at) = given_are did at.0 finish (packets_taken (Handle at) packets)
packets_are did finish packets (Deliver from to) = given_are did to.0 finish packets
packets_are did finish packets (Evict at set) = given_are did at.0 finish packets

-- ---- all of it

module _ (parts : Parts) (costs : Costs) (happened : TimedMoment) (sends : List (ℕ × Msg)) where
  -- what an event does that starts and finishes so, where the port and the draws of its node stand so
  abbrev pub applied : ℕ → ℕ → ℕ → ℕ → Times → Times
  applied start finish port state times =
      let event = happened.event in
      let n = node_of event in
      record {
        starts = slice_set times.starts n start;
        processors = changed_all 0 (processor_changes finish event) times.processors;
        controllers = changed_all 0 (controller_changes finish event) times.controllers;
        ports = slice_set times.ports n (port_by parts costs n (leaves_at event start finish) port sends);
        draws = changed_all 0 (draw_changes (state_by parts costs happened state event) event) times.draws;
        wakes = changed_all 0 (wakes_by parts costs happened finish state event) times.wakes;
        arrivals = changed_all [] (pushes (goes parts costs n (leaves_at event start finish) port sends)) (arrivals_taken parts event times.arrivals);
        packets = changed_all [] (packet_changes happened.did finish event) times.packets;
        latest = max times.latest finish;
      }

  -- what an event leaves is its effect, with what it reads of the times
  pub left_is : (times : Times) (start finish : ℕ) →
      left_by parts costs times happened sends start finish ≡ applied start finish (time_at times.ports (node_of happened.event)) (time_at times.draws (node_of happened.event)) times
  left_is times start finish =
      let event = happened.event in
      let n = node_of event in
      let leave = leaves_at event start finish in
      let out : Outgoing = record { port = time_at times.ports n; arrivals = arrivals_taken parts event times.arrivals } in
      let waking : Waking = record { state = time_at times.draws n; wakes = times.wakes } in
      let goes_out = sent_is parts costs n leave out sends in
      let wakes = woken_is parts costs happened finish waking event in
      let state = state_by parts costs happened (time_at times.draws n) event in
      λ x. record {
        starts = slice_set times.starts n start;
        processors = processors_are finish times.processors event x;
        controllers = controllers_are finish times.controllers event x;
        ports = slice_set times.ports n (goes_out x).port;
        draws = (ap (λ (w : Waking). draws_after event w.state times.draws) wakes ∙ draws_are state times.draws event) x;
        wakes = (wakes x).wakes;
        arrivals = (goes_out x).arrivals;
        packets = packets_are happened.did finish times.packets event x;
        latest = max times.latest finish;
      }
