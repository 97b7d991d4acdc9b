-- Times of a run in cycles: a fold over what happened in it, and so a function of its image, parameters, costs and journal. No schedule and no limit is in it.
use Rattle.std.specs.Prelude.{ℕ, zero, suc, ◌+◌, ◌-◌, ◌*◌, ◌%◌, ◌^◌, Bool, true, false, cond, ◌==◌, nat_lt, max, Option, Some, None, List, [], ◌∷◌, ◌++◌, length, map, replicate, slice_index_or, slice_set}
use Rattle.std.specs.List.{range_with_len}
use Rattle.alw_num.specs.Maps.{passes}
use Rattle.alw_num.specs.Draws.{drawn, drawn_number}
use Rattle.alw_msg.specs.declared.messages.Kind.{Kind}
use Rattle.alw_msg.specs.declared.messages.Kind.TheVariants.{BUSY}
use Rattle.alw_msg.specs.declared.messages.Msg.{Msg}
use Rattle.alw_msg.specs.declared.events.Event.{Event}
use Rattle.alw_msg.specs.declared.events.Event.TheVariants.{Instr, Handle, Deliver, Evict}
use Rattle.alw_msg.specs.declared.events.Entry.{Entry}
use Rattle.alw_msg.specs.Events.{node_of}
use Rattle.alw_msg.specs.Kinds.{to_memory, has_body}
use Rattle.alw_msg.specs.Lists.{behind}
use Rattle.alw_image.specs.declared.parts.Parts.{Parts}
use Rattle.alw_image.specs.Images.{node_count, context_count, hops_between}
use Rattle.alw_image.specs.Parameters.{Parameters}
use Rattle.alw_model.specs.declared.steps.Did.{Did}
use Rattle.alw_model.specs.declared.steps.Did.TheVariants.{Packet}
use Rattle.alw_model.specs.Machine.{link_place}
use Rattle.alw_model.specs.Runs.{Moment, moments}
use Rattle.alw_times.specs.declared.costs.Costs.{Costs}
use Rattle.alw_times.specs.declared.happenings.TimedMoment.{TimedMoment}
use Rattle.alw_times.specs.Happening.{happened_of}

-- Of each node the start of its last event, when its processor, its controller and its port are free, and where its draws stand; of each context when what it waited
-- for came; of each link the arrivals of its messages and of each node the comings of its packets, in order; the greatest finish so far.
pub record Times : Type 0 where
  pub starts : List ℕ
  pub processors : List ℕ
  pub controllers : List ℕ
  pub ports : List ℕ
  pub draws : List ℕ
  pub wakes : List ℕ
  pub arrivals : List (List ℕ)
  pub packets : List (List ℕ)
  pub latest : ℕ

-- the state from which a node draws: each node has draws of its own
abbrev pub first_draw : Costs → ℕ → ℕ
first_draw costs node = (costs.seed * 256 % 2 ^ 64 + node) % 2 ^ 64

-- at the beginning every time is 0, and nothing is on its way
abbrev pub times_start : Parts → Costs → Times
times_start parts costs = record {
  starts = replicate (node_count parts) 0;
  processors = replicate (node_count parts) 0;
  controllers = replicate (node_count parts) 0;
  ports = replicate (node_count parts) 0;
  draws = map (first_draw costs) (range_with_len 0 (node_count parts));
  wakes = replicate (context_count parts) 0;
  arrivals = replicate (node_count parts * node_count parts) [];
  packets = replicate (node_count parts) [];
  latest = 0;
}

-- a time by its place, and a queue by its place: 0 and none where there is none
abbrev pub time_at : List ℕ → ℕ → ℕ
time_at times place = slice_index_or times place 0

abbrev pub queue_at : List (List ℕ) → ℕ → List ℕ
queue_at queues place = slice_index_or queues place []

-- the first time of a queue
abbrev pub first_time : List ℕ → ℕ
first_time [] = 0
first_time (time ∷ rest) = time

-- ---- when an event starts

-- when what the slot that runs waited for came
abbrev pub woken_at : Parts → Times → ℕ → Option ℕ → ℕ
woken_at parts times at None = 0
woken_at parts times at (Some slot) = time_at times.wakes (at * parts.contexts + slot)

-- when the message that an event takes arrived, and the packet that it handles came
abbrev pub arrival_of : Parts → Times → Event → ℕ
arrival_of parts times (Instr at) = 0
arrival_of parts times (Handle at) = first_time (queue_at times.packets at.0)
arrival_of parts times (Deliver from to) = first_time (queue_at times.arrivals (link_place parts from.0 to.0))
arrival_of parts times (Evict at set) = 0

-- When an event begins: an instruction when the processor is free and its slot was woken, the handler when the processor is free and its packet has come, a delivery
-- when the controller is free and its message has arrived, an eviction when the controller is free.
abbrev pub begin_by : Parts → Times → Option ℕ → Event → ℕ
begin_by parts times slot (Instr at) = max (time_at times.processors at.0) (woken_at parts times at.0 slot)
begin_by parts times slot (Handle at) = max (time_at times.processors at.0) (arrival_of parts times (Handle at))
begin_by parts times slot (Deliver from to) = max (time_at times.controllers to.0) (arrival_of parts times (Deliver from to))
begin_by parts times slot (Evict at set) = time_at times.controllers at.0

-- how long it is under way before it acts: the handler acts at its end
abbrev pub work_before : Costs → Event → ℕ
work_before costs (Handle at) = costs.trap
work_before costs _ = 0

-- it starts, and acts, no earlier than the event before it at its node
abbrev pub start_by : Parts → Costs → Times → Option ℕ → Event → ℕ
start_by parts costs times slot event = max (time_at times.starts (node_of event)) (work_before costs event + begin_by parts times slot event)

-- An event is due where nothing at its node comes before it: a packet that has come interrupts an instruction.
abbrev pub is_later : List ℕ → ℕ → Bool
is_later [] start = true
is_later (coming ∷ rest) start = nat_lt start coming

abbrev pub is_due : Parts → Costs → Times → Option ℕ → Event → Bool
is_due parts costs times slot (Instr at) = is_later (queue_at times.packets at.0) (start_by parts costs times slot (Instr at))
is_due parts costs times slot _ = true

-- ---- when it finishes

-- an instruction costs a switch more where another slot runs than ran last
abbrev pub turn_cost : Costs → ℕ → Option ℕ → ℕ
turn_cost costs last None = costs.hit
turn_cost costs last (Some slot) = costs.hit + cond (slot == last) 0 costs.switch

-- what an event costs from its start on: the handler has each message behind the first to write
abbrev pub cost_by : Costs → TimedMoment → List (ℕ × Msg) → Event → ℕ
cost_by costs happened sends (Instr at) = turn_cost costs happened.last happened.slot
cost_by costs happened sends (Handle at) = costs.inv * (length sends - 1)
cost_by costs happened sends (Deliver from to) = cond (passes to_memory happened.taken) costs.home costs.fill
cost_by costs happened sends (Evict at set) = costs.fill

abbrev pub cost_of : Costs → TimedMoment → List (ℕ × Msg) → ℕ
cost_of costs happened sends = cost_by costs happened sends happened.event

-- ---- what it leaves

-- the handler and an instruction keep the processor until they finish, a delivery and an eviction the controller
abbrev pub processors_after : Event → ℕ → List ℕ → List ℕ
processors_after (Instr at) finish times = slice_set times at.0 finish
processors_after (Handle at) finish times = slice_set times at.0 finish
processors_after (Deliver from to) finish times = times
processors_after (Evict at set) finish times = times

abbrev pub controllers_after : Event → ℕ → List ℕ → List ℕ
controllers_after (Instr at) finish times = times
controllers_after (Handle at) finish times = times
controllers_after (Deliver from to) finish times = slice_set times to.0 finish
controllers_after (Evict at set) finish times = slice_set times at.0 finish

-- what it sends leaves when it finishes, and what the handler sends when it acts
abbrev pub leaves_at : Event → ℕ → ℕ → ℕ
leaves_at (Handle at) start finish = start
leaves_at _ start finish = finish

-- how long a message holds the port
abbrev pub length_of : Costs → Kind → ℕ
length_of costs kind = costs.send + cond (has_body kind) costs.data 0

-- a node's port, and the arrivals of all links
pub record Outgoing : Type 0 where
  pub port : ℕ
  pub arrivals : List (List ℕ)

-- a time joins the queue of a link
abbrev pub joined : Parts → ℕ → ℕ → ℕ → List (List ℕ) → List (List ℕ)
joined parts from to time arrivals = let place = link_place parts from to in slice_set arrivals place (queue_at arrivals place ++ time ∷ [])

-- One message goes out. To the node itself it arrives as it leaves; to another it waits for the port, holds it, and then takes its way.
abbrev pub sent_one : Parts → Costs → ℕ → ℕ → Outgoing → ℕ × Msg → Outgoing
sent_one parts costs from leave out send =
    let free = max out.port leave + length_of costs send.1.kind in
    cond (send.0 == from)
    (record { port = out.port; arrivals = joined parts from send.0 leave out.arrivals })
    (record { port = free; arrivals = joined parts from send.0 (free + costs.hop * hops_between parts from send.0) out.arrivals })

-- one message after the other goes out
abbrev pub sent : Parts → Costs → ℕ → ℕ → Outgoing → List (ℕ × Msg) → Outgoing
sent parts costs from leave out [] = out
sent parts costs from leave out (send ∷ rest) = sent parts costs from leave (sent_one parts costs from leave out send) rest

-- a delivery takes the first arrival of its link
abbrev pub arrivals_taken : Parts → Event → List (List ℕ) → List (List ℕ)
arrivals_taken parts (Deliver from to) arrivals = let place = link_place parts from.0 to.0 in slice_set arrivals place (behind (queue_at arrivals place))
arrivals_taken parts _ arrivals = arrivals

-- a node's port and all arrivals, of the times, and put into them
abbrev pub outgoing_at : Times → ℕ → Outgoing
outgoing_at times node = record { port = time_at times.ports node; arrivals = times.arrivals }

abbrev pub with_outgoing : Times → ℕ → Outgoing → Times
with_outgoing times node out = record times { ports = slice_set times.ports node out.port; arrivals = out.arrivals }

-- the handler takes a packet off; a delivery that traps leaves one, which comes when it finishes
abbrev pub packets_taken : Event → List (List ℕ) → List (List ℕ)
packets_taken (Handle at) packets = slice_set packets at.0 (behind (queue_at packets at.0))
packets_taken _ packets = packets

abbrev pub packets_given : Did → ℕ → ℕ → List (List ℕ) → List (List ℕ)
packets_given Packet at finish packets = slice_set packets at (queue_at packets at ++ finish ∷ [])
packets_given _ at finish packets = packets

-- ---- what it wakes

abbrev pub is_busy : Kind → Bool
is_busy BUSY = true
is_busy _ = false

-- where a node's draws stand, and the wakes of all contexts
pub record Waking : Type 0 where
  pub state : ℕ
  pub wakes : List ℕ

-- A context is woken at a time. After a BUSY it waits longer, for a number below retry that is drawn, and for none where retry is 0.
abbrev pub woken_one : Costs → Bool → ℕ → ℕ → Waking → Waking
woken_one costs refused time place waking =
    cond refused
    (let state = drawn waking.state in record { state = state; wakes = slice_set waking.wakes place (time + drawn_number state % max costs.retry 1) })
    (record { state = waking.state; wakes = slice_set waking.wakes place time })

-- a slot of a node is woken where its flag is set; the node's contexts begin at a place
abbrev pub woken_slot : Costs → Bool → List Bool → ℕ → ℕ → ℕ → Waking → Waking
woken_slot costs refused flags first time slot waking = cond (slice_index_or flags slot false) (woken_one costs refused time (first + slot) waking) waking

-- the slots below a number are woken, in order
abbrev pub woken_below : Costs → Bool → List Bool → ℕ → ℕ → ℕ → Waking → Waking
woken_below costs refused flags first time zero waking = waking
woken_below costs refused flags first time (suc slot) waking = woken_slot costs refused flags first time slot (woken_below costs refused flags first time slot waking)

-- a delivery wakes the slots of its node that it made Ready
abbrev pub woken_by : Parts → Costs → TimedMoment → ℕ → Waking → Event → Waking
woken_by parts costs happened finish waking (Deliver from to) =
    woken_below costs (passes is_busy happened.taken) happened.woken (to.0 * parts.contexts) finish parts.contexts waking
woken_by parts costs happened finish waking _ = waking

-- the draws of its node then go on
abbrev pub draws_after : Event → ℕ → List ℕ → List ℕ
draws_after (Deliver from to) state draws = slice_set draws to.0 state
draws_after _ state draws = draws

abbrev pub woken_after : Parts → Costs → TimedMoment → ℕ → Times → Times
woken_after parts costs happened finish times =
    let event = happened.event in
    let waking = woken_by parts costs happened finish (record { state = time_at times.draws (node_of event); wakes = times.wakes }) event in
    record times { draws = draws_after event waking.state times.draws; wakes = waking.wakes }

-- ---- all of it

-- an event takes the message or the packet that it waited for
abbrev pub taken_after : Parts → Event → Times → Times
taken_after parts event times = record times { arrivals = arrivals_taken parts event times.arrivals; packets = packets_taken event times.packets }

-- what it sends goes out
abbrev pub sent_after : Parts → Costs → Event → List (ℕ × Msg) → ℕ → Times → Times
sent_after parts costs event sends leave times = let at = node_of event in with_outgoing times at (sent parts costs at leave (outgoing_at times at) sends)

-- it leaves a packet where it trapped
abbrev pub given_after : Event → Did → ℕ → Times → Times
given_after event did finish times = record times { packets = packets_given did (node_of event) finish times.packets }

-- its start and its finish stand
abbrev pub kept : Event → ℕ → ℕ → Times → Times
kept event start finish times = record times {
  starts = slice_set times.starts (node_of event) start;
  processors = processors_after event finish times.processors;
  controllers = controllers_after event finish times.controllers;
  latest = max times.latest finish;
}

-- the times once an event has started and finished
abbrev pub left_by : Parts → Costs → Times → TimedMoment → List (ℕ × Msg) → ℕ → ℕ → Times
left_by parts costs times happened sends start finish =
    let event = happened.event in
    kept event start finish
    (woken_after parts costs happened finish
    (given_after event happened.did finish
    (sent_after parts costs event sends (leaves_at event start finish)
    (taken_after parts event times))))

-- when what happened started and finished
abbrev pub start_of : Parts → Costs → Times → TimedMoment → ℕ
start_of parts costs times happened = start_by parts costs times happened.slot happened.event

abbrev pub finish_of : Parts → Costs → Times → TimedMoment → List (ℕ × Msg) → ℕ
finish_of parts costs times happened sends = start_of parts costs times happened + cost_of costs happened sends

-- the times after what happened
abbrev pub passed : Parts → Costs → Times → TimedMoment → List (ℕ × Msg) → Times
passed parts costs times happened sends = left_by parts costs times happened sends (start_of parts costs times happened) (finish_of parts costs times happened sends)

-- ---- the times of a journal

unfoldable pub timed : Parts → Costs → Times → Moment → Times
timed parts costs times moment = passed parts costs times (happened_of moment) moment.stepped.sends

-- the times after the events of a run
abbrev pub timed_all : Parts → Costs → Times → List Moment → Times
timed_all parts costs times [] = times
timed_all parts costs times (moment ∷ rest) = timed_all parts costs (timed parts costs times moment) rest

unfoldable pub times_of : Parts → Parameters → Costs → List Entry → Times
times_of parts parameters costs journal = timed_all parts costs (times_start parts costs) (moments parts parameters journal)
