-- The timed schedule: of the events that are due, the one that starts first comes next, up to an end.
use Rattle.std.specs.Prelude.{◌≡◌, ℕ, ◌≤◌, ◌||◌, ◌&&◌, ◌==◌, not, nat_lt, Bool, true, false, Option, None, Some, Result, Ok, Err, List, [], ◌∷◌, ◌⊎◌, slice_get, filter}
use Rattle.alw_num.specs.declared.memory.NoMemory.{NoMemory}
use Rattle.alw_msg.specs.declared.events.Event.{Event}
use Rattle.alw_msg.specs.declared.events.Event.TheVariants.{Instr, Handle, Deliver, Evict}
use Rattle.alw_msg.specs.declared.events.Entry.{Entry}
use Rattle.alw_msg.specs.Events.{node_of}
use Rattle.alw_image.specs.declared.parts.Parts.{Parts}
use Rattle.alw_image.specs.Parameters.{Parameters}
use Rattle.alw_model.specs.declared.ends.Ended.{Ended}
use Rattle.alw_model.specs.Contexts.{running}
use Rattle.alw_model.specs.Machine.{End, end_of, has_halted}
use Rattle.alw_model.specs.Ends.{IsEnd}
use Rattle.alw_mesh.specs.Histories.{History, begun, state_of, may_be_next, grown, IsRun}
use Rattle.alw_mesh.specs.Ends.{next_events}
use Rattle.alw_mesh.specs.Readings.{node_in}
use Rattle.alw_times.specs.declared.costs.Costs.{Costs}
use Rattle.alw_times.specs.Times.{Times, times_of, queue_at, is_later, arrival_of, start_by}
use Rattle.alw_timing.specs.declared.timing.Timekeeper.{Timekeeper}
use Rattle.alw_timing.specs.Timing.{TimesAreKept}

-- the end that holds
abbrev pub end_in : History → Option End
end_in h = end_of h.image h.parameters (state_of h)

-- the times of a machine's journal
abbrev pub times_in : History → Costs → Times
times_in h costs = times_of h.image h.parameters costs h.journal

-- ---- when an event of a machine would start, and whether it is due

-- the slot of an event's node that would run
abbrev pub slot_for : History → Event → Option ℕ
slot_for h event = let node = node_in h (node_of event) in running node.slots node.current

abbrev pub start_for : History → Costs → Times → Event → ℕ
start_for h costs times event = start_by h.image costs times (slot_for h event) event

-- an event is due, but for an instruction where the handler of its node may act and the packet has come by the start: a packet interrupts
abbrev pub is_due_for : History → Costs → Times → Event → Bool
is_due_for h costs times (Instr at) = not (may_be_next h (Handle at)) || is_later (queue_at times.packets at.0) (start_for h costs times (Instr at))
is_due_for h costs times _ = true

-- the main events that may be next and are due
abbrev pub due_events : History → Costs → Times → List Event
due_events h costs times = filter (is_due_for h costs times) (next_events h)

-- ---- which comes first

-- at a node the handler comes before a delivery, and a delivery before an instruction
abbrev pub rank_of : Event → ℕ
rank_of (Handle at) = 0
rank_of (Deliver from to) = 1
rank_of (Instr at) = 2
rank_of (Evict at set) = 3

-- of deliveries at a node the one that arrived first, and of these the lowest sender
abbrev pub arrived_at : Parts → Times → Event → ℕ
arrived_at parts times (Deliver from to) = arrival_of parts times (Deliver from to)
arrived_at parts times _ = 0

abbrev pub sender_of : Event → ℕ
sender_of (Deliver from to) = from.0
sender_of _ = 0

-- by start, by node, by rank, by arrival and by sender
abbrev pub key_for : History → Costs → Times → Event → List ℕ
key_for h costs times event = start_for h costs times event ∷ node_of event ∷ rank_of event ∷ arrived_at h.image times event ∷ sender_of event ∷ []

-- one list of numbers comes before another: the first number that differs is less
abbrev pub is_before : List ℕ → List ℕ → Bool
is_before [] ys = false
is_before (x ∷ xs) [] = false
is_before (x ∷ xs) (y ∷ ys) = nat_lt x y || (x == y && is_before xs ys)

-- an event is due, and comes before all others that are
pub record IsFirstDue (h : History) (costs : Costs) (times : Times) (event : Event) : Type 0 where
  pub place : ℕ
  pub stands : slice_get (due_events h costs times) place ≡ Some event
  pub first : (k : ℕ) (other : Event) → slice_get (due_events h costs times) k ≡ Some other →
      (other ≡ event) ⊎ (is_before (key_for h costs times event) (key_for h costs times other) ≡ true)

-- ---- the run

-- an event comes next: no end holds, and it is the first that is due
pub record EventIsTimed (h : History) (costs : Costs) (event : Event) : Type 0 where
  pub going : end_in h ≡ None
  pub first : IsFirstDue h costs (times_in h costs) event

-- events come, one after another, from a machine on, and leave a machine
abbrev pub EventsAreTimed : History → Costs → List Event → History → Type 0
EventsAreTimed h costs [] after = h ≡ after
EventsAreTimed h costs (event ∷ rest) after = EventIsTimed h costs event × EventsAreTimed (grown h event) costs rest after

-- of two events one after the other the second starts no earlier, where not every context halts with the first
abbrev pub StartsAscend : History → Costs → List Event → Type 0
StartsAscend h costs [] = Unit {0}
StartsAscend h costs (event ∷ []) = Unit {0}
StartsAscend h costs (event ∷ other ∷ rest) =
    (has_halted (state_of (grown h event)) ≡ has_halted (state_of h) → start_for h costs (times_in h costs) event ≤ start_for (grown h event) costs (times_in (grown h event) costs) other)
    × StartsAscend (grown h event) costs (other ∷ rest)

-- the timed schedule takes a machine to another
pub record MachineIsTimed (before : History) (costs : Costs) (after : History) : Type 0 where
  pub events : List Event
  pub timed_are : EventsAreTimed before costs events after

-- a journal is what the timed schedule makes of an image from its start on
abbrev pub IsTimedRun : Parts → Parameters → Costs → List Entry → Type 0
IsTimedRun image parameters costs journal = MachineIsTimed (begun image parameters) costs (record { image = image; parameters = parameters; journal = journal; joined = 0 })

-- the timed schedule has taken a machine to an end, and these are its times
pub record FinishesByTime (before : History) (start : Timekeeper) (after : History) (ended : Ended) (keeper : Timekeeper) : Type 0 where
  pub timed : MachineIsTimed before start.costs after
  pub run : IsRun after
  pub end : IsEnd after.image after.parameters after.journal ended
  pub kept : TimesAreKept start after keeper

-- what the timed schedule leaves and answers: an end; or memory was refused
abbrev pub Finishes : History → Timekeeper → History → Timekeeper → Result Ended NoMemory → Type 0
Finishes before start after keeper (Ok ended) = FinishesByTime before start after ended keeper
Finishes before start after keeper (Err refused) = Unit {0}
