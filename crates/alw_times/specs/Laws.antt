-- What the laws of times say of an entry behind a front of a journal.
use Rattle.std.specs.Prelude.{◌≡◌, ℕ, ◌-◌, ◌<◌, Bool, true, false, List}
use Rattle.alw_msg.specs.declared.events.Event.{Event}
use Rattle.alw_msg.specs.declared.events.Event.TheVariants.{Instr, Handle, Deliver, Evict}
use Rattle.alw_msg.specs.declared.events.Entry.{Entry}
use Rattle.alw_msg.specs.Events.{node_of}
use Rattle.alw_image.specs.declared.parts.Parts.{Parts}
use Rattle.alw_image.specs.Images.{node_count}
use Rattle.alw_image.specs.Parameters.{Parameters}
use Rattle.alw_model.specs.Machine.{state}
use Rattle.alw_model.specs.Runs.{Moment, moment_of}
use Rattle.alw_times.specs.declared.costs.Costs.{Costs}
use Rattle.alw_times.specs.Happening.{happened_of}
use Rattle.alw_times.specs.Times.{Times, start_of, finish_of, work_before, times_of}

-- when a moment starts, begins its work and finishes, by the times before it
abbrev pub start_in : Parts → Costs → Times → Moment → ℕ
start_in parts costs times moment = start_of parts costs times (happened_of moment)

abbrev pub begin_in : Parts → Costs → Times → Moment → ℕ
begin_in parts costs times moment = start_in parts costs times moment - work_before costs moment.entry.event

abbrev pub finish_in : Parts → Costs → Times → Moment → ℕ
finish_in parts costs times moment = finish_of parts costs times (happened_of moment) moment.stepped.sends

-- the same of an entry behind a front of a journal
abbrev pub started : Parts → Parameters → Costs → List Entry → Entry → ℕ
started parts parameters costs front entry = start_in parts costs (times_of parts parameters costs front) (moment_of parts parameters (state parts parameters front) entry)

abbrev pub begun : Parts → Parameters → Costs → List Entry → Entry → ℕ
begun parts parameters costs front entry = begin_in parts costs (times_of parts parameters costs front) (moment_of parts parameters (state parts parameters front) entry)

abbrev pub finished : Parts → Parameters → Costs → List Entry → Entry → ℕ
finished parts parameters costs front entry = finish_in parts costs (times_of parts parameters costs front) (moment_of parts parameters (state parts parameters front) entry)

-- an event keeps the processor, and not the controller
abbrev pub is_of_processor : Event → Bool
is_of_processor (Instr at) = true
is_of_processor (Handle at) = true
is_of_processor (Deliver from to) = false
is_of_processor (Evict at set) = false

-- two entries of a journal, of one node that exists, in their order
abbrev pub EveryTwo : (Parts → Parameters → Costs → List Entry → Entry → List Entry → Entry → Type 0) → Type 0
EveryTwo Fact = (parts : Parts) (parameters : Parameters) (costs : Costs) (front middle : List Entry) (first second : Entry) →
    node_of first.event < node_count parts → node_of second.event ≡ node_of first.event → Fact parts parameters costs front first middle second
