-- One event of a node: what it leaves of the node, what it sends and what it did, given the message that it takes. It is a step of one side; the clock
-- becomes its stamp.
use Rattle.std.specs.Prelude.{ℕ, Bool, Option, Some, None, List, []}
use Rattle.alw_num.specs.declared.states.Mode.{Mode}
use Rattle.sparc_table.specs.declared.registers.Regs.{Regs}
use Rattle.sparc_table.specs.declared.outcomes.Need.{Need}
use Rattle.sparc_table.specs.declared.outcomes.Outcome.{Outcome}
use Rattle.alw_msg.specs.declared.messages.Msg.{Msg}
use Rattle.alw_msg.specs.declared.events.Event.{Event}
use Rattle.alw_msg.specs.declared.events.Event.TheVariants.{Instr, Handle, Deliver, Evict}
use Rattle.alw_msg.specs.Contents.{ToMemory, ToCache, Content, ForMemory, ForCache, content}
use Rattle.alw_image.specs.declared.parts.Parts.{Parts}
use Rattle.alw_image.specs.Parameters.{Parameters}
use Rattle.alw_model.specs.declared.steps.Did.{Did}
use Rattle.alw_model.specs.declared.steps.Did.TheVariants.{Took}
use Rattle.alw_model.specs.Caches.{Copy, Cache}
use Rattle.alw_model.specs.Contexts.{running}
use Rattle.alw_model.specs.NodeStates.{NodeState, processor_of, memory_of, stamp_of}
use Rattle.alw_model.specs.ProcessorSteps.{ProcessorStep}
use Rattle.alw_model.specs.ProcessorSteps as processor
use Rattle.alw_model.specs.MemorySteps.{MemoryStep}
use Rattle.alw_model.specs.MemorySteps as memory

-- a node after an event, the messages sent, each with its destination, and what the event did
pub record Stepped : Type 0 where
  pub node : NodeState
  pub sends : List (ℕ × Msg)
  pub did : Did

-- a step of a node's processor side, and one of its memory side
abbrev pub by_processor : NodeState → ProcessorStep → Stepped
by_processor node step = record {
  node = record node { slots = step.slots; current = step.current; cache = step.cache; transactions = step.transactions };
  sends = step.sends;
  did = step.did;
}

abbrev pub by_memory : NodeState → MemoryStep → Stepped
by_memory node step = record { node = record node { homes = step.homes; packets = step.packets }; sends = step.sends; did = step.did }

-- nothing happens: what an event that isn't enabled comes to
abbrev pub nothing : NodeState → Stepped
nothing node = record { node = node; sends = []; did = Took }

-- ---- the steps of the processor side

abbrev pub take_turn : Parts → Parameters → ℕ → NodeState → ℕ → Cache → Regs → Outcome → Stepped
take_turn parts parameters number node slot cache regs outcome =
    by_processor node (processor.take_turn (processor_of parts parameters number node) slot cache regs outcome)

abbrev pub miss : Parts → Parameters → ℕ → ℕ → NodeState → ℕ → ℕ → Mode → Stepped
miss parts parameters number stamp node slot line mode = by_processor node (processor.miss stamp (processor_of parts parameters number node) slot line mode)

abbrev pub access : Parts → Parameters → ℕ → ℕ → NodeState → ℕ → ℕ → Mode → Option Copy → Stepped
access parts parameters number stamp node slot line mode copy =
    by_processor node (processor.access parts.code stamp (processor_of parts parameters number node) slot line mode copy)

abbrev pub instr_by : Parts → Parameters → ℕ → ℕ → NodeState → ℕ → Need → Stepped
instr_by parts parameters number stamp node slot need =
    by_processor node (processor.instr_by parts.code stamp (processor_of parts parameters number node) slot need)

abbrev pub instr : Parts → Parameters → ℕ → ℕ → NodeState → Option ℕ → Stepped
instr parts parameters number stamp node slot = by_processor node (processor.instr parts.code stamp (processor_of parts parameters number node) slot)

abbrev pub at_cache : Parts → Parameters → ℕ → ℕ → NodeState → ℕ → ToCache → Stepped
at_cache parts parameters number stamp node line said = by_processor node (processor.at_cache stamp (processor_of parts parameters number node) line said)

abbrev pub evict_from : Parts → Parameters → ℕ → ℕ → NodeState → ℕ → Stepped
evict_from parts parameters number stamp node set = by_processor node (processor.evict_from stamp (processor_of parts parameters number node) set)

-- ---- the steps of the memory side

abbrev pub at_home : Parts → Parameters → ℕ → ℕ → NodeState → Msg → ToMemory → Bool → Stepped
at_home parts parameters number stamp node msg said traps = by_memory node (memory.at_home stamp (memory_of parts parameters number node) msg said traps)

abbrev pub handle_by : Parts → Parameters → ℕ → ℕ → NodeState → Msg → Content → Stepped
handle_by parts parameters number stamp node packet said = by_memory node (memory.handle_by stamp (memory_of parts parameters number node) packet said)

abbrev pub handle_front : Parts → Parameters → ℕ → ℕ → NodeState → List Msg → Stepped
handle_front parts parameters number stamp node queue = by_memory node (memory.handle_front stamp (memory_of parts parameters number node) queue)

-- ---- an event

-- a delivery is of the side that its message is for
abbrev pub deliver_by : Parts → Parameters → ℕ → ℕ → NodeState → Msg → Content → Stepped
deliver_by parts parameters number stamp node msg (ForMemory said) =
    by_memory node (memory.takes stamp (memory_of parts parameters number node) msg (ForMemory said))
deliver_by parts parameters number stamp node msg (ForCache said) =
    by_processor node (processor.takes stamp (processor_of parts parameters number node) msg.line.0 (ForCache said))

abbrev pub deliver : Parts → Parameters → ℕ → ℕ → NodeState → Option Msg → Stepped
deliver parts parameters number stamp node None = nothing node
deliver parts parameters number stamp node (Some msg) = deliver_by parts parameters number stamp node msg (content msg)

-- an event with its stamp, and the message that it takes
abbrev pub event_at : Parts → Parameters → ℕ → ℕ → NodeState → Event → Option Msg → Stepped
event_at parts parameters number stamp node (Instr at) taken = instr parts parameters number stamp node (running node.slots node.current)
event_at parts parameters number stamp node (Handle at) taken = handle_front parts parameters number stamp node node.packets
event_at parts parameters number stamp node (Deliver from to) taken = deliver parts parameters number stamp node taken
event_at parts parameters number stamp node (Evict at set) taken = evict_from parts parameters number stamp node set

-- the node's clock becomes the stamp
abbrev pub clocked : ℕ → Stepped → Stepped
clocked stamp stepped = record stepped { node = record (stepped.node) { clock = stamp } }

-- the step of the node of this number
abbrev pub node_step : Parts → Parameters → ℕ → NodeState → Event → Option Msg → Stepped
node_step parts parameters number node event taken =
    let stamp = stamp_of node.clock taken in
    clocked stamp (event_at parts parameters number stamp node event taken)
