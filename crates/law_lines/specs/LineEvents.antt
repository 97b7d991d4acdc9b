-- What an event of the machine is to a line: no event of the line's own machine, or one.
use Rattle.std.specs.Prelude.{◌≡◌, ℕ, Bool, true, false, cond, ◌==◌, Option, Some, None, List, [], ◌∷◌, ◌++◌}
use Rattle.alw_num.specs.declared.addresses.Line.{Line}
use Rattle.alw_num.specs.declared.states.Mode.{Mode}
use Rattle.alw_num.specs.declared.states.Mode.TheVariants.{Read, Write}
use Rattle.sparc_table.specs.Turns.{need_of, turn_of}
use Rattle.sparc_table.specs.declared.outcomes.Need.{Need}
use Rattle.sparc_table.specs.declared.outcomes.Need.TheVariants as needs
use Rattle.alw_msg.specs.declared.messages.Msg.{Msg}
use Rattle.alw_msg.specs.declared.events.Event.{Event}
use Rattle.alw_msg.specs.declared.events.Event.TheVariants.{Instr, Handle, Deliver, Evict}
use Rattle.alw_image.specs.declared.parts.Parts.{Parts}
use Rattle.alw_image.specs.Images.{line_count}
use Rattle.alw_image.specs.Parameters.{Parameters}
use Rattle.alw_num.specs.Maps.{value_at}
use Rattle.alw_msg.specs.Contents.{ToCache, brings_line, Content, ForMemory, ForCache, content}
use Rattle.alw_model.specs.LimitLess.{is_trapped}
use Rattle.alw_model.specs.Caches.{Copy, Transaction, granted_copy, replaced}
use Rattle.alw_model.specs.Contexts.{slot_at, running}
use Rattle.alw_msg.specs.Events.{node_of}
use Rattle.alw_model.specs.NodeStates.{NodeState, home_at}
use Rattle.alw_model.specs.Machine.{MachineState, node_at, taken_by}
use Rattle.alw_model.specs.Lines.{LineState}
use Rattle.law_line.specs.Protocol.{LineEvent, Opens, Stores, Leaves, Comes, Acts, IsLegalRun, run}

-- an event of this line, as one of line k
abbrev pub about : ℕ → ℕ → LineEvent → List LineEvent
about k line event = cond (k == line) (event ∷ []) []

-- a copy leaves its set
abbrev pub in_leaving : ℕ → ℕ → Option Copy → List LineEvent
in_leaving k number None = []
in_leaving k number (Some copy) = about k copy.line (Leaves number)

-- ---- an instruction

-- a miss on a line opens a transaction, where there is none
abbrev pub in_miss : ℕ → ℕ → ℕ → Mode → Option Transaction → List LineEvent
in_miss k number line mode None = about k line (Opens number mode)
in_miss k number line mode (Some transaction) = []

-- a turn stores the line's new value, where the access was in Write mode
abbrev pub in_turn : ℕ → ℕ → ℕ → Mode → Line → List LineEvent
in_turn k number line Read body = []
in_turn k number line Write body = about k line (Stores number body)

-- an access by the copy that grants it: without one it misses
abbrev pub in_access : Parts → ℕ → NodeState → ℕ → ℕ → Mode → ℕ → Option Copy → List LineEvent
in_access parts number node slot line mode k None = in_miss k number line mode (value_at node.transactions line)
in_access parts number node slot line mode k (Some copy) = in_turn k number line mode (turn_of parts.code (slot_at node.slots slot).regs (line_count parts) copy.body).1

-- an instruction by what it needs
abbrev pub in_need : Parts → Parameters → ℕ → NodeState → ℕ → ℕ → Need → List LineEvent
in_need parts parameters number node slot k (needs.Copy line mode) = in_access parts number node slot line.0 mode k (granted_copy parameters.sets node.cache line.0 mode)
in_need parts parameters number node slot k _ = []

-- an instruction of the slot that runs
abbrev pub in_instr : Parts → Parameters → ℕ → NodeState → ℕ → Option ℕ → List LineEvent
in_instr parts parameters number node k None = []
in_instr parts parameters number node k (Some slot) = in_need parts parameters number node slot k (need_of parts.code (slot_at node.slots slot).regs (line_count parts))

-- ---- messages

-- a message to a cache comes, and where it brings its line, the line that stood in the set leaves
abbrev pub in_cache : ℕ → ℕ → ℕ → NodeState → ℕ → ToCache → List LineEvent
in_cache k number sets node line said = about k line (Comes number) ++ cond (brings_line said) (in_leaving k number (replaced sets node.cache line)) []

-- the home acts on a message to memory, unless it traps
abbrev pub in_home : ℕ → ℕ → ℕ → Bool → List LineEvent
in_home k line from true = []
in_home k line from false = about k line (Acts from)

-- a delivery by what the message says
abbrev pub in_delivery : Parts → Parameters → ℕ → NodeState → ℕ → Msg → Content → List LineEvent
in_delivery parts parameters number node k msg (ForMemory said) = in_home k msg.line.0 msg.src.0 (is_trapped parameters.pointers (home_at parts node msg.line.0) msg.src.0 said)
in_delivery parts parameters number node k msg (ForCache said) = in_cache k number parameters.sets node msg.line.0 said

-- the handler acts on a packet
abbrev pub in_packet : ℕ → Msg → Content → List LineEvent
in_packet k packet (ForMemory said) = about k packet.line.0 (Acts packet.src.0)
in_packet k packet (ForCache said) = []

abbrev pub in_queue : ℕ → List Msg → List LineEvent
in_queue k [] = []
in_queue k (packet ∷ rest) = in_packet k packet (content packet)

abbrev pub in_taken : Parts → Parameters → ℕ → NodeState → ℕ → Option Msg → List LineEvent
in_taken parts parameters number node k None = []
in_taken parts parameters number node k (Some msg) = in_delivery parts parameters number node k msg (content msg)

-- ---- an event

-- what an event of a node is to line k, with the message that it takes
abbrev pub events_at : Parts → Parameters → ℕ → NodeState → Event → Option Msg → ℕ → List LineEvent
events_at parts parameters number node (Instr at) taken k = in_instr parts parameters number node k (running node.slots node.current)
events_at parts parameters number node (Handle at) taken k = in_queue k node.packets
events_at parts parameters number node (Deliver from to) taken k = in_taken parts parameters number node k taken
events_at parts parameters number node (Evict at set) taken k = in_leaving k number (value_at node.cache set)

-- what an event of the machine is to line k
abbrev pub line_events : Parts → Parameters → MachineState → Event → ℕ → List LineEvent
line_events parts parameters machine event k = events_at parts parameters (node_of event) (node_at machine (node_of event)) event (taken_by parts machine event) k

-- a line follows events of its own: they are legal among n nodes, and lead from one state to the other
pub record Follows (n : ℕ) (before : LineState) (events : List LineEvent) (after : LineState) : Type 0 where
  pub legal : IsLegalRun n before events
  pub state : after ≡ run before events
