-- The text of a machine's state: what each node has, by number, and then what is on its way.
use Rattle.std.specs.Prelude.{ℕ, ◌+◌, ◌*◌, ◌/◌, ◌%◌, ◌==◌, ◌&&◌, Bool, true, false, cond, Option, None, Some, List, [], ◌++◌, filter, length, codes}
use Rattle.std.specs.List.{flat_map, range_with_len}
use Rattle.alw_num.specs.declared.addresses.Line.{Line}
use Rattle.alw_num.specs.declared.states.State.{State}
use Rattle.alw_num.specs.declared.states.State.TheVariants.{RO}
use Rattle.alw_num.specs.declared.states.Meta.{Meta}
use Rattle.alw_num.specs.declared.states.Meta.TheVariants.{Normal, TrapAlways}
use Rattle.alw_num.specs.NodeSets.{count_nodes}
use Rattle.alw_text.specs.Lines.{is_line_feed}
use Rattle.alw_image.specs.declared.parts.Parts.{Parts}
use Rattle.alw_image.specs.Images.{node_count, body_of, is_always}
use Rattle.alw_model.specs.Contexts.{Slot, slot_at}
use Rattle.alw_model.specs.LimitLess.{Directory}
use Rattle.alw_model.specs.LineInvariant.{same_line}
use Rattle.alw_model.specs.Lines.{entry_of}
use Rattle.alw_model.specs.NodeStates.{NodeState}
use Rattle.alw_model.specs.Machine.{MachineState, node_at, link_at}
use Rattle.alw_report.specs.Reports.{heading}
use Rattle.alw_save.specs.Lines.{node_line, context_line, pending_line, cache_line, home_line, packet_line, link_line}

-- ---- contexts

-- the slot of a context
abbrev pub slot_in : Parts → MachineState → ℕ → Slot
slot_in parts machine context = slot_at (node_at machine (context / parts.contexts)).slots (context % parts.contexts)

abbrev pub slot_text : ℕ → Slot → List ℕ
slot_text context slot = context_line context slot.hold slot.status slot.regs

-- the contexts of a node, by slot
abbrev pub context_text : Parts → MachineState → ℕ → ℕ → List ℕ
context_text parts machine n slot = slot_text (n * parts.contexts + slot) (slot_in parts machine (n * parts.contexts + slot))

abbrev pub contexts_text : Parts → MachineState → ℕ → List ℕ
contexts_text parts machine n = flat_map (context_text parts machine n) (range_with_len 0 parts.contexts)

-- ---- home lines

abbrev pub is_read_only : State → Bool
is_read_only RO = true
is_read_only _ = false

-- the meta state with which a line begins, which may be listed as Trap-Always
abbrev pub begins_so : Bool → Meta → Bool
begins_so true TrapAlways = true
begins_so false Normal = true
begins_so _ _ = false

-- an entry is as at the start, where its line begins with these bytes and may be listed
abbrev pub is_as_begun : Line → Bool → Directory → Bool
is_as_begun body always entry =
    is_read_only entry.state && (begins_so always entry.meta && (count_nodes entry.hardware == 0 && (count_nodes entry.software == 0
    && (entry.acks == 0 && same_line entry.body body))))

-- a home line that differs from its start
abbrev pub home_text : Parts → MachineState → ℕ → List ℕ
home_text parts machine line =
    cond (is_as_begun (body_of parts line) (is_always parts line) (entry_of parts machine line)) [] (home_line line (entry_of parts machine line))

-- the home lines of a node, ascending
abbrev pub homes_text : Parts → MachineState → ℕ → List ℕ
homes_text parts machine n = flat_map (λ place. home_text parts machine (n * parts.per_node + place)) (range_with_len 0 parts.per_node)

-- ---- a node

-- its transactions by line, and its copies by set
abbrev pub maps_text : NodeState → List ℕ
maps_text node = flat_map pending_line node.transactions.entries ++ flat_map cache_line node.cache.entries

-- its home lines, and its packets in queue order
abbrev pub memory_text : Parts → MachineState → ℕ → List ℕ
memory_text parts machine n = homes_text parts machine n ++ flat_map packet_line (node_at machine n).packets

unfoldable pub node_text : Parts → MachineState → ℕ → List ℕ
node_text parts machine n =
    node_line n (node_at machine n).clock (node_at machine n).current
    ++ (contexts_text parts machine n ++ (maps_text (node_at machine n) ++ memory_text parts machine n))

-- ---- links

-- the messages on the link of two nodes, in link order
abbrev pub link_text : Parts → MachineState → ℕ → ℕ → List ℕ
link_text parts machine from to = flat_map (link_line from to) (link_at parts machine from to)

-- those on the links from a node, by the node that they go to
abbrev pub links_from : Parts → MachineState → ℕ → List ℕ
links_from parts machine from = flat_map (link_text parts machine from) (range_with_len 0 (node_count parts))

-- ---- the whole

-- all lines
unfoldable pub state_lines : Parts → MachineState → List ℕ
state_lines parts machine =
    flat_map (node_text parts machine) (range_with_len 0 (node_count parts)) ++ flat_map (links_from parts machine) (range_with_len 0 (node_count parts))

-- how many lines a text has, each of which ends in LF
abbrev pub line_count : List ℕ → ℕ
line_count text = length (filter is_line_feed text)

-- the lines behind their number
unfoldable pub state_text : Parts → MachineState → List ℕ
state_text parts machine = heading (codes "state") (line_count (state_lines parts machine)) ++ state_lines parts machine

-- ---- what may stand at a place

-- the line of what stands at a key, if anything does
abbrev pub line_at : {X : Type 0} → (ℕ × X → List ℕ) → ℕ → Option X → List ℕ
line_at line key None = []
line_at line key (Some x) = line (key, x)

-- the line of a member, if there is one
abbrev pub member_line : {X : Type 0} → (X → List ℕ) → Option X → List ℕ
member_line line None = []
member_line line (Some x) = line x
