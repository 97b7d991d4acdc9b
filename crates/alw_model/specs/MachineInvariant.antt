-- The machine invariant: what holds of a machine after every legal journal, the line invariant of each line included.
use Rattle.std.specs.Prelude.{ℕ, ◌+◌, ◌*◌, ◌<◌, Bool, true, cond, ◌&&◌, ◌||◌, ◌==◌, nat_le, nat_lt, max, fold, map, Option, Some, None, is_some, length, IsTrue}
use Rattle.std.specs.List.{list_all}
use Rattle.alw_num.specs.Weights.{weigh}
use Rattle.alw_num.specs.NodeSets.{members, count_nodes}
use Rattle.alw_num.specs.declared.states.Mode.{Mode}
use Rattle.sparc_table.specs.Turns.{need_of}
use Rattle.sparc_table.specs.declared.outcomes.Need.{Need}
use Rattle.sparc_table.specs.declared.outcomes.Need.TheVariants as needs
use Rattle.alw_msg.specs.declared.messages.Msg.{Msg}
use Rattle.alw_msg.specs.declared.contexts.Status.{Status}
use Rattle.alw_msg.specs.declared.contexts.Status.TheVariants.{Trapped}
use Rattle.alw_msg.specs.Contents.{content, is_to_memory}
use Rattle.alw_msg.specs.Statuses.{waited, is_ready, waits_on}
use Rattle.alw_image.specs.declared.parts.Parts.{Parts}
use Rattle.alw_image.specs.Images.{node_count, line_count}
use Rattle.alw_image.specs.Parameters.{Parameters}
use Rattle.alw_num.specs.Maps.{passes, passes_if_some, value_at}
use Rattle.alw_model.specs.LimitLess.{Directory}
use Rattle.alw_model.specs.Caches.{Copy, Transaction, set_of, grants, granted_copy}
use Rattle.alw_model.specs.Contexts.{Slot, slot_at}
use Rattle.alw_model.specs.Messages.{home_node, is_fit}
use Rattle.alw_model.specs.NodeStates.{NodeState}
use Rattle.alw_model.specs.Machine.{MachineState, node_at, link_at, has_halted}
use Rattle.alw_model.specs.Lines.{line_of, entry_of, packets_at, ups}
use Rattle.alw_model.specs.LineInvariant.{LineInvariant}

-- ---- contexts

-- the mode in which an instruction needs this line
abbrev pub mode_in : Need → ℕ → Option Mode
mode_in (needs.Copy needed mode) line = cond (needed.0 == line) (Some mode) None
mode_in _ line = None

-- the mode in which a slot's next instruction needs this line
abbrev pub next_mode : Parts → Slot → ℕ → Option Mode
next_mode parts slot line = mode_in (need_of parts.code slot.regs (line_count parts)) line

-- a context waits only on a line on which its node has a transaction
abbrev pub waits_rightly : NodeState → Slot → Bool
waits_rightly node slot = passes_if_some (λ line. is_some (value_at node.transactions line)) (waited slot.status)

-- the slot that opened a transaction waits on its line, and its next instruction needs the line in the transaction's mode
abbrev pub opens_rightly : Parts → NodeState → ℕ × Transaction → Bool
opens_rightly parts node entry =
    let opener = slot_at node.slots entry.1.opener in
    waits_on entry.0 opener.status && passes (λ mode. grants mode entry.1.mode && grants entry.1.mode mode) (next_mode parts opener entry.0)

-- a slot with a hold is Ready, its next instruction needs the held line, and the node has a copy that grants it
abbrev pub holds_rightly : Parts → Parameters → NodeState → Slot → Bool
holds_rightly parts parameters node slot = passes_if_some (λ line. is_ready slot.status && passes (λ mode. is_some (granted_copy parameters.sets node.cache line mode)) (next_mode parts slot line)) slot.hold

-- a trapped slot's pc is that of its registers
abbrev pub trapped_rightly : ℕ → Status → Bool
trapped_rightly at (Trapped pc tt) = pc == at
trapped_rightly at _ = true

-- ---- messages, packets, entries, caches

-- a message on the link of two nodes is fit, and its stamp is at most its sender's clock
abbrev pub links_rightly : Parts → MachineState → ℕ → ℕ → Msg → Bool
links_rightly parts machine from to msg = is_fit parts from to msg && nat_le msg.stamp (node_at machine from).clock

-- a packet is a message to memory of a node that exists, for a line with this home, with a stamp of at most the node's clock
abbrev pub packed_rightly : Parts → ℕ → NodeState → Msg → Bool
packed_rightly parts number node packet =
    is_to_memory (content packet) && (nat_lt packet.src.0 (node_count parts) && (nat_lt packet.line.0 (line_count parts) && (home_node parts packet.line.0 == number && nat_le packet.stamp node.clock)))

-- H and S hold nodes that exist, and H at most so many
abbrev pub points_rightly : Parts → Parameters → Directory → Bool
points_rightly parts parameters entry =
    list_all (λ i. nat_lt i (node_count parts)) (members entry.hardware) && (list_all (λ i. nat_lt i (node_count parts)) (members entry.software) && nat_le (count_nodes entry.hardware) parameters.pointers)

-- a cached line exists and stands in its set
abbrev pub caches_rightly : Parts → Parameters → ℕ × Copy → Bool
caches_rightly parts parameters entry = nat_lt entry.1.line (line_count parts) && (set_of parameters.sets entry.1.line == entry.0)

-- ---- a node

-- a slot by all of this, and the line that it waits on, or holds, exists
abbrev pub slot_fits : Parts → Parameters → NodeState → Slot → Bool
slot_fits parts parameters node slot =
    waits_rightly node slot && (holds_rightly parts parameters node slot && (trapped_rightly slot.regs.pc slot.status
    && (passes_if_some (λ line. nat_lt line (line_count parts)) (waited slot.status) && passes_if_some (λ line. nat_lt line (line_count parts)) slot.hold)))

-- a transaction by all of this; its line and its opener exist, so that a context waits on its line
abbrev pub transaction_stands : Parts → NodeState → ℕ × Transaction → Bool
transaction_stands parts node entry = opens_rightly parts node entry && (nat_lt entry.0 (line_count parts) && nat_lt entry.1.opener parts.contexts)

-- a node has its contexts and its home lines, and its current slot exists
abbrev pub sizes_fit : Parts → NodeState → Bool
sizes_fit parts node = length node.slots == parts.contexts && (length node.homes == parts.per_node && nat_lt node.current parts.contexts)

-- ---- the end of a run

-- the greatest clock, three times the cached lines, twice the messages on links, and the packets
abbrev pub left_to_do : MachineState → ℕ
left_to_do machine =
    fold max 0 (map (λ (node : NodeState). node.clock) machine.nodes) + 3 * weigh (λ (node : NodeState). length node.cache.entries) machine.nodes
    + 2 * weigh length machine.links + weigh (λ (node : NodeState). length node.packets) machine.nodes

-- what that is at most once every context has halted
abbrev pub most_to_do : Parts → Parameters → ℕ
most_to_do parts parameters = parameters.limit + 3 * (node_count parts * parameters.sets) + 2 * (node_count parts * parts.per_node)

-- ---- the invariant of a machine
pub record MachineInvariant (parts : Parts) (parameters : Parameters) (machine : MachineState) : Type 0 where
  pub lines : (line : ℕ) → line < line_count parts → LineInvariant (node_count parts) (line_of parts parameters machine line) (entry_of parts machine line) (length (ups line (packets_at parts machine line)))
  pub entries : (line : ℕ) → line < line_count parts → IsTrue (points_rightly parts parameters (entry_of parts machine line))
  pub slots : (n : ℕ) → n < node_count parts → IsTrue (list_all (slot_fits parts parameters (node_at machine n)) (node_at machine n).slots)
  pub transactions : (n : ℕ) → n < node_count parts → IsTrue (list_all (transaction_stands parts (node_at machine n)) (node_at machine n).transactions.entries)
  pub links : (from to : ℕ) → from < node_count parts → to < node_count parts → IsTrue (list_all (links_rightly parts machine from to) (link_at parts machine from to))
  pub packets : (n : ℕ) → n < node_count parts → IsTrue (list_all (packed_rightly parts n (node_at machine n)) (node_at machine n).packets)
  pub caches : (n : ℕ) → n < node_count parts → IsTrue (list_all (caches_rightly parts parameters) (node_at machine n).cache.entries)
  pub clocks : (n : ℕ) → n < node_count parts → IsTrue (nat_le (node_at machine n).clock parameters.limit || has_halted machine)
  pub bound : IsTrue (has_halted machine) → IsTrue (nat_le (left_to_do machine) (most_to_do parts parameters))
  pub nodes : (n : ℕ) → n < node_count parts → IsTrue (sizes_fit parts (node_at machine n))
  pub sizes : IsTrue (length machine.nodes == node_count parts && (length machine.links == node_count parts * node_count parts))
