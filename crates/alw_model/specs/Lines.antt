-- What a machine's state says of one line: its home's entry and pending packets, and each node's copy, transaction and messages; who carries its current value.
use Rattle.std.specs.Prelude.{ℕ, cond, ◌==◌, nat_lt, Option, None, List, [], ◌∷◌, ◌++◌, option_map, flat_map, filter, option_to_list, map}
use Rattle.std.specs.List.{range_with_len}
use Rattle.alw_num.specs.declared.addresses.Line.{Line}
use Rattle.alw_num.specs.declared.states.Mode.{Mode}
use Rattle.alw_num.specs.declared.states.Mode.TheVariants.{Write}
use Rattle.alw_msg.specs.declared.messages.Msg.{Msg}
use Rattle.alw_msg.specs.Contents.{ToMemory, REPM, UPDATE, ToCache, WDATA, content, request_in, reply_in}
use Rattle.alw_image.specs.declared.parts.Parts.{Parts}
use Rattle.alw_image.specs.Images.{node_count}
use Rattle.alw_image.specs.Parameters.{Parameters}
use Rattle.alw_num.specs.Maps.{kept_if, value_at}
use Rattle.alw_model.specs.FullMap.{Home}
use Rattle.alw_model.specs.LimitLess.{Directory, full_map_of}
use Rattle.alw_model.specs.Caches.{Copy, Transaction, grants, copy_at}
use Rattle.alw_model.specs.Messages.{home_node}
use Rattle.alw_model.specs.NodeStates.{home_at}
use Rattle.alw_model.specs.Machine.{MachineState, node_at, link_at}

-- what a node has of a line: its copy, the mode of its transaction, what it has sent to the line's home and isn't acted on yet (`up`), and what is on its way to it from there (`down`)
pub record LineNode : Type 0 where
  pub copy : Option (Mode × Line)
  pub transaction : Option Mode
  pub up : List ToMemory
  pub down : List ToCache

-- the line's full-map entry, and what each node has of the line
pub record LineState : Type 0 where
  pub home : Home
  pub node : ℕ → LineNode

-- a node that has nothing of the line
abbrev pub absent : LineNode
absent = record { copy = None; transaction = None; up = []; down = [] }

-- ---- what one line has in a machine

-- what messages say to memory about a line, in order
abbrev pub ups : ℕ → List Msg → List ToMemory
ups line msgs = flat_map (λ msg. cond (msg.line.0 == line) (request_in (content msg)) []) msgs

-- what messages say to a cache about a line, in order
abbrev pub downs : ℕ → List Msg → List ToCache
downs line msgs = flat_map (λ msg. cond (msg.line.0 == line) (reply_in (content msg)) []) msgs

-- the messages that a node has sent
abbrev pub sent_by : ℕ → List Msg → List Msg
sent_by number msgs = filter (λ msg. msg.src.0 == number) msgs

-- a line's entry at its home
abbrev pub entry_of : Parts → MachineState → ℕ → Directory
entry_of parts machine line = home_at parts (node_at machine (home_node parts line)) line

-- the packets in the queue of a line's home
abbrev pub packets_at : Parts → MachineState → ℕ → List Msg
packets_at parts machine line = (node_at machine (home_node parts line)).packets

-- what a node has of a line: `up` is its pending packet and then what is on its link to the home
abbrev pub line_node : Parts → Parameters → MachineState → ℕ → ℕ → LineNode
line_node parts parameters machine line number =
    let home = home_node parts line in
    let node = node_at machine number in
    record {
      copy = option_map (λ (copy : Copy). (copy.mode, copy.body)) (copy_at parameters.sets node.cache line);
      transaction = option_map (λ (transaction : Transaction). transaction.mode) (value_at node.transactions line);
      up = ups line (sent_by number (packets_at parts machine line)) ++ ups line (link_at parts machine number home);
      down = downs line (link_at parts machine home number);
    }

-- the part of a machine's state that is one line's: a number that no node has has nothing of it
abbrev pub line_of : Parts → Parameters → MachineState → ℕ → LineState
line_of parts parameters machine line = record {
  home = full_map_of (entry_of parts machine line);
  node = λ number. cond (nat_lt number (node_count parts)) (line_node parts parameters machine line number) absent;
}

-- ---- carriers

-- the value in a Read-Write copy
abbrev pub copy_carried : Option (Mode × Line) → List Line
copy_carried copy = map (λ (owned : Mode × Line). owned.1) (option_to_list (kept_if (λ (held : Mode × Line). grants held.0 Write) copy))

-- the value in a REPM or UPDATE
abbrev pub up_carried : ToMemory → List Line
up_carried (REPM body) = body ∷ []
up_carried (UPDATE body) = body ∷ []
up_carried _ = []

-- the value in a WDATA
abbrev pub down_carried : ToCache → List Line
down_carried (WDATA body) = body ∷ []
down_carried _ = []

-- the carriers at a node, each as the value that it carries: a Read-Write copy, a WDATA on the way to it, a REPM or UPDATE from it
abbrev pub carried : LineNode → List Line
carried node = copy_carried node.copy ++ (flat_map down_carried node.down ++ flat_map up_carried node.up)

-- the values of all carriers of a line, at nodes below a number
abbrev pub carriers : ℕ → LineState → List Line
carriers count s = flat_map (λ number. carried (s.node number)) (range_with_len 0 count)

-- the one carrier's value, or else the home's
abbrev pub value_by : List Line → Line → Line
value_by (body ∷ []) home = body
value_by _ home = home

-- the current value of a line: its carrier's where there is exactly one, and else the home's
abbrev pub line_value : ℕ → LineState → Line
line_value count s = value_by (carriers count s) s.home.body

abbrev pub current_value : Parts → Parameters → MachineState → ℕ → Line
current_value parts parameters machine line = line_value (node_count parts) (line_of parts parameters machine line)
