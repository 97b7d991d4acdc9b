-- Where the value of a line may be besides its home: in a Read-Write copy, on the way, or in a packet.
use Rattle.std.specs.Prelude.{◌≡◌, ℕ, ◌+◌, ◌<◌, ◌≤◌, ◌⊎◌, cond, ◌==◌, List, [], ◌∷◌, ◌++◌, flat_map, option_map}
use Rattle.alw_num.specs.declared.addresses.Line.{Line}
use Rattle.alw_num.specs.NodeSets.{members}
use Rattle.alw_msg.specs.declared.messages.Msg.{Msg}
use Rattle.alw_msg.specs.Contents.{content, request_in, reply_in}
use Rattle.alw_image.specs.declared.parts.Parts.{Parts}
use Rattle.alw_image.specs.Parameters.{Parameters}
use Rattle.alw_model.specs.Caches.{Copy, copy_at}
use Rattle.alw_model.specs.NodeStates.{NodeState}
use Rattle.alw_model.specs.Machine.{MachineState, node_at, link_at}
use Rattle.alw_model.specs.Lines.{LineState, ups, downs, up_carried, down_carried, copy_carried, carried}

-- the bytes of a line that a message brings home, or to be written
abbrev pub brought_home : ℕ → Msg → List Line
brought_home line msg = flat_map up_carried (cond (msg.line.0 == line) (request_in (content msg)) [])

abbrev pub brought_out : ℕ → Msg → List Line
brought_out line msg = flat_map down_carried (cond (msg.line.0 == line) (reply_in (content msg)) [])

-- the same of several messages
abbrev pub all_brought_home : ℕ → List Msg → List Line
all_brought_home line msgs = flat_map up_carried (ups line msgs)

abbrev pub all_brought_out : ℕ → List Msg → List Line
all_brought_out line msgs = flat_map down_carried (downs line msgs)

-- the bytes of a node's Read-Write copy of a line
abbrev pub owned_by : ℕ → NodeState → ℕ → List Line
owned_by sets node line = copy_carried (option_map (λ (copy : Copy). (copy.mode, copy.body)) (copy_at sets node.cache line))

-- what a node carries of a line, the home's packets aside
abbrev pub shown_at : Parts → Parameters → MachineState → ℕ → ℕ → ℕ → List Line
shown_at parts parameters machine n home line =
    owned_by parameters.sets (node_at machine n) line ++ (all_brought_out line (link_at parts machine home n) ++ all_brought_home line (link_at parts machine n home))

-- of the nodes below a number, those from one number to before another alone may carry the line
abbrev pub OnlyBetween : ℕ → LineState → ℕ → ℕ → Type 0
OnlyBetween count s first end = (i : ℕ) → i < count → (i < first) ⊎ (end ≤ i) → carried (s.node i) ≡ []

-- the first node that the home points to alone may carry the line
abbrev pub FirstAlone : ℕ → LineState → Type 0
FirstAlone count s = (owner : ℕ) → (others : List ℕ) → members s.home.pointers ≡ owner ∷ others → OnlyBetween count s owner (owner + 1)
