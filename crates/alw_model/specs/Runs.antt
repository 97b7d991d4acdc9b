-- What is read off a journal: turns and prints, the messages that a line's home acted on, the full map that they leave, and the counts of the report.
use Rattle.std.specs.Prelude.{ℕ, ◌+◌, ◌*◌, cond, ◌==◌, Option, List, [], ◌∷◌, map, flat_map, option_to_list, take}
use Rattle.std.specs.List.{range_with_len}
use Rattle.sparc_table.specs.declared.outcomes.Outcome.{Outcome}
use Rattle.alw_msg.specs.declared.messages.Msg.{Msg}
use Rattle.alw_msg.specs.declared.events.Entry.{Entry}
use Rattle.alw_msg.specs.declared.contexts.Status.{Status}
use Rattle.alw_msg.specs.declared.contexts.Status.TheVariants.{Ready, Waiting}
use Rattle.alw_msg.specs.Contents.{ToMemory, content, request_in}
use Rattle.alw_msg.specs.Events.{node_of}
use Rattle.alw_image.specs.declared.parts.Parts.{Parts}
use Rattle.alw_image.specs.Images.{body_of, line_count}
use Rattle.alw_image.specs.Parameters.{Parameters}
use Rattle.alw_model.specs.declared.steps.Did.{Did}
use Rattle.alw_model.specs.declared.steps.Did.TheVariants.{Turn, Took, Handled}
use Rattle.alw_model.specs.FullMap.{Home, home_start, act}
use Rattle.alw_model.specs.Contexts.{Slot}
use Rattle.alw_model.specs.NodeStates.{NodeState}
use Rattle.alw_model.specs.NodeSteps.{Stepped}
use Rattle.alw_model.specs.Machine.{MachineState, machine_start, node_at, taken_by, stepped_by, after_step}
use Rattle.alw_model.specs.Flat.{Context, Flat, print_of}
use Rattle.alw_model.specs.Lines.{current_value}

-- one entry of a run: its node before it, the message that it took, and what it did
pub record Moment : Type 0 where
  pub entry : Entry
  pub before : NodeState
  pub taken : Option Msg
  pub stepped : Stepped

abbrev pub moment_of : Parts → Parameters → MachineState → Entry → Moment
moment_of parts parameters machine entry = record { entry = entry; before = node_at machine (node_of entry.event); taken = taken_by parts machine entry.event; stepped = stepped_by parts parameters machine entry.event }

-- the number of the node that it is of
abbrev pub number_of : Moment → ℕ
number_of moment = node_of moment.entry.event

-- the events of a run from a state on
abbrev pub moments_from : Parts → Parameters → MachineState → List Entry → List Moment
moments_from parts parameters machine [] = []
moments_from parts parameters machine (entry ∷ rest) =
    let moment = moment_of parts parameters machine entry in
    moment ∷ moments_from parts parameters (after_step parts machine entry.event moment.stepped) rest

-- the events of a journal
unfoldable pub moments : Parts → Parameters → List Entry → List Moment
moments parts parameters journal = moments_from parts parameters (machine_start parts) journal

-- ---- turns and prints

-- the turn that an event of a node was, as its context and its outcome
abbrev pub turn_in : Parts → ℕ → Did → List (ℕ × Outcome)
turn_in parts number (Turn slot outcome) = (number * parts.contexts + slot, outcome) ∷ []
turn_in parts number _ = []

-- the turns of a journal, in order
abbrev pub turns_in : Parts → Parameters → List Entry → List (ℕ × Outcome)
turns_in parts parameters journal = flat_map (λ moment. turn_in parts (number_of moment) moment.stepped.did) (moments parts parameters journal)

-- the contexts that took them
abbrev pub turns_of : Parts → Parameters → List Entry → List ℕ
turns_of parts parameters journal = map (λ turn. turn.0) (turns_in parts parameters journal)

-- the words that they printed, each with its context
abbrev pub prints_of : Parts → Parameters → List Entry → List (ℕ × ℕ)
prints_of parts parameters journal = flat_map (λ turn. print_of turn.0 turn.1) (turns_in parts parameters journal)

-- ---- acted messages

-- what a message of the line says to memory, with its sender
abbrev pub acted_message : ℕ → Msg → List (ℕ × ToMemory)
acted_message line msg = map (λ said. (msg.src.0, said)) (cond (msg.line.0 == line) (request_in (content msg)) [])

-- what an event acted on: the message that it took without a trap, or the packet that it handled
abbrev pub acted_by : ℕ → Moment → Did → List (ℕ × ToMemory)
acted_by line moment Took = flat_map (acted_message line) (option_to_list moment.taken)
acted_by line moment (Handled kind state) = flat_map (acted_message line) (take 1 moment.before.packets)
acted_by line moment _ = []

-- the messages to memory of a line that a journal delivers without a trap or handles, in order, each with its sender
abbrev pub acted_messages : Parts → Parameters → List Entry → ℕ → List (ℕ × ToMemory)
acted_messages parts parameters journal line = flat_map (λ moment. acted_by line moment moment.stepped.did) (moments parts parameters journal)

-- the full-map entry of a line after these messages
abbrev pub acted_on : Home → List (ℕ × ToMemory) → Home
acted_on home [] = home
acted_on home (message ∷ rest) = acted_on (act home message.0 message.1).0 rest

-- the full map after a journal
abbrev pub full_map_after : Parts → Parameters → List Entry → ℕ → Home
full_map_after parts parameters journal line = acted_on (home_start (body_of parts line)) (acted_messages parts parameters journal line)

-- ---- as the flat machine sees it

-- a slot as a context of the flat machine: one that waits counts as Ready
abbrev pub flat_status : Status → Status
flat_status (Waiting line) = Ready
flat_status status = status

abbrev pub flat_context : Slot → Context
flat_context slot = record { regs = slot.regs; status = flat_status slot.status }

-- the machine as the flat machine sees it: the current value of each line, and each context
abbrev pub flat_view : Parts → Parameters → MachineState → Flat
flat_view parts parameters machine = record {
  memory = map (current_value parts parameters machine) (range_with_len 0 (line_count parts));
  contexts = flat_map (λ node. map flat_context node.slots) machine.nodes;
}
