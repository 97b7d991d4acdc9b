-- One event of a node's memory side: a message to memory, or an action of the trap handler.
use Rattle.std.specs.Prelude.{◌≡◌, ℕ, ◌%◌, Bool, true, false, List, [], ◌∷◌, ◌++◌, slice_set}
use Rattle.alw_msg.specs.declared.messages.Msg.{Msg}
use Rattle.alw_msg.specs.Contents.{ToMemory, Content, ForMemory, ForCache, content}
use Rattle.alw_msg.specs.Sending.{Sending, with_messages}
use Rattle.alw_model.specs.declared.steps.Did.{Did}
use Rattle.alw_model.specs.declared.steps.Did.TheVariants.{Took, Packet, Handled}
use Rattle.alw_model.specs.LimitLess.{Directory, is_trapped, hardware_act, trapped, handle}
use Rattle.alw_model.specs.Messages.{to_caches}
use Rattle.alw_model.specs.Sides.{Memory, entry_at}

-- what an event changes of a memory side, the messages sent, each with its destination, and what the event did
pub record MemoryStep : Type 0 where
  pub homes : List Directory
  pub packets : List Msg
  pub sends : List (ℕ × Msg)
  pub did : Did

-- the memory side after a step
abbrev pub memory_after : Memory → MemoryStep → Memory
memory_after m step = record m { homes = step.homes; packets = step.packets }

-- what an event has left of a memory side and of the list of its sends, and what it did, are this step's
pub record IsMemoryStep (before after : Memory) (sent sent' : Sending) (did : Did) (step : MemoryStep) : Type 0 where
  pub side : after ≡ memory_after before step
  pub sends : sent' ≡ with_messages sent step.sends
  pub outcome : did ≡ step.did

-- nothing happens
abbrev pub idle : Memory → MemoryStep
idle m = record { homes = m.homes; packets = m.packets; sends = []; did = Took }

-- the entry of a home line
abbrev pub home_at : Memory → ℕ → Directory
home_at m line = entry_at m.homes (line % m.per_node)

-- the entries with another one of a home line
abbrev pub with_entry : Memory → ℕ → Directory → List Directory
with_entry m line entry = slice_set m.homes (line % m.per_node) entry

-- a message to memory traps, which appends it to the packet queue, or hardware acts on it
abbrev pub at_home : ℕ → Memory → Msg → ToMemory → Bool → MemoryStep
at_home stamp m msg said true =
    record { homes = with_entry m msg.line.0 (trapped (home_at m msg.line.0)); packets = m.packets ++ msg ∷ []; sends = []; did = Packet }
at_home stamp m msg said false =
    let after = hardware_act (home_at m msg.line.0) msg.src.0 said in
    record { homes = with_entry m msg.line.0 after.0; packets = m.packets; sends = to_caches m.number stamp msg.line.0 after.1; did = Took }

-- a message, by what it says: one to a cache isn't this side's
abbrev pub takes : ℕ → Memory → Msg → Content → MemoryStep
takes stamp m msg (ForMemory said) = at_home stamp m msg said (is_trapped m.pointers (home_at m msg.line.0) msg.src.0 said)
takes stamp m msg (ForCache said) = idle m

-- the handler acts on a packet, which has left the queue, by what it says
abbrev pub handle_by : ℕ → Memory → Msg → Content → MemoryStep
handle_by stamp m packet (ForCache said) = idle m
handle_by stamp m packet (ForMemory said) =
    let entry = home_at m packet.line.0 in
    let after = handle entry packet.src.0 said in
    record {
      homes = with_entry m packet.line.0 after.0;
      packets = m.packets;
      sends = to_caches m.number stamp packet.line.0 after.1;
      did = Handled packet.kind entry.state;
    }

-- the handler takes the front packet
abbrev pub handle_front : ℕ → Memory → List Msg → MemoryStep
handle_front stamp m [] = idle m
handle_front stamp m (packet ∷ rest) = handle_by stamp (record m { packets = rest }) packet (content packet)
