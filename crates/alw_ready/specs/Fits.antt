-- Rows that fit a machine: they say which of its main events are enabled within the limit.
use Rattle.std.specs.Prelude.{◌≡◌, ℕ, ◌-◌, ◌^◌, ◌<◌, Bool, true, false, ◌&&◌, ◌||◌, nat_lt, Some, List, length, IsTrue}
use Rattle.alw_num.specs.NodeSets.{has_node, nodes_of}
use Rattle.alw_msg.specs.declared.events.Event.{Event}
use Rattle.alw_msg.specs.declared.messages.Msg.{Msg}
use Rattle.alw_msg.specs.Lists.{front}
use Rattle.alw_image.specs.declared.parts.Parts.{Parts}
use Rattle.alw_image.specs.Images.{node_count}
use Rattle.alw_image.specs.Parameters.{Parameters}
use Rattle.alw_model.specs.Messages.{is_fit}
use Rattle.alw_model.specs.Machine.{MachineState, node_at, link_at, is_enabled, is_within_limit, has_halted}
use Rattle.alw_ready.specs.declared.rows.Row.{Row}
use Rattle.alw_ready.specs.Rows.{instr_at, handle_at, delivery, row_at}

-- an event may happen: it is enabled, and within the limit
abbrev pub may_happen : Parts → Parameters → MachineState → Event → Bool
may_happen parts parameters machine event = is_enabled parts parameters machine event && is_within_limit parts parameters machine event

-- a node is in time: its clock isn't the greatest, and is below the limit, unless every context has halted
abbrev pub is_in_time : Parameters → MachineState → ℕ → Bool
is_in_time parameters machine at = nat_lt (node_at machine at).clock (2 ^ 32 - 1) && (nat_lt (node_at machine at).clock parameters.limit || has_halted machine)

-- the message at the head of every link is fit for its link
abbrev pub HeadsAreFit : Parts → MachineState → Type 0
HeadsAreFit parts machine =
    (from to : ℕ) → from < node_count parts → to < node_count parts → (msg : Msg) → front (link_at parts machine from to) ≡ Some msg → IsTrue (is_fit parts from to msg)

-- a row says which main events of a node pass a test, deliveries from some senders aside
pub record SaysBut (test : Event → Bool) (at : ℕ) (aside : ℕ → Bool) (row : Row) : Type 0 where
  pub instr : row.instr ≡ test (instr_at at)
  pub handle : row.handle ≡ test (handle_at at)
  pub senders : (from : ℕ) → aside from ≡ false → has_node (nodes_of row.senders) from ≡ test (delivery from at)

-- a row says whether its node is in time, and where it is, which of its main events may happen, deliveries from some senders aside
pub record RowFitsBut (parts : Parts) (parameters : Parameters) (machine : MachineState) (at : ℕ) (aside : ℕ → Bool) (row : Row) : Type 0 where
  pub in_time : row.in_time ≡ is_in_time parameters machine at
  pub events : row.in_time ≡ true → SaysBut (may_happen parts parameters machine) at aside row

-- no sender
abbrev pub nobody : ℕ → Bool
nobody from = false

-- a row fits its node
abbrev pub RowFits : Parts → Parameters → MachineState → ℕ → Row → Type 0
RowFits parts parameters machine at row = RowFitsBut parts parameters machine at nobody row

-- there is a row for each node, and it fits
pub record RowsFit (parts : Parts) (parameters : Parameters) (machine : MachineState) (rows : List Row) : Type 0 where
  pub counted : length rows ≡ node_count parts
  pub each : (at : ℕ) → at < node_count parts → RowFits parts parameters machine at (row_at rows at)
