-- When a view shows exactly what a machine has of a line.
use Rattle.std.specs.Prelude.{◌≡◌, ℕ, ◌==◌, List, map, filter, flat_map, option_map, option_to_list}
use Rattle.std.specs.List.{range_with_len}
use Rattle.alw_num.specs.Maps.{value_at}
use Rattle.alw_msg.specs.declared.messages.Msg.{Msg}
use Rattle.alw_msg.specs.Lists.{front}
use Rattle.alw_image.specs.declared.parts.Parts.{Parts}
use Rattle.alw_image.specs.Images.{node_count}
use Rattle.alw_image.specs.Parameters.{Parameters}
use Rattle.alw_model.specs.Caches.{Copy, Transaction, copy_at}
use Rattle.alw_model.specs.Messages.{home_node}
use Rattle.alw_model.specs.Machine.{MachineState, node_at, link_at}
use Rattle.alw_model.specs.Lines.{entry_of, packets_at}
use Rattle.alw_memory.specs.Views.{IsViewOf}
use Rattle.alw_laws.specs.declared.views.LineView.{LineView}
use Rattle.alw_laws.specs.Views.{Held, Opened, Sent}

-- a copy, a transaction and a message as they are shown
abbrev pub copy_shown : ℕ → Copy → Held
copy_shown number copy = (record { 0 = number }, copy.mode, copy.body)

abbrev pub transaction_shown : ℕ → Transaction → Opened
transaction_shown number transaction = (record { 0 = number }, transaction.mode)

abbrev pub message_shown : ℕ → ℕ → Msg → Sent
message_shown from to msg = (record { 0 = from }, record { 0 = to }, msg)

-- the messages about a line, in order
abbrev pub of_line : ℕ → List Msg → List Msg
of_line line msgs = filter (λ (msg : Msg). msg.line.0 == line) msgs

-- each node's own, by ascending node
abbrev pub by_node : {X : Type 0} → Parts → (ℕ → List X) → List X
by_node parts own = flat_map own (range_with_len 0 (node_count parts))

-- what a node has of a line, shown: its copy, and its transaction; and what stands on the link of two nodes
abbrev pub copies_of : Parameters → MachineState → ℕ → ℕ → List Held
copies_of parameters machine line n = option_to_list (option_map (copy_shown n) (copy_at parameters.sets (node_at machine n).cache line))

abbrev pub transactions_of : MachineState → ℕ → ℕ → List Opened
transactions_of machine line n = option_to_list (option_map (transaction_shown n) (value_at (node_at machine n).transactions line))

abbrev pub link_of : Parts → MachineState → ℕ → ℕ → ℕ → List Sent
link_of parts machine line from to = map (message_shown from to) (of_line line (link_at parts machine from to))

-- the line, its home, its entry, every copy and every transaction by ascending node, every message by its link's nodes and in link order, and the packet
pub record Shows (parts : Parts) (parameters : Parameters) (machine : MachineState) (line : ℕ) (view : LineView) : Type 0 where
  pub line_is : view.line.0 ≡ line
  pub home_is : view.at.0 ≡ home_node parts line
  pub entry : IsViewOf view.home (entry_of parts machine line)
  pub copies : view.copies ≡ by_node parts (copies_of parameters machine line)
  pub transactions : view.transactions ≡ by_node parts (transactions_of machine line)
  pub links : view.links ≡ by_node parts (λ from. by_node parts (link_of parts machine line from))
  pub packet : view.packet ≡ front (of_line line (packets_at parts machine line))
