-- What one event sends: messages of one node with one stamp, each with the node that it goes to, in order.
use Rattle.std.specs.Prelude.{ℕ, cond, List, [], ◌∷◌, ◌++◌}
use Rattle.alw_num.specs.declared.addresses.Line.{Line}
use Rattle.alw_num.specs.declared.addresses.LineNo.{LineNo}
use Rattle.alw_msg.specs.declared.messages.Kind.{Kind}
use Rattle.alw_msg.specs.declared.messages.Msg.{Msg}
use Rattle.alw_msg.specs.Kinds.{has_body}

-- the number of messages that there is room for, the node and the stamp of the event, and the messages so far
pub record Sending : Type 0 where
  pub room : ℕ
  pub src : ℕ
  pub stamp : ℕ
  pub messages : List (ℕ × Msg)

-- the list of sends with these messages
abbrev pub with_messages : Sending → List (ℕ × Msg) → Sending
with_messages sending messages = record sending { messages = messages }

-- the bytes that a message of a kind carries: zero where it carries none
abbrev pub carried_body : Kind → Line → Line
carried_body kind body = cond (has_body kind) body (record { a = 0; b = 0; c = 0; d = 0 })

-- the message of the event's node, with the event's stamp
abbrev pub event_message : Sending → Kind → LineNo → Line → Msg
event_message sending kind line body = record { kind = kind; line = line; src = record { 0 = sending.src }; stamp = sending.stamp; body = carried_body kind body }

-- one message more, to a node
abbrev pub with_message : Sending → ℕ → Kind → LineNo → Line → Sending
with_message sending to kind line body = record sending { messages = sending.messages ++ (to, event_message sending kind line body) ∷ [] }
