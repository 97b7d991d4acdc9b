-- What is seen of a link and of its two passes.
use Rattle.std.specs.Prelude.{List, []}
use Rattle.atomic_table.specs.Seated.{TableId}
use Rattle.alw_msg.specs.declared.messages.Msg.{Msg}

-- which link it is: no other one has its name
abbrev pub LinkName : Type 0
LinkName = TableId

-- a sender's pass: its link, and the messages pushed, in order
pub record Sender : Type 0 where
  pub link : LinkName
  pub pushed : List Msg

-- a receiver's pass: its link, and the messages popped, in order
pub record Receiver : Type 0 where
  pub link : LinkName
  pub popped : List Msg

-- the passes of a new link
abbrev pub sender_at_start : LinkName → Sender
sender_at_start link = record { link = link; pushed = [] }

abbrev pub receiver_at_start : LinkName → Receiver
receiver_at_start link = record { link = link; popped = [] }
