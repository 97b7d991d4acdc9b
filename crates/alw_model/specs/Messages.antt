-- Messages on links: what each kind carries, how the sender writes one, and which are fit for their link (Chaiken, Kubiatowicz and Agarwal, ASPLOS 1991, the table of protocol messages).
use Rattle.std.specs.Prelude.{ℕ, ◌-◌, ◌/◌, ◌^◌, Bool, ◌&&◌, ◌==◌, nat_lt, List, map}
use Rattle.alw_num.specs.declared.addresses.Line.{Line}
use Rattle.alw_msg.specs.declared.messages.Kind.{Kind}
use Rattle.alw_msg.specs.declared.messages.Kind.TheVariants as kinds
use Rattle.alw_msg.specs.declared.messages.Msg.{Msg}
use Rattle.alw_msg.specs.Contents.{ToMemory, RREQ, WREQ, REPM, UPDATE, ACKC, ToCache, RDATA, WDATA, INV, BUSY, Content, ForMemory, ForCache, content}
use Rattle.alw_image.specs.declared.parts.Parts.{Parts}
use Rattle.alw_image.specs.Images.{line_count, zero_line}
use Rattle.alw_model.specs.FullMap.{Sends}
use Rattle.alw_model.specs.Caches.{Requests}

-- the kind of what is said, and the bytes that it carries: zero where it carries none
abbrev pub spelled : Content → Kind × Line
spelled (ForMemory RREQ) = (kinds.RREQ, zero_line)
spelled (ForMemory WREQ) = (kinds.WREQ, zero_line)
spelled (ForMemory (REPM body)) = (kinds.REPM, body)
spelled (ForMemory (UPDATE body)) = (kinds.UPDATE, body)
spelled (ForMemory ACKC) = (kinds.ACKC, zero_line)
spelled (ForCache (RDATA body)) = (kinds.RDATA, body)
spelled (ForCache (WDATA body)) = (kinds.WDATA, body)
spelled (ForCache INV) = (kinds.INV, zero_line)
spelled (ForCache BUSY) = (kinds.BUSY, zero_line)

-- the message of a node about a line, with the stamp of the event that sends it
abbrev pub message : ℕ → ℕ → ℕ → Content → Msg
message node stamp line said =
    let spelling = spelled said in
    record { kind = spelling.0; line = record { 0 = line }; src = record { 0 = node }; stamp = stamp; body = spelling.1 }

-- the node that keeps a line in its memory
abbrev pub home_node : Parts → ℕ → ℕ
home_node parts line = line / parts.per_node

-- requests go to the homes of their lines, where each node keeps so many lines
abbrev pub homeward : ℕ → ℕ → ℕ → Requests → List (ℕ × Msg)
homeward per_node node stamp requests = map (λ (request : ℕ × ToMemory). (request.0 / per_node, message node stamp request.0 (ForMemory request.1))) requests

abbrev pub to_homes : Parts → ℕ → ℕ → Requests → List (ℕ × Msg)
to_homes parts node stamp requests = homeward parts.per_node node stamp requests

-- what a home sends about a line
abbrev pub to_caches : ℕ → ℕ → ℕ → Sends → List (ℕ × Msg)
to_caches node stamp line sends = map (λ (send : ℕ × ToCache). (send.0, message node stamp line (ForCache send.1))) sends

-- on the link of two nodes, the line's home receives what goes to memory and sends what goes to a cache
abbrev pub is_at_home : Content → ℕ → ℕ → ℕ → Bool
is_at_home (ForMemory said) home from to = home == to
is_at_home (ForCache said) home from to = home == from

-- fit for the link of two nodes: sent by the first, about a line that exists, with a stamp below the greatest, to or from that line's home
abbrev pub is_fit : Parts → ℕ → ℕ → Msg → Bool
is_fit parts from to msg =
    msg.src.0 == from && (nat_lt msg.line.0 (line_count parts) && (nat_lt msg.stamp (2 ^ 32 - 1) && is_at_home (content msg) (home_node parts msg.line.0) from to))
