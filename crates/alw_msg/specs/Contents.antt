-- What the messages say, to memory and to a cache (Chaiken, Kubiatowicz and Agarwal, ASPLOS 1991, the table of protocol messages).
use Rattle.std.specs.Prelude.{Bool, true, false, ◌||◌, List, [], ◌∷◌}
use Rattle.alw_num.specs.declared.addresses.Line.{Line}
use Rattle.alw_msg.specs.declared.messages.Kind.{Kind}
use Rattle.alw_msg.specs.declared.messages.Kind.TheVariants as kinds
use Rattle.alw_msg.specs.declared.messages.Msg.{Msg}

-- a message to memory, about a line: a request to read or to write, a Read-Write copy given back by itself or in answer to an INV, or the answer to an INV where there was none
pub data ToMemory : Type 0 where
  RREQ : ToMemory
  WREQ : ToMemory
  REPM : Line → ToMemory
  UPDATE : Line → ToMemory
  ACKC : ToMemory

-- a message to a cache, about a line: the line to read or to write, an invalidation, or a request refused
pub data ToCache : Type 0 where
  RDATA : Line → ToCache
  WDATA : Line → ToCache
  INV : ToCache
  BUSY : ToCache

-- what a message says: one to memory, or one to a cache
pub data Content : Type 0 where
  ForMemory : ToMemory → Content
  ForCache : ToCache → Content

-- what a message of a kind says, given the bytes that it carries
abbrev pub content_by : Kind → Line → Content
content_by kinds.RREQ body = ForMemory RREQ
content_by kinds.WREQ body = ForMemory WREQ
content_by kinds.REPM body = ForMemory (REPM body)
content_by kinds.UPDATE body = ForMemory (UPDATE body)
content_by kinds.ACKC body = ForMemory ACKC
content_by kinds.RDATA body = ForCache (RDATA body)
content_by kinds.WDATA body = ForCache (WDATA body)
content_by kinds.INV body = ForCache INV
content_by kinds.BUSY body = ForCache BUSY

-- what a message says
abbrev pub content : Msg → Content
content msg = content_by msg.kind msg.body

-- a message to memory
abbrev pub is_to_memory : Content → Bool
is_to_memory (ForMemory said) = true
is_to_memory (ForCache said) = false

-- what a message says to memory
abbrev pub request_in : Content → List ToMemory
request_in (ForMemory said) = said ∷ []
request_in (ForCache said) = []

-- what a message says to a cache
abbrev pub reply_in : Content → List ToCache
reply_in (ForMemory said) = []
reply_in (ForCache said) = said ∷ []

-- which message to memory it is
abbrev pub is_rreq : ToMemory → Bool
is_rreq RREQ = true
is_rreq _ = false

abbrev pub is_wreq : ToMemory → Bool
is_wreq WREQ = true
is_wreq _ = false

abbrev pub is_repm : ToMemory → Bool
is_repm (REPM body) = true
is_repm _ = false

abbrev pub is_update : ToMemory → Bool
is_update (UPDATE body) = true
is_update _ = false

abbrev pub is_ackc : ToMemory → Bool
is_ackc ACKC = true
is_ackc _ = false

-- which message to a cache it is
abbrev pub is_rdata : ToCache → Bool
is_rdata (RDATA body) = true
is_rdata _ = false

abbrev pub is_wdata : ToCache → Bool
is_wdata (WDATA body) = true
is_wdata _ = false

abbrev pub is_inv : ToCache → Bool
is_inv INV = true
is_inv _ = false

abbrev pub is_busy : ToCache → Bool
is_busy BUSY = true
is_busy _ = false

-- the message ends a transaction on its line, where there is one
abbrev pub is_reply : ToCache → Bool
is_reply INV = false
is_reply _ = true

-- the message brings its line: it is an RDATA or a WDATA
abbrev pub brings_line : ToCache → Bool
brings_line (RDATA body) = true
brings_line (WDATA body) = true
brings_line _ = false

-- the message is a request or an ACKC
abbrev pub is_request_or_ackc : ToMemory → Bool
is_request_or_ackc message = is_rreq message || (is_wreq message || is_ackc message)
