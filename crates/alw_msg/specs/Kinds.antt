-- Which way a kind of message goes, whether it carries the line, and kinds by number.
use Rattle.std.specs.Prelude.{ℕ, Bool, true, false}
use Rattle.alw_msg.specs.declared.messages.Kind.{Kind}
use Rattle.alw_msg.specs.declared.messages.Kind.TheVariants.{RREQ, WREQ, REPM, UPDATE, ACKC, RDATA, WDATA, INV, BUSY}

-- a message of this kind goes to memory, and not to a cache
abbrev pub to_memory : Kind → Bool
to_memory RREQ = true
to_memory WREQ = true
to_memory REPM = true
to_memory UPDATE = true
to_memory ACKC = true
to_memory RDATA = false
to_memory WDATA = false
to_memory INV = false
to_memory BUSY = false

-- a message of this kind carries the line
abbrev pub has_body : Kind → Bool
has_body RREQ = false
has_body WREQ = false
has_body REPM = true
has_body UPDATE = true
has_body ACKC = false
has_body RDATA = true
has_body WDATA = true
has_body INV = false
has_body BUSY = false

-- kinds by number
abbrev pub kind_number : Kind → ℕ
kind_number RREQ = 0
kind_number WREQ = 1
kind_number REPM = 2
kind_number UPDATE = 3
kind_number ACKC = 4
kind_number RDATA = 5
kind_number WDATA = 6
kind_number INV = 7
kind_number BUSY = 8
