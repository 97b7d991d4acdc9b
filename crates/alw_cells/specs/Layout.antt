-- A log as bytes: a record of each event, field by field. Numbers are big-endian.
use Rattle.std.specs.Prelude.{ℕ, Option, Some, None, cond, List, [], ◌∷◌, ◌++◌, length, flat_map}
use Rattle.byteorder.specs.Endian.{big_bytes}
use Rattle.alw_num.specs.declared.addresses.Line.{Line}
use Rattle.alw_msg.specs.declared.messages.Kind.{Kind}
use Rattle.alw_msg.specs.declared.messages.Msg.{Msg}
use Rattle.alw_msg.specs.declared.events.Event.{Event}
use Rattle.alw_msg.specs.declared.events.Event.TheVariants.{Instr, Deliver, Handle, Evict}
use Rattle.alw_msg.specs.declared.events.Entry.{Entry}
use Rattle.alw_msg.specs.Kinds.{has_body, kind_number}
use Rattle.alw_model.specs.Threads.{Logged}

-- a number in four bytes, and in two
unfoldable pub word : ℕ → List ℕ
word n = big_bytes 4 n

unfoldable pub half : ℕ → List ℕ
half n = big_bytes 2 n

-- which event it is
abbrev pub tag_of : Event → ℕ
tag_of (Instr node) = 0
tag_of (Deliver from to) = 1
tag_of (Handle node) = 2
tag_of (Evict node set) = 3

-- the sender of a delivery, the set of an eviction, and else 0
abbrev pub argument_of : Event → ℕ
argument_of (Instr node) = 0
argument_of (Deliver from to) = from.0
argument_of (Handle node) = 0
argument_of (Evict node set) = set

-- the line that a kind of message carries, where it carries one
unfoldable pub body_bytes : Kind → Line → List ℕ
body_bytes kind body = cond (has_body kind) (word body.a ++ (word body.b ++ (word body.c ++ word body.d))) []

-- the message that an event took, where it took one
unfoldable pub taken_bytes : Option Msg → List ℕ
taken_bytes None = []
taken_bytes (Some msg) = kind_number msg.kind ∷ (word msg.line.0 ++ (half msg.src.0 ++ (word msg.stamp ++ body_bytes msg.kind msg.body)))

-- a message that it sent, with its receiver: the sender and the stamp are the record's
unfoldable pub sent_bytes : ℕ × Msg → List ℕ
sent_bytes send = half send.0 ++ (kind_number send.1.kind ∷ (word send.1.line.0 ++ body_bytes send.1.kind send.1.body))

-- an event with its stamp
unfoldable pub front_bytes : Entry → List ℕ
front_bytes entry = word entry.stamp ++ (tag_of entry.event ∷ word (argument_of entry.event))

-- how many messages it sent, and each of them
unfoldable pub back_bytes : List (ℕ × Msg) → List ℕ
back_bytes sent = half (length sent) ++ flat_map sent_bytes sent

-- the record of an event, and a log
unfoldable pub record_bytes : Logged → List ℕ
record_bytes logged = front_bytes logged.entry ++ (taken_bytes logged.taken ++ back_bytes logged.sent)

unfoldable pub log_bytes : List Logged → List ℕ
log_bytes log = flat_map record_bytes log
