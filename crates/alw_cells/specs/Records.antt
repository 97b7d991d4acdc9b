-- A log read off its bytes, and what makes them readable: a record's event is of the log's node, and so are the messages sent, with the event's stamp.
use Rattle.std.specs.Prelude.{◌≡◌, ℕ, zero, suc, ◌+◌, ◌*◌, ◌≤◌, ◌<◌, ◌^◌, ◌==◌, min, Bool, true, false, Option, Some, None, List, [], ◌∷◌, length, drop, slice_index, cond}
use Rattle.std.specs.Prelude.{IsTrue, IfSome}
use Rattle.std.specs.List.{AllByRecursion}
use Rattle.byteorder.specs.Endian.{big_number}
use Rattle.alw_num.specs.declared.addresses.Line.{Line}
use Rattle.alw_msg.specs.declared.messages.Kind.{Kind}
use Rattle.alw_msg.specs.declared.messages.Kind.TheVariants as kinds
use Rattle.alw_msg.specs.declared.messages.Msg.{Msg}
use Rattle.alw_msg.specs.declared.events.Event.{Event}
use Rattle.alw_msg.specs.declared.events.Event.TheVariants.{Instr, Deliver, Handle, Evict}
use Rattle.alw_msg.specs.Events.{node_of}
use Rattle.alw_msg.specs.Kinds.{has_body}
use Rattle.alw_msg.specs.Sending.{carried_body}
use Rattle.alw_model.specs.Threads.{Logged, takes_rightly}
use Rattle.alw_msg.specs.declared.events.Entry.{Entry}
use Rattle.alw_cells.specs.Layout.{log_bytes}
use Rattle.alw_cells.specs.Logs.{Reading}

-- ---- what a record can hold

-- a message has no bytes that its kind doesn't carry
abbrev pub BodyIsPlain : Msg → Type 0
BodyIsPlain msg = carried_body msg.kind msg.body ≡ msg.body

-- a message that an event sent is its node's, with its stamp
pub record SendIsOfEvent (number stamp : ℕ) (msg : Msg) : Type 0 where
  pub src : msg.src.0 ≡ number
  pub at : msg.stamp ≡ stamp
  pub plain : BodyIsPlain msg

abbrev pub BodiesArePlain : List Msg → Type 0
BodiesArePlain messages = AllByRecursion BodyIsPlain messages

abbrev pub SendsAreOfEvent : ℕ → ℕ → List (ℕ × Msg) → Type 0
SendsAreOfEvent number stamp sent = AllByRecursion (λ (send : ℕ × Msg). SendIsOfEvent number stamp send.1) sent

-- the record of an event of the node of this number
pub record IsRecord (number : ℕ) (logged : Logged) : Type 0 where
  pub node : node_of logged.entry.event ≡ number
  pub taken : IsTrue (takes_rightly logged.entry.event logged.taken)
  pub plain : IfSome logged.taken BodyIsPlain
  pub sent : SendsAreOfEvent number logged.entry.stamp logged.sent
  pub few : length logged.sent < 2 ^ 16

-- its numbers are in the ranges of their fields
pub record FitsLine (line : Line) : Type 0 where
  pub a : line.a < 2 ^ 32
  pub b : line.b < 2 ^ 32
  pub c : line.c < 2 ^ 32
  pub d : line.d < 2 ^ 32

pub record FitsMsg (msg : Msg) : Type 0 where
  pub line : msg.line.0 < 2 ^ 32
  pub src : msg.src.0 < 2 ^ 16
  pub stamp : msg.stamp < 2 ^ 32
  pub body : FitsLine msg.body

pub record FitsSend (send : ℕ × Msg) : Type 0 where
  pub to : send.0 < 2 ^ 16
  pub msg : FitsMsg send.1

-- of a sender, a half word
abbrev pub FitsEvent : Event → Type 0
FitsEvent (Instr node) = node.0 < 2 ^ 16
FitsEvent (Deliver from to) = (from.0 < 2 ^ 16) × (to.0 < 2 ^ 16)
FitsEvent (Handle node) = node.0 < 2 ^ 16
FitsEvent (Evict node set) = (node.0 < 2 ^ 16) × (set < 2 ^ 32)

pub record FitsRecord (logged : Logged) : Type 0 where
  pub stamp : logged.entry.stamp < 2 ^ 32
  pub event : FitsEvent logged.entry.event
  pub taken : IfSome logged.taken FitsMsg
  pub sent : AllByRecursion FitsSend logged.sent

abbrev pub AreRecords : ℕ → List Logged → Type 0
AreRecords number log = AllByRecursion (λ (logged : Logged). IsRecord number logged × FitsRecord logged) log

-- stamps rise: each event has a greater one than those before it
abbrev pub StampsAreBelow : ℕ → List Logged → Type 0
StampsAreBelow stamp log = AllByRecursion (λ (logged : Logged). logged.entry.stamp < stamp) log

abbrev pub Ascends : List Logged → Type 0
Ascends [] = Unit {0}
Ascends (logged ∷ rest) = AllByRecursion (λ (later : Logged). logged.entry.stamp < later.entry.stamp) rest × Ascends rest

-- ---- fields, each at the front of some bytes

unfoldable pub word_in : List ℕ → ℕ
word_in bytes = big_number 4 bytes

unfoldable pub half_in : List ℕ → ℕ
half_in bytes = big_number 2 bytes

-- kinds and events by their numbers
unfoldable pub kind_by : ℕ → Kind
kind_by n = cond (n == 0) kinds.RREQ (cond (n == 1) kinds.WREQ (cond (n == 2) kinds.REPM (cond (n == 3) kinds.UPDATE (cond (n == 4) kinds.ACKC
    (cond (n == 5) kinds.RDATA (cond (n == 6) kinds.WDATA (cond (n == 7) kinds.INV kinds.BUSY)))))))

unfoldable pub event_by : ℕ → ℕ → ℕ → ℕ → Event
event_by number tag from set = cond (tag == 0) (Instr (record { 0 = number })) (cond (tag == 1) (Deliver (record { 0 = from }) (record { 0 = number }))
    (cond (tag == 2) (Handle (record { 0 = number })) (Evict (record { 0 = number }) set)))

-- what a kind carries, in how many bytes
unfoldable pub body_size : Kind → ℕ
body_size kind = cond (has_body kind) 16 0

unfoldable pub body_in : Kind → List ℕ → Line
body_in kind bytes = carried_body kind (record { a = word_in bytes; b = word_in (drop 4 bytes); c = word_in (drop 8 bytes); d = word_in (drop 12 bytes) })

-- a message that was taken, in how many bytes
unfoldable pub taken_msg : List ℕ → Msg
taken_msg bytes =
    let kind = kind_by (slice_index bytes 0) in
    record {
      kind = kind;
      line = record { 0 = word_in (drop 1 bytes) };
      src = record { 0 = half_in (drop 5 bytes) };
      stamp = word_in (drop 7 bytes);
      body =
          body_in kind (drop 11 bytes);
    }

unfoldable pub msg_size : List ℕ → ℕ
msg_size bytes = 11 + body_size (kind_by (slice_index bytes 0))

-- a message that was sent, in how many bytes
unfoldable pub sent_msg : ℕ → ℕ → List ℕ → ℕ × Msg
sent_msg number stamp bytes =
    let kind = kind_by (slice_index bytes 2) in (
      half_in bytes,
      record {
        kind = kind;
        line = record { 0 = word_in (drop 3 bytes) };
        src = record { 0 = number };
        stamp = stamp;
        body =
            body_in kind (drop 7 bytes);
      },
    )

unfoldable pub sent_size : List ℕ → ℕ
sent_size bytes = 7 + body_size (kind_by (slice_index bytes 2))

-- so many messages that were sent, and the bytes behind them
abbrev pub sends_in : ℕ → ℕ → ℕ → List ℕ → List (ℕ × Msg)
sends_in number stamp zero bytes = []
sends_in number stamp (suc n) bytes = sent_msg number stamp bytes ∷ sends_in number stamp n (drop (sent_size bytes) bytes)

abbrev pub behind_sends : ℕ → List ℕ → List ℕ
behind_sends zero bytes = bytes
behind_sends (suc n) bytes = behind_sends n (drop (sent_size bytes) bytes)

-- the bytes have so many
abbrev pub HasSends : ℕ → List ℕ → Type 0
HasSends zero bytes = Unit {0}
HasSends (suc n) bytes = (sent_size bytes ≤ length bytes) × HasSends n (drop (sent_size bytes) bytes)

-- ---- a record at the front of some bytes

unfoldable pub event_in : ℕ → List ℕ → Event
event_in number bytes = event_by number (slice_index bytes 4) (half_in (drop 7 bytes)) (word_in (drop 5 bytes))

unfoldable pub taken_in : List ℕ → Option Msg
taken_in bytes = cond (slice_index bytes 4 == 1) (Some (taken_msg (drop 9 bytes))) None

unfoldable pub taken_size : List ℕ → ℕ
taken_size bytes = cond (slice_index bytes 4 == 1) (msg_size (drop 9 bytes)) 0

-- the entry, and how many messages its event sent
unfoldable pub entry_in : ℕ → List ℕ → Entry
entry_in number bytes = record { stamp = word_in bytes; event = event_in number bytes }

unfoldable pub count_in : List ℕ → ℕ
count_in bytes = half_in (drop (9 + taken_size bytes) bytes)

-- the bytes of what it sent, and behind the record
unfoldable pub sends_at : List ℕ → List ℕ
sends_at bytes = drop (11 + taken_size bytes) bytes

abbrev pub behind_record : List ℕ → List ℕ
behind_record bytes = behind_sends (count_in bytes) (sends_at bytes)

-- the event with the messages that it took and sent
abbrev pub logged_in : ℕ → List ℕ → Logged
logged_in number bytes = record {
  entry = entry_in number bytes;
  taken = taken_in bytes;
  sent = sends_in number (entry_in number bytes).stamp (count_in bytes) (sends_at bytes);
}

-- the bytes have a record
pub record HasRecord (bytes : List ℕ) : Type 0 where
  pub front : 11 + taken_size bytes ≤ length bytes
  pub sends : HasSends (count_in bytes) (sends_at bytes)

-- ---- a log

-- so many records of a node
abbrev pub records_in : ℕ → ℕ → List ℕ → List Logged
records_in number zero bytes = []
records_in number (suc n) bytes = logged_in number bytes ∷ records_in number n (behind_record bytes)

abbrev pub HasRecords : ℕ → List ℕ → Type 0
HasRecords zero bytes = Unit {0}
HasRecords (suc n) bytes = HasRecord bytes × HasRecords n (behind_record bytes)

-- the bytes are the records, and there is room for one more
pub record ArePacked (number events : ℕ) (bytes : List ℕ) (room capacity : ℕ) : Type 0 where
  pub packed : bytes ≡ log_bytes (records_in number events bytes)
  pub records : AreRecords number (records_in number events bytes)
  pub ascends : Ascends (records_in number events bytes)
  pub few : events + min room 1 < 2 ^ 32
  pub place : length bytes + (15 * min room 1 + 23 * room) ≤ capacity

-- ---- a log that is read

-- the event given last, whose record is at the front of these bytes
abbrev pub given_in : ℕ → Bool → List ℕ → Option Logged
given_in number true bytes = Some (logged_in number bytes)
given_in number false bytes = None

abbrev pub read_off : ℕ → Bool → List ℕ → ℕ → List ℕ → Reading
read_off number has_given bytes left rest = record { given = given_in number has_given bytes; left = records_in number left rest }

abbrev pub HasGiven : Bool → List ℕ → Type 0
HasGiven true bytes = HasRecord bytes
HasGiven false bytes = Unit {0}
