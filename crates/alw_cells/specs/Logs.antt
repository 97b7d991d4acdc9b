-- A node's log as it is written, with room for a record more, and as it is read.
use Rattle.std.specs.Prelude.{ℕ, Option, Some, None, List, [], map}
use Rattle.alw_msg.specs.declared.messages.Msg.{Msg}
use Rattle.alw_msg.specs.declared.events.Entry.{Entry}
use Rattle.alw_msg.specs.Lists.{front, behind}
use Rattle.alw_model.specs.Threads.{Logged, Logs, log_at, took_from, sent_to, IsFront}

-- the node whose log it is; the records so far; and how many places are kept for one record more: one for itself, and one for each message that it sends
pub record Written : Type 0 where
  pub number : ℕ
  pub entries : List Logged
  pub room : ℕ

-- the logs of all nodes, by number
abbrev pub logged : List Written → Logs
logged logs = map (λ log. log.entries) logs

-- what a node's log took of another is a front of what the other's log sent it
abbrev pub Agrees : Logs → ℕ → ℕ → Type 0
Agrees logs from to = IsFront (took_from from (log_at logs to)) (sent_to to (log_at logs from))

-- a log that is read: the record given last, and those that are left
pub record Reading : Type 0 where
  pub given : Option Logged
  pub left : List Logged

-- a log that nothing has been read of
abbrev pub reading_of : List Logged → Reading
reading_of log = record { given = None; left = log }

-- the next record is given, where there is one
abbrev pub after_next : Reading → Reading
after_next reading = record { given = front reading.left; left = behind reading.left }

-- of the record given last, where there is one: the message that it took, and the messages that it sent
abbrev pub taken_of : Option Logged → Option Msg
taken_of None = None
taken_of (Some record_given) = record_given.taken

abbrev pub sent_of : Option Logged → List (ℕ × Msg)
sent_of None = []
sent_of (Some record_given) = record_given.sent

-- its entry
abbrev pub entry_of : Logged → Entry
entry_of logged_event = logged_event.entry
