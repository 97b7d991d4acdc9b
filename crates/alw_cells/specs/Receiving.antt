-- The messages of a log that go to a node, as they are read.
use Rattle.std.specs.Prelude.{ℕ, ◌+◌, Option, List, [], ◌++◌, cond, length, drop, option_to_list}
use Rattle.alw_num.specs.Weights.{weigh}
use Rattle.alw_msg.specs.declared.messages.Msg.{Msg}
use Rattle.alw_msg.specs.declared.events.Event.{Event}
use Rattle.alw_model.specs.Threads.{is_from, sent_to}
use Rattle.alw_cells.specs.Cells.{picked}
use Rattle.alw_cells.specs.Logs.{Reading, sent_of}

-- the messages to a node that are left: those of the event given last from a place on, and those of all events behind it
abbrev pub left_to : ℕ → ℕ → Reading → List Msg
left_to number at reading = picked number (drop at (sent_of reading.given)) ++ sent_to number reading.left

-- how many reads are left: of each message, and of each event
abbrev pub unread : ℕ → Reading → ℕ
unread at reading = length (drop at (sent_of reading.given)) + weigh (λ logged. length logged.sent + 1) reading.left

-- the message that an event took of a node
abbrev pub took_by : ℕ → Event → Option Msg → List Msg
took_by number event taken = cond (is_from number event) (option_to_list taken) []
