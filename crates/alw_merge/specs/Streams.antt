-- Logs that are read side by side: what is left of each, and the heads, which are the next entries of all.
use Rattle.std.specs.Prelude.{◌≡◌, ℕ, suc, ◌≤◌, ◌<◌, ◌+◌, ◌*◌, true, Option, Some, None, option_to_list, List, [], ◌∷◌, ◌++◌, map}
use Rattle.std.specs.Prelude.{flat_map, length, slice_set, IfSome}
use Rattle.std.specs.List.{AllByRecursion}
use Rattle.std.specs.Option.{option_map}
use Rattle.alw_num.specs.Weights.{weigh}
use Rattle.alw_msg.specs.declared.messages.Msg.{Msg}
use Rattle.alw_msg.specs.declared.events.Entry.{Entry}
use Rattle.alw_msg.specs.Events.{node_of}
use Rattle.alw_msg.specs.Lists.{front, behind}
use Rattle.alw_model.specs.Threads.{Logged, Logs, log_at, in_order, merged}
use Rattle.alw_cells.specs.Logs.{Reading, after_next, taken_of, sent_of, entry_of}
use Rattle.alw_cells.specs.Plain.{is_instr}
use Rattle.alw_cells.specs.Records.{Ascends}
use Rattle.alw_merge.specs.declared.streams.Read.{Read}
use Rattle.alw_merge.specs.Heads.{Waiting, HaveJoined}

-- what is left of a log: the event read last, and those behind it
abbrev pub left_of : Reading → List Logged
left_of reading = option_to_list reading.given ++ reading.left

-- the merge of what is left of all
abbrev pub all_left : List Reading → List Entry
all_left readings = in_order (flat_map (λ reading. map entry_of (left_of reading)) readings)

-- the next entry of a log, which stands at a place among the logs, as a number: by stamp, by node, and by place
abbrev pub key_of : ℕ → Entry → ℕ
key_of log entry = (entry.stamp * 65536 + node_of entry.event) * 65536 + log

abbrev pub head_in : ℕ → Option Logged → List ℕ
head_in log None = []
head_in log (Some logged) = key_of log (entry_of logged) ∷ []

-- the heads of logs, which stand from a place on
abbrev pub heads_from : ℕ → List Reading → List ℕ
heads_from log [] = []
heads_from log (reading ∷ rest) = head_in log reading.given ++ heads_from (suc log) rest

-- a log is at its end where it has no head, its stamps ascend, and the node of its head has 16 bits
pub record LogIsRead (reading : Reading) : Type 0 where
  pub ends : reading.given ≡ None → reading.left ≡ []
  pub ascends : Ascends (left_of reading)
  pub node : IfSome reading.given (λ logged. node_of (entry_of logged).event < 65536)

-- the heads that wait are those of the logs, in some order: all that can be counted of them is the same
abbrev pub AreHeads : List Reading → List ℕ → Type 0
AreHeads readings heads = (f : ℕ → ℕ) → weigh f heads ≡ weigh f (heads_from 0 readings)

-- logs that are read, with their heads, of which there may be one of each
pub record StreamIsUnderWay (readings : List Reading) (waiting : Waiting) : Type 0 where
  pub heads : AreHeads readings waiting.heads
  pub read : AllByRecursion LogIsRead readings
  pub room : length readings ≤ waiting.most
  pub few : length readings ≤ 65536

-- the head that an entry is, if there is one
abbrev pub heads_of : ℕ → Option Entry → List ℕ
heads_of log entry = map (key_of log) (option_to_list entry)

-- a log goes on, and its next head joins the others
pub record ReadingGoesOn (log : ℕ) (reading reading' : Reading) (waiting waiting' : Waiting) : Type 0 where
  pub reading_is : reading' ≡ after_next reading
  pub joins : HaveJoined waiting.heads (head_in log (front reading.left)) waiting'.heads
  pub most : waiting'.most ≡ waiting.most
  pub node : IfSome (front reading.left) (λ logged. node_of (entry_of logged).event < 65536)

-- ---- an event of the merge

-- the first event of what is left of a log comes next in the merge, and was read off it
pub record EventIsReadOff (logs : Logs) (read : Read) (sends : List (ℕ × Msg)) (logs' : Logs) : Type 0 where
  pub here : read.log < length logs
  pub entry : Some read.entry ≡ option_map entry_of (front (log_at logs read.log))
  pub taken : read.taken ≡ taken_of (front (log_at logs read.log))
  pub sent : sends ≡ sent_of (front (log_at logs read.log))
  pub left : logs' ≡ slice_set logs read.log (behind (log_at logs read.log))
  pub first : merged logs ≡ read.entry ∷ merged logs'

-- the next event of the merge was read, or there is none
abbrev pub Reads : Logs → Option Read → List (ℕ × Msg) → Logs → Type 0
Reads logs None sends logs' = merged logs ≡ []
Reads logs (Some read) sends logs' = EventIsReadOff logs read sends logs'

-- the event that was read is an instruction, which took nothing
pub record IsPlain (read : Read) : Type 0 where
  pub instr : is_instr read.entry.event ≡ true
  pub taken : read.taken ≡ None
