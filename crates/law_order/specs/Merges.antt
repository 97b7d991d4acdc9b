-- Logs that merge into one journal.
use Rattle.std.specs.Prelude.{◌≡◌, ℕ, ◌<◌, ◌≤◌, false, List, flat_map, length, map}
use Rattle.std.specs.List.{AllByRecursion}
use Rattle.alw_msg.specs.declared.events.Entry.{Entry}
use Rattle.alw_image.specs.declared.parts.Parts.{Parts}
use Rattle.alw_image.specs.Images.{node_count}
use Rattle.alw_image.specs.Parameters.{Parameters}
use Rattle.alw_msg.specs.Events.{is_evict}
use Rattle.alw_model.specs.Threads.{Logs, log_at, IsLocalRun, LinksAgree}

-- a log for each node, each a local run of its node, whose links agree
pub record AreLocalRuns (parts : Parts) (parameters : Parameters) (logs : Logs) : Type 0 where
  pub count : length logs ≡ node_count parts
  pub runs : (n : ℕ) → n < node_count parts → IsLocalRun parts parameters n (log_at logs n)
  pub agree : LinksAgree logs

-- a journal's stamps are within the limit, so that the limit's exception isn't used, and where no evictions are wanted it has none
pub record JournalIsWithin (parameters : Parameters) (journal : List Entry) : Type 0 where
  pub stamps : AllByRecursion (λ entry. entry.stamp ≤ parameters.limit) journal
  pub evicts : parameters.evict ≡ 0 → AllByRecursion (λ entry. is_evict entry.event ≡ false) journal

-- the entries of all logs, one log after the other
abbrev pub entries_of : Logs → List Entry
entries_of logs = flat_map (map (λ logged. logged.entry)) logs

-- a fact of an image, parameters and logs holds for every image, all parameters and all logs that are local runs whose links agree
abbrev pub EveryLogs : (Parts → Parameters → Logs → Type 0) → Type 0
EveryLogs Fact = (parts : Parts) → (parameters : Parameters) → (logs : Logs) → AreLocalRuns parts parameters logs → Fact parts parameters logs
