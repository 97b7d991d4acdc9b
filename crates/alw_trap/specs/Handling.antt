-- What the trap handler leaves of an entry, of the node's software table, and what it sends.
use Rattle.std.specs.Prelude.{◌≡◌, ℕ}
use Rattle.alw_num.specs.NodeSets.{Nodes}
use Rattle.alw_num.specs.Maps.{with_value, without_value}
use Rattle.alw_msg.specs.declared.messages.Msg.{Msg}
use Rattle.alw_msg.specs.Contents.{Content, content}
use Rattle.alw_msg.specs.Sending.{Sending}
use Rattle.alw_model.specs.declared.steps.Keeping.{Keeping}
use Rattle.alw_model.specs.declared.steps.Keeping.TheVariants.{Joined, Alone, Emptied, Kept}
use Rattle.alw_model.specs.FullMap.{Sends}
use Rattle.alw_model.specs.LimitLess.{Directory, full_map_of, handled, kept}
use Rattle.dir_full.specs.Reactions.{reaction, keeping_of, with_sends}
use Rattle.dir_soft.specs.Tables.{Table}

-- the handler acts on what a message of node i says
abbrev pub handler_on : Directory → ℕ → Content → Directory × Sends
handler_on d i said =
    let home = full_map_of d in
    let after = reaction home i said in
    (handled d after.0 (kept d.hardware d.software i (keeping_of home i said)), after.1)

-- the table, where the line's set becomes this one: a set that joins is put in, one that is freed taken out, and else all stays
abbrev pub table_after : Table → ℕ → Nodes → Keeping → Table
table_after table line software Joined = record table { sets = with_value table.sets line software }
table_after table line software Alone = record table { sets = without_value table.sets line }
table_after table line software Emptied = record table { sets = without_value table.sets line }
table_after table line software Kept = table

-- what the handler has left of an entry, of the table and of the list of its sends are those of the definition
pub record Handles (before after : Directory) (table table' : Table) (sent sent' : Sending) (packet : Msg) : Type 0 where
  pub entry : after ≡ (handler_on before packet.src.0 (content packet)).0
  pub soft : table' ≡ table_after table packet.line.0 after.software (keeping_of (full_map_of before) packet.src.0 (content packet))
  pub sends : sent' ≡ with_sends sent packet.line.0 (handler_on before packet.src.0 (content packet)).1
