-- The entry, the table and the meta state that the handler leaves, put together.
use Rattle.std.proofs.Common.{◌≡◌, ℕ, Bool, Some, None, refl, ap, ◌∙◌}
use Rattle.std.proofs.lemmas.Bool.{eq-eqb}
use Rattle.alw_num.specs.declared.states.Meta.{Meta}
use Rattle.alw_num.specs.NodeSets.{Nodes, no_nodes, join_nodes}
use Rattle.alw_num.proofs.MapLaws.{value-with, value-without}
use Rattle.alw_num.specs.Maps.{Map, value_at, with_value, without_value}
use Rattle.alw_model.specs.declared.steps.Keeping.{Keeping}
use Rattle.alw_model.specs.declared.steps.Keeping.TheVariants.{Joined, Alone, Emptied, Kept}
use Rattle.alw_model.specs.LimitLess.{kept, or_always}
use Rattle.alw_msg.specs.declared.messages.Msg.{Msg}
use Rattle.alw_msg.specs.Contents.{content}
use Rattle.alw_msg.specs.Sending.{Sending}
use Rattle.dir_full.specs.Reactions.{reaction, keeping_of, with_sends}
use Rattle.dir_hw.specs.declared.entries.HomeEntry.{HomeEntry}
use Rattle.dir_soft.specs.Tables.{Table, set_or_none, set_of_line}
use Rattle.alw_home.specs.Entries.{directory_of, home_of, with_home}
use Rattle.alw_trap.specs.Handling.{Handles, table_after}

put_there : (m : Map Nodes) (line : ℕ) (nodes : Nodes) → set_or_none (value_at (with_value m line nodes) line) ≡ nodes
put_there m line nodes =
    let there : value_at (with_value m line nodes) line ≡ Some nodes = value-with m line nodes line ∙ rw (eq-eqb line line refl) refl in
    ap set_or_none there

taken_out : (m : Map Nodes) (line : ℕ) → set_or_none (value_at (without_value m line) line) ≡ no_nodes
taken_out m line =
    let gone : value_at (without_value m line) line ≡ None = value-without m line line ∙ rw (eq-eqb line line refl) refl in
    ap set_or_none gone

-- the line's set in the table afterwards
pub set_after : (t : Table) (line i : ℕ) (hardware : Nodes) (keeping : Keeping)
    → set_of_line (table_after t line (kept hardware (set_of_line t line) i keeping).1 keeping) line ≡ (kept hardware (set_of_line t line) i keeping).1
set_after t line i hardware Joined = put_there t.sets line _
set_after t line i hardware Alone = taken_out t.sets line
set_after t line i hardware Emptied = taken_out t.sets line
set_after t line i hardware Kept = refl

-- the parts, as the functions give them, are the handler's
pub settled : (e mid last : HomeEntry) (before after : Table) (P : Nodes) (always : Bool) (sent sent' : Sending) (packet : Msg) (keeping : Keeping)
    (meta listed : Meta)
    → P ≡ join_nodes e.pointers (set_of_line before packet.line.0)
    → mid ≡ with_home e (reaction (home_of e P) packet.src.0 (content packet)).0
    → sent' ≡ with_sends sent packet.line.0 (reaction (home_of e P) packet.src.0 (content packet)).1
    → keeping ≡ keeping_of (home_of e P) packet.src.0 (content packet)
    → last ≡ record mid { pointers = (kept mid.pointers (set_of_line before packet.line.0) packet.src.0 keeping).0 }
    → after ≡ table_after before packet.line.0 (kept mid.pointers (set_of_line before packet.line.0) packet.src.0 keeping).1 keeping
    → meta ≡ (kept mid.pointers (set_of_line before packet.line.0) packet.src.0 keeping).2
    → listed ≡ or_always always meta
    → Handles (directory_of e (set_of_line before packet.line.0) always) (directory_of (record last { meta = listed }) (set_of_line after packet.line.0) always)
    before after sent sent' packet
settled e mid last before after P always sent sent' packet keeping meta listed p_is mid_is sent_is keeping_is last_is after_is meta_is listed_is =
    rw (listed_is, meta_is, last_is, after_is, set_after before packet.line.0 packet.src.0 mid.pointers keeping, sent_is, keeping_is, mid_is, p_is)
    (record { entry = refl; soft = refl; sends = refl })
