-- The report as JSON (RFC 8259): one object without blanks, the keys of each object in the order of their bytes, and LF. What a value is, and the text
-- that it has, are serde_json's words.
use Rattle.std.specs.Prelude.{ℕ, List, [], ◌∷◌, ◌++◌, codes}
use Rattle.serde_json.specs.Data.{Data, string}
use Rattle.serde_json.specs.Written.{compact_text}
use Rattle.alw_msg.specs.declared.events.Entry.{Entry}
use Rattle.alw_image.specs.declared.parts.Parts.{Parts}
use Rattle.alw_image.specs.Parameters.{Parameters}
use Rattle.alw_model.specs.declared.steps.Counts.{Counts}
use Rattle.alw_model.specs.declared.ends.Ended.{Ended}
use Rattle.alw_model.specs.Counts.{DirectoryLine}
use Rattle.alw_json.specs.Data.{natural, listed, pair, keyed, params_data}
use Rattle.alw_report.specs.Reports.{ended_text, state_text, meta_text, told_of}
use Rattle.alw_report.specs.declared.values.Report.{Report}

-- messages sent by kind, and the other counts
abbrev pub counts_data : Counts → Data
counts_data c = keyed (
    (codes "ACKC", natural c.ackc) ∷
    (codes "BUSY", natural c.busy) ∷
    (codes "INV", natural c.inv) ∷
    (codes "RDATA", natural c.rdata) ∷
    (codes "REPM", natural c.repm) ∷
    (codes "RREQ", natural c.rreq) ∷
    (codes "UPDATE", natural c.update) ∷
    (codes "WDATA", natural c.wdata) ∷
    (codes "WREQ", natural c.wreq) ∷
    (codes "entries", natural c.entries) ∷
    (codes "evicts", natural c.evicts) ∷
    (codes "handlers", natural c.handlers) ∷
    (codes "hops", natural c.hops) ∷
    (codes "misses", natural c.misses) ∷
    (codes "spills", natural c.spills) ∷
    (codes "turns", natural c.turns) ∷ [])

-- an entry of the directory
abbrev pub entry_data : DirectoryLine → Data
entry_data d = keyed (
    (codes "acks", natural d.acks) ∷
    (codes "hw", listed natural d.hardware) ∷
    (codes "line", natural d.line) ∷
    (codes "meta", string (meta_text d.meta)) ∷
    (codes "state", string (state_text d.state)) ∷
    (codes "sw", listed natural d.software) ∷ [])

-- a report, whose end has these words
abbrev pub ended_data : Report → List ℕ → Data
ended_data r ended = keyed (
    (codes "contexts", natural r.sizes.contexts) ∷
    (codes "counts", counts_data r.counts) ∷
    (codes "directory", listed entry_data r.directory) ∷
    (codes "ended", string ended) ∷
    (codes "lines", natural r.sizes.per_node) ∷
    (codes "memory", listed pair r.memory) ∷
    (codes "mesh", pair (r.sizes.width, r.sizes.height)) ∷
    (codes "params", params_data r.params) ∷
    (codes "prints", listed pair r.prints) ∷
    (codes "runs", listed pair r.runs) ∷ [])

-- the object's text
unfoldable pub object_text : Report → List ℕ → List ℕ
object_text r ended = compact_text (ended_data r ended)

unfoldable pub json_text : Report → List ℕ
json_text r = object_text r (ended_text r.ended) ++ codes "\n"

-- the report of a run as JSON
abbrev pub json_of : Parts → Parameters → List Entry → Ended → List ℕ
json_of parts parameters journal ended = json_text (told_of parts parameters journal ended)
