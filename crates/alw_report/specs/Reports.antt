-- The report's text, line by line, from what it tells; and what is told of a run. Lines end in LF, decimal numbers have no leading zeros, and
-- words have eight hexadecimal digits.
use Rattle.std.specs.Prelude.{ℕ, List, ◌++◌, length, codes}
use Rattle.std.specs.Fmt.{decimal}
use Rattle.std.specs.List.{flat_map}
use Rattle.alw_num.specs.declared.states.State.{State}
use Rattle.alw_num.specs.declared.states.State.TheVariants.{RO, RW, RT, WT}
use Rattle.alw_num.specs.declared.states.Meta.{Meta}
use Rattle.alw_num.specs.declared.states.Meta.TheVariants.{Normal, Progress, TrapWrite, TrapAlways}
use Rattle.alw_text.specs.Numbers.{hex_byte, hex_word}
use Rattle.alw_text.specs.Pieces.{nodes_text}
use Rattle.alw_msg.specs.declared.events.Entry.{Entry}
use Rattle.alw_msg.specs.Stretches.{stretches}
use Rattle.alw_image.specs.declared.parts.Parts.{Parts}
use Rattle.alw_image.specs.declared.parts.Sizes.{Sizes}
use Rattle.alw_image.specs.Images.{sizes_of}
use Rattle.alw_image.specs.Parameters.{Parameters}
use Rattle.alw_model.specs.declared.steps.Counts.{Counts}
use Rattle.alw_model.specs.declared.ends.Ended.{Ended}
use Rattle.alw_model.specs.declared.ends.Ended.TheVariants.{Halted, Trapped, Limit}
use Rattle.alw_model.specs.Machine.{state}
use Rattle.alw_model.specs.Runs.{moments, turns_of, prints_of}
use Rattle.alw_model.specs.Counts.{counts_of, memory_words, DirectoryLine, directory_lines}
use Rattle.alw_report.specs.declared.values.Report.{Report}

-- ---- the first seven lines

unfoldable pub title : List ℕ
title = codes "ALEWIFE REPORT 1\n"

-- columns and rows of the mesh, and how many contexts and lines each node has
unfoldable pub sizes_line : Sizes → List ℕ
sizes_line sizes =
    codes "mesh " ++ (decimal sizes.width ++ (codes " " ++ (decimal sizes.height
    ++ (codes " contexts " ++ (decimal sizes.contexts ++ (codes " lines " ++ (decimal sizes.per_node ++ codes "\n")))))))

unfoldable pub params_word : List ℕ
params_word = codes "params pointers "

-- hardware pointers, sets and the limit
unfoldable pub params_line : Parameters → List ℕ
params_line p = params_word ++ (decimal p.pointers ++ (codes " sets " ++ (decimal p.sets ++ (codes " limit " ++ (decimal p.limit ++ codes "\n")))))

-- how the run ended, or the first trapping turn
abbrev pub ended_text : Ended → List ℕ
ended_text Halted = codes "halted"
ended_text (Limit event) = codes "limit"
ended_text (Trapped at) =
    codes "trapped node " ++ (decimal at.node ++ (codes " slot " ++ (decimal at.slot
    ++ (codes " pc " ++ (hex_word at.pc ++ (codes " tt " ++ hex_byte at.tt))))))

unfoldable pub ended_line : Ended → List ℕ
ended_line ended = codes "ended " ++ (ended_text ended ++ codes "\n")

unfoldable pub events_line : Counts → List ℕ
events_line c =
    codes "entries " ++ (decimal c.entries ++ (codes " turns " ++ (decimal c.turns
    ++ (codes " misses " ++ (decimal c.misses ++ (codes " evicts " ++ (decimal c.evicts ++ codes "\n")))))))

-- messages sent, by kind: to memory, and to a cache
unfoldable pub requests_text : Counts → List ℕ
requests_text c =
    codes "messages RREQ " ++ (decimal c.rreq ++ (codes " WREQ " ++ (decimal c.wreq ++ (codes " REPM " ++ (decimal c.repm
    ++ (codes " UPDATE " ++ (decimal c.update ++ (codes " ACKC " ++ decimal c.ackc))))))))

unfoldable pub replies_text : Counts → List ℕ
replies_text c =
    codes " RDATA " ++ (decimal c.rdata ++ (codes " WDATA " ++ (decimal c.wdata
    ++ (codes " INV " ++ (decimal c.inv ++ (codes " BUSY " ++ (decimal c.busy ++ codes "\n")))))))

unfoldable pub hops_line : Counts → List ℕ
hops_line c =
    codes "hops " ++ (decimal c.hops
    ++ (codes " handlers " ++ (decimal c.handlers ++ (codes " spills " ++ (decimal c.spills ++ codes "\n")))))

-- the first four lines, and the counts in three
unfoldable pub head_text : Report → List ℕ
head_text r = title ++ (sizes_line r.sizes ++ (params_line r.params ++ ended_line r.ended))

unfoldable pub counts_text : Counts → List ℕ
counts_text c = events_line c ++ (requests_text c ++ (replies_text c ++ hops_line c))

-- the summary: seven lines, with which the report begins
unfoldable pub summary_text : Report → List ℕ
summary_text r = head_text r ++ counts_text r.counts

-- ---- the lists

-- a heading of a list: its name and how many lines follow
abbrev pub heading : List ℕ → ℕ → List ℕ
heading name count = name ++ (codes " " ++ (decimal count ++ codes "\n"))

-- a stretch of turns of one context, a printed word, and a word of memory
abbrev pub run_line : ℕ × ℕ → List ℕ
run_line run = decimal run.0 ++ (codes " " ++ (decimal run.1 ++ codes "\n"))

abbrev pub print_line : ℕ × ℕ → List ℕ
print_line print = decimal print.0 ++ (codes " " ++ (hex_word print.1 ++ codes "\n"))

abbrev pub word_line : ℕ × ℕ → List ℕ
word_line word = hex_word word.0 ++ (codes " " ++ (hex_word word.1 ++ codes "\n"))

abbrev pub state_text : State → List ℕ
state_text RO = codes "RO"
state_text RW = codes "RW"
state_text RT = codes "RT"
state_text WT = codes "WT"

abbrev pub meta_text : Meta → List ℕ
meta_text Normal = codes "normal"
meta_text Progress = codes "progress"
meta_text TrapWrite = codes "trap-write"
meta_text TrapAlways = codes "trap-always"

-- the nodes that hardware and those that software points to, and the answers that are still to come
unfoldable pub pointers_text : List ℕ → List ℕ → ℕ → List ℕ
pointers_text hardware software acks = codes " hw " ++ (nodes_text hardware ++ (codes " sw " ++ (nodes_text software ++ (codes " acks " ++ decimal acks))))

-- an entry of the directory: its states; then its pointers and its counter
unfoldable pub states_text : DirectoryLine → List ℕ
states_text d = decimal d.line ++ (codes " " ++ (state_text d.state ++ (codes " " ++ meta_text d.meta)))

abbrev pub directory_line : DirectoryLine → List ℕ
directory_line d = states_text d ++ (pointers_text d.hardware d.software d.acks ++ codes "\n")

unfoldable pub runs_text : List (ℕ × ℕ) → List ℕ
runs_text runs = heading (codes "runs") (length runs) ++ flat_map run_line runs

unfoldable pub prints_text : List (ℕ × ℕ) → List ℕ
prints_text prints = heading (codes "prints") (length prints) ++ flat_map print_line prints

unfoldable pub memory_text : List (ℕ × ℕ) → List ℕ
memory_text memory = heading (codes "memory") (length memory) ++ flat_map word_line memory

unfoldable pub directory_text : List DirectoryLine → List ℕ
directory_text directory = heading (codes "directory") (length directory) ++ flat_map directory_line directory

unfoldable pub lists_text : Report → List ℕ
lists_text r = runs_text r.runs ++ (prints_text r.prints ++ (memory_text r.memory ++ directory_text r.directory))

-- ---- the report

unfoldable pub report_text : Report → List ℕ
report_text r = summary_text r ++ (lists_text r ++ codes "end\n")

-- what a report tells of a run: its turns in stretches, and memory and directory at its end
abbrev pub told_of : Parts → Parameters → List Entry → Ended → Report
told_of parts parameters journal ended = record {
  sizes = sizes_of parts;
  params = parameters;
  ended = ended;
  counts = counts_of parts (moments parts parameters journal);
  runs = stretches (turns_of parts parameters journal);
  prints = prints_of parts parameters journal;
  memory = memory_words parts parameters (state parts parameters journal);
  directory = directory_lines parts (state parts parameters journal);
}

-- the summary of a run, and its report, which begins with the summary
abbrev pub summary_of : Parts → Parameters → List Entry → Ended → List ℕ
summary_of parts parameters journal ended = summary_text (told_of parts parameters journal ended)

abbrev pub report_of : Parts → Parameters → List Entry → Ended → List ℕ
report_of parts parameters journal ended = report_text (told_of parts parameters journal ended)
