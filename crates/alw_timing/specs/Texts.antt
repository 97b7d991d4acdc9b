-- The texts of a run's times. Lines end in LF, and decimal numbers have no leading zeros.
use Rattle.std.specs.Prelude.{ℕ, ◌+◌, ◌-◌, Bool, true, false, List, [], ◌∷◌, ◌++◌, length, codes}
use Rattle.std.specs.Fmt.{decimal}
use Rattle.alw_num.specs.declared.states.Mode.{Mode}
use Rattle.alw_num.specs.declared.states.Mode.TheVariants.{Read, Write}
use Rattle.alw_msg.specs.declared.events.Event.{Event}
use Rattle.alw_msg.specs.declared.events.Entry.{Entry}
use Rattle.alw_image.specs.declared.parts.Parts.{Parts}
use Rattle.alw_image.specs.Images.{node_count, sizes_of}
use Rattle.alw_image.specs.Parameters.{Parameters}
use Rattle.alw_model.specs.declared.ends.Ended.{Ended}
use Rattle.alw_report.specs.Reports.{sizes_line, params_line, ended_line, heading}
use Rattle.alw_report.specs.Names.{mode_text}
use Rattle.alw_trace.specs.Texts.{event_text}
use Rattle.alw_times.specs.declared.costs.Costs.{Costs}
use Rattle.alw_times.specs.declared.happenings.Span.{Span}
use Rattle.alw_times.specs.Times.{times_of}
use Rattle.alw_waits.specs.declared.totals.Total.{Total}
use Rattle.alw_waits.specs.declared.totals.Spent.{Spent}
use Rattle.alw_waits.specs.declared.misses.EndedBy.{EndedBy}
use Rattle.alw_waits.specs.declared.misses.EndedBy.TheVariants.{Hardware, Handler, Refusal}
use Rattle.alw_waits.specs.Waits.{WaitsSoFar, ends_at, waits_of, spans_of}

-- ---- the first lines

-- the costs, in cycles, and the seed of the waits after a BUSY
unfoldable pub turn_costs : Costs → List ℕ
turn_costs costs = codes "costs hit " ++ (decimal costs.hit ++ (codes " switch " ++ decimal costs.switch))

unfoldable pub message_costs : Costs → List ℕ
message_costs costs = codes " hop " ++ (decimal costs.hop ++ (codes " send " ++ (decimal costs.send ++ (codes " data " ++ decimal costs.data))))

unfoldable pub home_costs : Costs → List ℕ
home_costs costs = codes " home " ++ (decimal costs.home ++ (codes " fill " ++ decimal costs.fill))

unfoldable pub handler_costs : Costs → List ℕ
handler_costs costs = codes " trap " ++ (decimal costs.trap ++ (codes " inv " ++ decimal costs.inv))

unfoldable pub retry_costs : Costs → List ℕ
retry_costs costs = codes " retry " ++ (decimal costs.retry ++ (codes " seed " ++ (decimal costs.seed ++ codes "\n")))

unfoldable pub costs_line : Costs → List ℕ
costs_line costs = turn_costs costs ++ (message_costs costs ++ (home_costs costs ++ (handler_costs costs ++ retry_costs costs)))

-- sizes, parameters and costs, behind a title
unfoldable pub head_text : Parts → Parameters → Costs → List ℕ
head_text parts parameters costs = sizes_line (sizes_of parts) ++ (params_line parameters ++ costs_line costs)

-- ---- the cycles of a run

unfoldable pub cycles_title : List ℕ
cycles_title = codes "ALEWIFE CYCLES 1\n"

unfoldable pub cycles_line : ℕ → List ℕ
cycles_line cycles = codes "cycles " ++ (decimal cycles ++ codes "\n")

-- a total, behind its name
unfoldable pub total_line : List ℕ → Total → List ℕ
total_line name total = name ++ (codes " count " ++ (decimal total.count ++ (codes " sum " ++ (decimal total.sum ++ (codes " most " ++ (decimal total.most ++ codes "\n"))))))

abbrev pub home_text : Bool → List ℕ
home_text true = codes "here"
home_text false = codes "elsewhere"

abbrev pub end_text : EndedBy → List ℕ
end_text Hardware = codes "hardware"
end_text Handler = codes "handler"
end_text Refusal = codes "busy"

-- misses that ended so
unfoldable pub wait_line : WaitsSoFar → Bool → Mode → EndedBy → List ℕ
wait_line waits is_here mode ended = home_text is_here ++ (codes " " ++ (mode_text mode ++ (codes " " ++ total_line (end_text ended) (ends_at waits is_here mode ended))))

unfoldable pub mode_lines : WaitsSoFar → Bool → Mode → List ℕ
mode_lines waits is_here mode = wait_line waits is_here mode Hardware ++ (wait_line waits is_here mode Handler ++ wait_line waits is_here mode Refusal)

unfoldable pub home_lines : WaitsSoFar → Bool → List ℕ
home_lines waits is_here = mode_lines waits is_here Read ++ mode_lines waits is_here Write

unfoldable pub waits_text : WaitsSoFar → List ℕ
waits_text waits = codes "waits 12\n" ++ (home_lines waits true ++ home_lines waits false)

-- what a node's cycles went to; it waited where nothing else is told
abbrev pub waiting_of : ℕ → Spent → ℕ
waiting_of cycles spent = cycles - (spent.turns + spent.misses + spent.switches + spent.handlers)

unfoldable pub busy_text : Spent → List ℕ
busy_text spent =
    codes " turns " ++ (decimal spent.turns ++ (codes " misses " ++ (decimal spent.misses
    ++ (codes " switches " ++ (decimal spent.switches ++ (codes " handlers " ++ decimal spent.handlers))))))

-- what its processor waited, and what its controller took
unfoldable pub waited_text : ℕ → Spent → List ℕ
waited_text waiting spent = codes " waiting " ++ (decimal waiting ++ (codes " controller " ++ (decimal spent.controller ++ codes "\n")))

unfoldable pub node_line : ℕ → ℕ → Spent → List ℕ
node_line cycles node spent = decimal node ++ (busy_text spent ++ waited_text (waiting_of cycles spent) spent)

-- a line for each node from one on
abbrev pub node_lines : ℕ → ℕ → List Spent → List ℕ
node_lines cycles node [] = []
node_lines cycles node (spent ∷ rest) = node_line cycles node spent ++ node_lines cycles (node + 1) rest

unfoldable pub nodes_text : ℕ → ℕ → List Spent → List ℕ
nodes_text count cycles all = heading (codes "nodes") count ++ node_lines cycles 0 all

unfoldable pub totals_text : WaitsSoFar → List ℕ
totals_text waits = total_line (codes "accesses") waits.accesses ++ (total_line (codes "queued") waits.queued ++ waits_text waits)

-- the text of the cycles of a run that ended so
unfoldable pub cycles_text : Parts → Parameters → Costs → Ended → ℕ → WaitsSoFar → List ℕ
cycles_text parts parameters costs ended cycles waits =
    cycles_title ++ (head_text parts parameters costs ++ (ended_line ended ++ (cycles_line cycles ++ (totals_text waits ++ (nodes_text (node_count parts) cycles waits.spent ++ codes "end\n")))))

abbrev pub cycles_text_of : Parts → Parameters → Costs → Ended → List Entry → List ℕ
cycles_text_of parts parameters costs ended journal =
    cycles_text parts parameters costs ended (times_of parts parameters costs journal).latest (waits_of parts parameters costs journal)

-- ---- the moments of a run

unfoldable pub moments_title : List ℕ
moments_title = codes "ALEWIFE MOMENTS 1\n"

-- when an event started, when it finished, and what it is
unfoldable pub moment_line : Span → Event → List ℕ
moment_line span event = decimal span.start ++ (codes " " ++ (decimal span.finish ++ (event_text event ++ codes "\n")))

-- a line for each entry that has a span
abbrev pub moment_lines : List Entry → List Span → List ℕ
moment_lines [] spans = []
moment_lines (entry ∷ rest) [] = []
moment_lines (entry ∷ rest) (span ∷ spans) = moment_line span entry.event ++ moment_lines rest spans

unfoldable pub entries_text : List Entry → List Span → List ℕ
entries_text journal spans = heading (codes "entries") (length journal) ++ moment_lines journal spans

unfoldable pub moments_text : Parts → Parameters → Costs → List Entry → List Span → List ℕ
moments_text parts parameters costs journal spans = moments_title ++ (head_text parts parameters costs ++ (entries_text journal spans ++ codes "end\n"))

abbrev pub moments_text_of : Parts → Parameters → Costs → List Entry → List ℕ
moments_text_of parts parameters costs journal = moments_text parts parameters costs journal (spans_of parts parameters costs journal)
