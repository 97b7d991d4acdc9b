-- The text of what an image can come to, line by line. Lines end in LF; numbers, words and the lines of prints, memory and runs are spelled as in a report.
use Rattle.std.specs.Prelude.{ℕ, suc, Bool, true, false, List, [], ◌∷◌, ◌++◌, length, codes}
use Rattle.std.specs.Fmt.{decimal}
use Rattle.std.specs.List.{flat_map}
use Rattle.alw_text.specs.Numbers.{hex_byte, hex_word}
use Rattle.alw_report.specs.Reports.{heading, sizes_line, run_line, print_line, word_line, runs_text}
use Rattle.alw_endings.specs.declared.values.Outcomes.{Outcomes}
use Rattle.alw_endings.specs.declared.values.HaltEnd.{HaltEnd}
use Rattle.alw_endings.specs.declared.values.TrapEnd.{TrapEnd}
use Rattle.alw_endings.specs.declared.values.StuckRun.{StuckRun}
use Rattle.alw_endings.specs.declared.values.StuckRun.TheVariants.{No, Yes, Unknown}

-- ---- the first lines

unfoldable pub title : List ℕ
title = codes "ALEWIFE OUTCOMES 1\n"

unfoldable pub places_line : ℕ → List ℕ
places_line places = codes "places " ++ (decimal places ++ codes "\n")

-- the search ended by itself, or it stopped
abbrev pub search_word : Bool → List ℕ
search_word true = codes "complete"
search_word false = codes "stopped"

unfoldable pub search_line : Bool → List ℕ
search_line complete = codes "search " ++ (search_word complete ++ codes "\n")

unfoldable pub head_text : Outcomes → List ℕ
head_text e = title ++ (sizes_line e.sizes ++ (places_line e.places ++ search_line e.is_complete))

-- ---- where all contexts have halted

-- a member's number and how many lines of each kind follow
unfoldable pub halt_line : ℕ → HaltEnd → List ℕ
halt_line number halt =
    codes "outcome " ++ (decimal number ++ (codes " prints " ++ (decimal (length halt.prints)
    ++ (codes " memory " ++ (decimal (length halt.memory) ++ (codes " runs " ++ (decimal (length halt.runs) ++ codes "\n")))))))

unfoldable pub halt_text : ℕ → HaltEnd → List ℕ
halt_text number halt =
    halt_line number halt ++ (flat_map print_line halt.prints ++ (flat_map word_line halt.memory ++ flat_map run_line halt.runs))

-- members, of which the first has this number
abbrev pub halts_from : ℕ → List HaltEnd → List ℕ
halts_from number [] = []
halts_from number (halt ∷ rest) = halt_text number halt ++ halts_from (suc number) rest

unfoldable pub halts_text : List HaltEnd → List ℕ
halts_text halts = heading (codes "outcomes") (length halts) ++ halts_from 0 halts

-- ---- where a turn traps

-- where and how a turn traps
unfoldable pub trap_place : TrapEnd → List ℕ
trap_place trap = codes " context " ++ (decimal trap.context ++ (codes " pc " ++ (hex_word trap.pc ++ (codes " tt " ++ hex_byte trap.tt))))

unfoldable pub trap_line : ℕ → TrapEnd → List ℕ
trap_line number trap = codes "trap " ++ (decimal number ++ (trap_place trap ++ (codes " runs " ++ (decimal (length trap.runs) ++ codes "\n"))))

abbrev pub trap_text : ℕ → TrapEnd → List ℕ
trap_text number trap = trap_line number trap ++ flat_map run_line trap.runs

abbrev pub traps_from : ℕ → List TrapEnd → List ℕ
traps_from number [] = []
traps_from number (trap ∷ rest) = trap_text number trap ++ traps_from (suc number) rest

unfoldable pub traps_text : List TrapEnd → List ℕ
traps_text traps = heading (codes "traps") (length traps) ++ traps_from 0 traps

-- ---- where no end can be reached

abbrev pub stuck_answer : StuckRun → List ℕ
stuck_answer No = codes "no\n"
stuck_answer (Yes runs) = codes "yes " ++ runs_text runs
stuck_answer Unknown = codes "unknown\n"

abbrev pub stuck_text : StuckRun → List ℕ
stuck_text stuck = codes "stuck " ++ stuck_answer stuck

-- ---- the whole

unfoldable pub lists_text : Outcomes → List ℕ
lists_text e = halts_text e.halts ++ (traps_text e.traps ++ stuck_text e.stuck)

unfoldable pub outcomes_text : Outcomes → List ℕ
outcomes_text e = head_text e ++ (lists_text e ++ codes "end\n")
