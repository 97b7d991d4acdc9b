-- Reports of worked runs, as an independent program writes them.
use Rattle.std.specs.Prelude.{List, [], ◌∷◌, ◌++◌, ℕ, codes}
use Rattle.std.specs.Fmt.{digits}
use Rattle.std.specs.List.{flat_map}
use Rattle.alw_text.specs.Numbers.{hex_digits}
use Rattle.alw_report.specs.Reports.{title, sizes_line, params_word, params_line, ended_line, events_line, requests_text, replies_text, hops_line, head_text, counts_text, summary_text, states_text, pointers_text, runs_text, prints_text, memory_text, directory_text, lists_text, report_text}

-- lines, each with its LF
abbrev pub lines_text : List (List ℕ) → List ℕ
lines_text lines = flat_map (λ line. line ++ 10 ∷ []) lines

-- two nodes store in one line in turn, and the first then loads it
unfoldable pub writers_report : List ℕ
writers_report = lines_text (
    codes "ALEWIFE REPORT 1" ∷
    codes "mesh 2 1 contexts 1 lines 1" ∷
    codes "params pointers 4 sets 256 limit 32768" ∷
    codes "ended halted" ∷
    codes "entries 21 turns 8 misses 3 evicts 0" ∷
    codes "messages RREQ 1 WREQ 2 REPM 0 UPDATE 2 ACKC 0 RDATA 1 WDATA 2 INV 2 BUSY 0" ∷
    codes "hops 4 handlers 0 spills 0" ∷
    codes "runs 3" ∷ codes "0 2" ∷ codes "1 3" ∷ codes "0 3" ∷ codes "prints 1" ∷ codes "0 0x00000001" ∷ codes "memory 1" ∷
    codes "0x40000000 0x00000001" ∷
    codes "directory 1" ∷
    codes "0 RO normal hw 0 sw - acks 0" ∷
    codes "end" ∷ [])

-- a load that traps
unfoldable pub trap_report : List ℕ
trap_report = lines_text (
    codes "ALEWIFE REPORT 1" ∷
    codes "mesh 1 1 contexts 1 lines 1" ∷
    codes "params pointers 4 sets 256 limit 32768" ∷
    codes "ended trapped node 0 slot 0 pc 0x00000004 tt 0x07" ∷
    codes "entries 2 turns 2 misses 0 evicts 0" ∷
    codes "messages RREQ 0 WREQ 0 REPM 0 UPDATE 0 ACKC 0 RDATA 0 WDATA 0 INV 0 BUSY 0" ∷
    codes "hops 0 handlers 0 spills 0" ∷
    codes "runs 1" ∷ codes "0 2" ∷ codes "prints 0" ∷ codes "memory 0" ∷ codes "directory 0" ∷ codes "end" ∷ [])

-- a run that goes on for ever
unfoldable pub limit_report : List ℕ
limit_report = lines_text (
    codes "ALEWIFE REPORT 1" ∷
    codes "mesh 1 1 contexts 1 lines 1" ∷
    codes "params pointers 4 sets 256 limit 3" ∷
    codes "ended limit" ∷
    codes "entries 3 turns 3 misses 0 evicts 0" ∷
    codes "messages RREQ 0 WREQ 0 REPM 0 UPDATE 0 ACKC 0 RDATA 0 WDATA 0 INV 0 BUSY 0" ∷
    codes "hops 0 handlers 0 spills 0" ∷
    codes "runs 1" ∷ codes "0 3" ∷ codes "prints 0" ∷ codes "memory 0" ∷ codes "directory 0" ∷ codes "end" ∷ [])

-- a run of 260 entries over three nodes, with one hardware pointer
unfoldable pub recorded_report : List ℕ
recorded_report = lines_text (
    codes "ALEWIFE REPORT 1" ∷
    codes "mesh 1 3 contexts 2 lines 2" ∷
    codes "params pointers 1 sets 8 limit 2000" ∷
    codes "ended halted" ∷
    codes "entries 260 turns 78 misses 39 evicts 11" ∷
    codes "messages RREQ 14 WREQ 25 REPM 4 UPDATE 14 ACKC 7 RDATA 14 WDATA 21 INV 21 BUSY 4" ∷
    codes "hops 116 handlers 8 spills 5" ∷
    codes "runs 48" ∷ codes "0 1" ∷ codes "3 1" ∷ codes "5 1" ∷ codes "0 1" ∷ codes "3 1" ∷ codes "0 2" ∷ codes "5 1" ∷ codes "3 1" ∷ codes "0 1" ∷
    codes "3 1" ∷ codes "5 2" ∷ codes "0 1" ∷ codes "5 1" ∷ codes "0 5" ∷ codes "5 2" ∷ codes "3 1" ∷ codes "5 2" ∷ codes "0 2" ∷ codes "5 1" ∷
    codes "0 2" ∷ codes "3 1" ∷ codes "5 1" ∷ codes "3 1" ∷ codes "0 1" ∷ codes "3 2" ∷ codes "0 2" ∷ codes "3 1" ∷ codes "0 2" ∷ codes "3 1" ∷
    codes "5 3" ∷ codes "0 1" ∷ codes "5 1" ∷ codes "3 1" ∷ codes "5 1" ∷ codes "3 2" ∷ codes "5 4" ∷ codes "0 1" ∷ codes "3 1" ∷ codes "0 1" ∷
    codes "3 2" ∷ codes "5 1" ∷ codes "3 3" ∷ codes "0 2" ∷ codes "5 1" ∷ codes "0 1" ∷ codes "3 1" ∷ codes "5 4" ∷ codes "3 5" ∷ codes "prints 12" ∷
    codes "0 0x00000000" ∷ codes "3 0x00000003" ∷ codes "5 0x00000005" ∷ codes "0 0x00000000" ∷ codes "0 0x00000000" ∷ codes "5 0x00000005" ∷
    codes "0 0x00000000" ∷ codes "3 0x00000003" ∷ codes "5 0x00000005" ∷ codes "3 0x00000003" ∷ codes "5 0x00000005" ∷ codes "3 0x00000003" ∷
    codes "memory 0" ∷ codes "directory 5" ∷
    codes "1 RW normal hw 1 sw - acks 0" ∷
    codes "2 RW normal hw 1 sw - acks 0" ∷
    codes "3 RO trap-write hw 1 sw 0,2 acks 0" ∷
    codes "4 RW normal hw 1 sw - acks 0" ∷
    codes "5 RO trap-write hw 1 sw 0,2 acks 0" ∷
    codes "end" ∷ [])

-- To unfold this is to unfold all that a report computes with.
unfoldable pub closed_reports : Unit {0}
unfolding digits hex_digits title sizes_line params_word params_line ended_line events_line requests_text replies_text hops_line head_text counts_text
    summary_text states_text pointers_text runs_text prints_text memory_text directory_text lists_text report_text writers_report trap_report
    limit_report recorded_report
closed_reports = tt
