-- The JSON texts of worked runs, as an independent program writes them.
use Rattle.std.specs.Prelude.{List, [], ◌∷◌, ℕ, codes}
use Rattle.std.specs.Fmt.{digits}
use Rattle.std.specs.List.{flat_map}
use Rattle.alw_text.specs.Numbers.{hex_digits}
use Rattle.alw_report.specs.Json.{object_text, json_text}

-- a text in pieces
abbrev pub joined : List (List ℕ) → List ℕ
joined pieces = flat_map (λ piece. piece) pieces

-- two nodes store in one line in turn, and the first then loads it
unfoldable pub writers_json : List ℕ
writers_json = joined (
    codes "{\"contexts\":1,\"counts\":{\"ACKC\":0,\"BUSY\":0,\"INV\":2,\"RDATA\":1,\"REPM\":0,\"RREQ\":1,\"UPDATE\":2,\"WDATA\":2," ∷
    codes "\"WREQ\":2,\"entries\":21,\"evicts\":0,\"handlers\":0,\"hops\":4,\"misses\":3,\"spills\":0,\"turns\":8}," ∷
    codes "\"directory\":[{\"acks\":0,\"hw\":[0],\"line\":0,\"meta\":\"normal\",\"state\":\"RO\",\"sw\":[]}],\"ended\":\"halted\"," ∷
    codes "\"lines\":1,\"memory\":[[1073741824,1]],\"mesh\":[2,1],\"params\":{\"limit\":32768,\"pointers\":4,\"sets\":256}," ∷
    codes "\"prints\":[[0,1]],\"runs\":[[0,2],[1,3],[0,3]]}\n" ∷ [])

-- a load that traps
unfoldable pub trap_json : List ℕ
trap_json = joined (
    codes "{\"contexts\":1,\"counts\":{\"ACKC\":0,\"BUSY\":0,\"INV\":0,\"RDATA\":0,\"REPM\":0,\"RREQ\":0,\"UPDATE\":0,\"WDATA\":0," ∷
    codes "\"WREQ\":0,\"entries\":2,\"evicts\":0,\"handlers\":0,\"hops\":0,\"misses\":0,\"spills\":0,\"turns\":2},\"directory\":[]," ∷
    codes "\"ended\":\"trapped node 0 slot 0 pc 0x00000004 tt 0x07\",\"lines\":1,\"memory\":[],\"mesh\":[1,1]," ∷
    codes "\"params\":{\"limit\":32768,\"pointers\":4,\"sets\":256},\"prints\":[],\"runs\":[[0,2]]}\n" ∷ [])

-- a run that goes on for ever
unfoldable pub limit_json : List ℕ
limit_json = joined (
    codes "{\"contexts\":1,\"counts\":{\"ACKC\":0,\"BUSY\":0,\"INV\":0,\"RDATA\":0,\"REPM\":0,\"RREQ\":0,\"UPDATE\":0,\"WDATA\":0," ∷
    codes "\"WREQ\":0,\"entries\":3,\"evicts\":0,\"handlers\":0,\"hops\":0,\"misses\":0,\"spills\":0,\"turns\":3},\"directory\":[]," ∷
    codes "\"ended\":\"limit\",\"lines\":1,\"memory\":[],\"mesh\":[1,1],\"params\":{\"limit\":3,\"pointers\":4,\"sets\":256}," ∷
    codes "\"prints\":[],\"runs\":[[0,3]]}\n" ∷ [])

-- a run of 260 entries over three nodes, with one hardware pointer
unfoldable pub recorded_json : List ℕ
recorded_json = joined (
    codes "{\"contexts\":2,\"counts\":{\"ACKC\":7,\"BUSY\":4,\"INV\":21,\"RDATA\":14,\"REPM\":4,\"RREQ\":14,\"UPDATE\":14," ∷
    codes "\"WDATA\":21,\"WREQ\":25,\"entries\":260,\"evicts\":11,\"handlers\":8,\"hops\":116,\"misses\":39,\"spills\":5," ∷
    codes "\"turns\":78},\"directory\":[{\"acks\":0,\"hw\":[1],\"line\":1,\"meta\":\"normal\",\"state\":\"RW\",\"sw\":[]}," ∷
    codes "{\"acks\":0,\"hw\":[1],\"line\":2,\"meta\":\"normal\",\"state\":\"RW\",\"sw\":[]},{\"acks\":0,\"hw\":[1],\"line\":3," ∷
    codes "\"meta\":\"trap-write\",\"state\":\"RO\",\"sw\":[0,2]},{\"acks\":0,\"hw\":[1],\"line\":4,\"meta\":\"normal\"," ∷
    codes "\"state\":\"RW\",\"sw\":[]},{\"acks\":0,\"hw\":[1],\"line\":5,\"meta\":\"trap-write\",\"state\":\"RO\",\"sw\":[0,2]}]," ∷
    codes "\"ended\":\"halted\",\"lines\":2,\"memory\":[],\"mesh\":[1,3],\"params\":{\"limit\":2000,\"pointers\":1,\"sets\":8}," ∷
    codes "\"prints\":[[0,0],[3,3],[5,5],[0,0],[0,0],[5,5],[0,0],[3,3],[5,5],[3,3],[5,5],[3,3]],\"runs\":[[0,1],[3,1],[5,1],[0,1]," ∷
    codes "[3,1],[0,2],[5,1],[3,1],[0,1],[3,1],[5,2],[0,1],[5,1],[0,5],[5,2],[3,1],[5,2],[0,2],[5,1],[0,2],[3,1],[5,1],[3,1],[0,1]," ∷
    codes "[3,2],[0,2],[3,1],[0,2],[3,1],[5,3],[0,1],[5,1],[3,1],[5,1],[3,2],[5,4],[0,1],[3,1],[0,1],[3,2],[5,1],[3,3],[0,2],[5,1]," ∷
    codes "[0,1],[3,1],[5,4],[3,5]]}\n" ∷ [])

-- To unfold this is to unfold all that a JSON text computes with, but for the library's words.
unfoldable pub closed_json : Unit {0}
unfolding digits hex_digits object_text json_text writers_json trap_json limit_json recorded_json
closed_json = tt
