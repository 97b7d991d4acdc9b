-- The text of a trace, a run as it was taken, and of a claim, what a run says without the machine. Lines end in LF; numbers and words are spelled as in a report.
use Rattle.std.specs.Prelude.{ℕ, zero, suc, ◌+◌, ◌/◌, ◌%◌, List, [], ◌∷◌, ◌++◌, length, take, drop, codes}
use Rattle.std.specs.Fmt.{decimal}
use Rattle.std.specs.List.{flat_map}
use Rattle.alw_text.specs.Numbers.{hex_digit}
use Rattle.alw_msg.specs.declared.events.Event.{Event}
use Rattle.alw_msg.specs.declared.events.Event.TheVariants.{Instr, Handle, Deliver, Evict}
use Rattle.alw_msg.specs.declared.events.Entry.{Entry}
use Rattle.alw_msg.specs.Stretches.{stretches}
use Rattle.alw_image.specs.Images.{spelling}
use Rattle.alw_report.specs.Reports.{heading, params_line, runs_text, prints_text, memory_text}
use Rattle.alw_trace.specs.declared.values.Trace.{Trace}
use Rattle.alw_trace.specs.declared.values.Claim.{Claim}

-- ---- the image

-- a byte: two lower-case digits
abbrev pub byte_digits : ℕ → List ℕ
byte_digits byte = hex_digit (byte / 16) ∷ hex_digit (byte % 16) ∷ []

-- a line of bytes
abbrev pub hex_line : List ℕ → List ℕ
hex_line row = flat_map byte_digits row ++ codes "\n"

-- bytes in so many lines, 32 to a line
unfoldable pub hex_lines : ℕ → List ℕ → List ℕ
hex_lines zero bytes = []
hex_lines (suc count) bytes = hex_line (take 32 bytes) ++ hex_lines count (drop 32 bytes)

-- in how many lines so many bytes stand: in none where there are none
abbrev pub line_number : ℕ → ℕ
line_number bytes = (bytes + 31) / 32

-- an image: the number of its bytes, and the bytes
unfoldable pub image_text : List ℕ → List ℕ
image_text bytes = heading (codes "image") (length bytes) ++ hex_lines (line_number (length bytes)) bytes

-- ---- the entries

-- an event: its letter, the node, and behind it what else it names; of a delivery the sender comes first
abbrev pub event_text : Event → List ℕ
event_text (Instr node) = codes " I " ++ decimal node.0
event_text (Handle node) = codes " H " ++ decimal node.0
event_text (Deliver from to) = codes " D " ++ (decimal from.0 ++ (codes " " ++ decimal to.0))
event_text (Evict node set) = codes " E " ++ (decimal node.0 ++ (codes " " ++ decimal set))

-- an entry: its stamp, and the event
abbrev pub entry_line : Entry → List ℕ
entry_line entry = decimal entry.stamp ++ (event_text entry.event ++ codes "\n")

unfoldable pub entries_text : List Entry → List ℕ
entries_text journal = heading (codes "entries") (length journal) ++ flat_map entry_line journal

-- ---- the whole

unfoldable pub trace_title : List ℕ
trace_title = codes "ALEWIFE TRACE 1\n"

unfoldable pub claim_title : List ℕ
claim_title = codes "ALEWIFE CLAIM 1\n"

-- a trace says nothing of evictions to be tried: what was evicted stands among the entries
unfoldable pub trace_text : Trace → List ℕ
trace_text t = trace_title ++ (image_text (spelling t.image) ++ (params_line t.params ++ (entries_text t.journal ++ codes "end\n")))

-- what a claim says: the turns in stretches, the prints and the memory
unfoldable pub lists_text : Claim → List ℕ
lists_text c = runs_text (stretches c.turns) ++ (prints_text c.prints ++ memory_text c.memory)

unfoldable pub claim_text : Claim → List ℕ
claim_text c = claim_title ++ (image_text (spelling c.image) ++ (lists_text c ++ codes "end\n"))
