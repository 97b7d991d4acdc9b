-- What the lines of a trace say as the reader keeps it: each number of a line as it stands.
use Rattle.std.specs.Prelude.{◌≡◌, ℕ, ◌<◌, ◌^◌, List, ◌++◌, length, map, None, Some, ⊤}
use Rattle.std.specs.List.{flat_map, AllByRecursion}
use Rattle.alw_msg.specs.declared.events.Event.{Event}
use Rattle.alw_msg.specs.declared.events.Event.TheVariants.{Instr, Handle, Deliver, Evict}
use Rattle.alw_msg.specs.declared.events.Entry.{Entry}
use Rattle.alw_image.specs.Parameters.{Parameters}
use Rattle.alw_trace.specs.declared.faults.TextErr.{TextErr}
use Rattle.alw_trace.specs.declared.faults.TextErr.TheVariants.{Syntax, Image, Range, NoMemory}
use Rattle.alw_trace.specs.declared.raw.RawEvent.{RawEvent}
use Rattle.alw_trace.specs.declared.raw.RawEvent.TheVariants as raw
use Rattle.alw_trace.specs.declared.raw.RawEntry.{RawEntry}
use Rattle.alw_trace.specs.declared.raw.RawParams.{RawParams}
use Rattle.alw_trace.specs.declared.raw.RawTrace.{RawTrace}
use Rattle.alw_trace.specs.Texts.{hex_line, hex_lines, line_number, image_text, entry_line, entries_text}
use Rattle.alw_image.specs.declared.parts.Parts.{Parts}
use Rattle.alw_image.specs.Images.{spelling, node_count}
use Rattle.alw_image.specs.Faults.{first_unfit, image_fault, image_in}
use Rattle.alw_trace.specs.declared.values.Trace.{Trace}
use Rattle.alw_trace.specs.Readings.{tested, fits_entry, trace_tests, EntryIsStamped, IsTrace}
use Rattle.alw_trace.specs.Lines.{IsNumber, IsRow, IsEntry, AreBytes, TraceLines, AreTraceLines, trace_lines}

abbrev pub event_of : RawEvent → Event
event_of (raw.Instr node) = Instr (record { 0 = node })
event_of (raw.Handle node) = Handle (record { 0 = node })
event_of (raw.Deliver from to) = Deliver (record { 0 = from }) (record { 0 = to })
event_of (raw.Evict node set) = Evict (record { 0 = node }) set

abbrev pub entry_of : RawEntry → Entry
entry_of entry = record { stamp = entry.stamp; event = event_of entry.event }

abbrev pub params_of : RawParams → Parameters
params_of p = record { pointers = p.pointers; sets = p.sets; limit = p.limit; evict = 0 }

abbrev pub lines_of : RawTrace → TraceLines
lines_of t = record { image = t.image; params = params_of t.params; journal = map entry_of t.entries.items }

-- the line at fault is this; or memory was refused
abbrev pub IsSyntaxFault : (ℕ → Type 0) → TextErr → Type 0
IsSyntaxFault IsFault (Syntax line) = IsFault line
IsSyntaxFault IsFault (Image fault) = ⊥
IsSyntaxFault IsFault (Range line) = ⊥
IsSyntaxFault IsFault NoMemory = ⊤

-- the same of a line with a number out of range
abbrev pub IsRangeFault : (ℕ → Type 0) → TextErr → Type 0
IsRangeFault IsFault (Syntax line) = ⊥
IsRangeFault IsFault (Image fault) = ⊥
IsRangeFault IsFault (Range line) = IsFault line
IsRangeFault IsFault NoMemory = ⊤

-- ---- what is read, and what follows it

-- a line of so many bytes, which are put at the end of others
pub record IsRowRead (count : ℕ) (before after text rest : List ℕ) : Type 0 where
  pub row : List ℕ
  pub is_row : IsRow count row
  pub grown : after ≡ before ++ row
  pub parts : text ≡ hex_line row ++ rest

-- so many bytes, 32 to a line
pub record AreRowsRead (count : ℕ) (text image rest : List ℕ) : Type 0 where
  pub is_row : IsRow count image
  pub parts : text ≡ hex_lines (line_number count) image ++ rest

-- an image behind the number of its bytes
pub record IsImageRead (text image rest : List ℕ) : Type 0 where
  pub bytes : AreBytes image
  pub parts : text ≡ image_text image ++ rest

-- entries behind their number
pub record AreEntriesRead (text : List ℕ) (journal : List Entry) (rest : List ℕ) : Type 0 where
  pub each : AllByRecursion IsEntry journal
  pub count : IsNumber (length journal)
  pub parts : text ≡ entries_text journal ++ rest

-- so many entries
pub record AreLinesRead (count : ℕ) (text : List ℕ) (journal : List Entry) (rest : List ℕ) : Type 0 where
  pub each : AllByRecursion IsEntry journal
  pub long : length journal ≡ count
  pub parts : text ≡ flat_map entry_line journal ++ rest

-- a text of the form of a trace
pub record IsOfTrace (text : List ℕ) (lines : TraceLines) : Type 0 where
  pub form : AreTraceLines lines
  pub text_is : text ≡ trace_lines lines

-- the journal of entries that are all in range, of which the first line has this number
pub record IsJournal (nodes sets first : ℕ) (entries : List RawEntry) (journal : List Entry) : Type 0 where
  pub same : journal ≡ map entry_of entries
  pub fits : first_unfit (tested (fits_entry nodes sets) first (map entry_of entries)) ≡ None
  pub stamped : AllByRecursion (EntryIsStamped nodes sets) journal

-- the image that bytes spell
pub record IsImageOf (bytes : List ℕ) (image : Parts) : Type 0 where
  pub spelled : bytes ≡ spelling image
  pub parts : image ≡ image_in bytes
  pub accepted : image_fault bytes ≡ None

-- what is wrong with bytes that are no image
abbrev pub IsImageFault : List ℕ → TextErr → Type 0
IsImageFault bytes (Syntax line) = ⊥
IsImageFault bytes (Image fault) = image_fault bytes ≡ Some fault
IsImageFault bytes (Range line) = ⊥
IsImageFault bytes NoMemory = ⊤

-- the trace of lines that are in range
pub record IsTraceOf (lines : TraceLines) (trace : Trace) : Type 0 where
  pub image : IsImageOf lines.image trace.image
  pub params : trace.params ≡ lines.params
  pub journal : trace.journal ≡ lines.journal
  pub short : length trace.journal < 2 ^ 32
  pub is_trace : IsTrace trace

-- what is wrong with lines that are no trace's
abbrev pub IsNoTrace : TraceLines → TextErr → Type 0
IsNoTrace lines (Syntax line) = ⊥
IsNoTrace lines (Image fault) = image_fault lines.image ≡ Some fault
IsNoTrace lines (Range line) = (image_fault lines.image ≡ None) × (first_unfit (trace_tests (node_count (image_in lines.image)) lines) ≡ Some line)
IsNoTrace lines NoMemory = ⊤
