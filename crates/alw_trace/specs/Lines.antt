-- Texts of traces and claims as they are read, line by line: what their lines say, in range or not, and the line at fault where they say nothing.
use Rattle.std.specs.Prelude.{◌≡◌, ◌≢◌, ℕ, ◌+◌, ◌-◌, ◌*◌, ◌^◌, ◌<◌, List, [], ◌++◌, length, min, codes}
use Rattle.std.specs.List.{flat_map, AllByRecursion}
use Rattle.alw_msg.specs.declared.events.Event.{Event}
use Rattle.alw_msg.specs.declared.events.Event.TheVariants.{Instr, Handle, Deliver, Evict}
use Rattle.alw_msg.specs.declared.events.Entry.{Entry}
use Rattle.alw_image.specs.Numbers.{IsWord}
use Rattle.alw_image.specs.Parameters.{Parameters}
use Rattle.alw_report.specs.Reports.{heading, params_line, run_line, print_line, word_line, runs_text, prints_text, memory_text}
use Rattle.alw_trace.specs.Texts.{hex_line, hex_lines, line_number, image_text, entry_line, entries_text, trace_title, claim_title}

-- ---- what a line can say

-- a number in decimal
abbrev pub IsNumber : ℕ → Type 0
IsNumber n = n < 2 ^ 64

abbrev pub IsByte : ℕ → Type 0
IsByte n = n < 256

-- so many bytes
abbrev pub IsRow : ℕ → List ℕ → Type 0
IsRow count row = (length row ≡ count) × AllByRecursion IsByte row

-- parameters, of which a trace has no evict
abbrev pub HasThree : Parameters → Type 0
HasThree p = IsNumber p.pointers × (IsNumber p.sets × (IsNumber p.limit × (p.evict ≡ 0)))

abbrev pub HasNumbers : Event → Type 0
HasNumbers (Instr node) = IsNumber node.0
HasNumbers (Handle node) = IsNumber node.0
HasNumbers (Deliver from to) = IsNumber from.0 × IsNumber to.0
HasNumbers (Evict node set) = IsNumber node.0 × IsNumber set

abbrev pub IsEntry : Entry → Type 0
IsEntry entry = IsNumber entry.stamp × HasNumbers entry.event

-- a run, a print, and a word of memory
abbrev pub IsStretch : ℕ × ℕ → Type 0
IsStretch run = IsNumber run.0 × IsNumber run.1

abbrev pub IsPrint : ℕ × ℕ → Type 0
IsPrint print = IsNumber print.0 × IsWord print.1

abbrev pub IsMemoryWord : ℕ × ℕ → Type 0
IsMemoryWord word = IsWord word.0 × IsWord word.1

-- ---- what a text says

-- the lines of a trace
pub record TraceLines : Type 0 where
  pub image : List ℕ
  pub params : Parameters
  pub journal : List Entry

pub record AreTraceLines (t : TraceLines) : Type 0 where
  pub bytes : AllByRecursion IsByte t.image
  pub size : IsNumber (length t.image)
  pub params : HasThree t.params
  pub entries : AllByRecursion IsEntry t.journal
  pub count : IsNumber (length t.journal)

unfoldable pub trace_lines : TraceLines → List ℕ
trace_lines t = trace_title ++ (image_text t.image ++ (params_line t.params ++ (entries_text t.journal ++ codes "end\n")))

-- the lines of a claim
pub record ClaimLines : Type 0 where
  pub image : List ℕ
  pub runs : List (ℕ × ℕ)
  pub prints : List (ℕ × ℕ)
  pub memory : List (ℕ × ℕ)

pub record AreClaimLines (c : ClaimLines) : Type 0 where
  pub bytes : AllByRecursion IsByte c.image
  pub size : IsNumber (length c.image)
  pub runs : AllByRecursion IsStretch c.runs
  pub run_count : IsNumber (length c.runs)
  pub prints : AllByRecursion IsPrint c.prints
  pub print_count : IsNumber (length c.prints)
  pub memory : AllByRecursion IsMemoryWord c.memory
  pub word_count : IsNumber (length c.memory)

unfoldable pub claim_lines : ClaimLines → List ℕ
claim_lines c = claim_title ++ (image_text c.image ++ (runs_text c.runs ++ (prints_text c.prints ++ (memory_text c.memory ++ codes "end\n"))))

-- ---- the line at fault

-- no line that says this stands at the front of a text
abbrev pub Lacks : {X : Type 0} → (X → Type 0) → (X → List ℕ) → List ℕ → Type 0
Lacks {X} IsX line text = (x : X) → (behind : List ℕ) → IsX x → text ≢ line x ++ behind

abbrev pub LacksThis : List ℕ → List ℕ → Type 0
LacksThis line text = (behind : List ℕ) → text ≢ line ++ behind

-- a heading with a number
abbrev pub LacksHeading : List ℕ → List ℕ → Type 0
LacksHeading name text = Lacks IsNumber (heading name) text

-- of so many lines, the first of which has this number, some stand there, and behind them no further one
pub record IsFaultInLines {X : Type 0} (IsX : X → Type 0) (line : X → List ℕ) (count first : ℕ) (text : List ℕ) (fault : ℕ) : Type 0 where
  pub read : List X
  pub rest : List ℕ
  pub each : AllByRecursion IsX read
  pub fewer : length read < count
  pub parts : text ≡ flat_map line read ++ rest
  pub lacks : Lacks IsX line rest
  pub place : fault ≡ first + length read

-- the same of so many bytes in lines of 32
pub record IsFaultInRows (count first : ℕ) (text : List ℕ) (fault : ℕ) : Type 0 where
  pub rows : ℕ
  pub read : List ℕ
  pub rest : List ℕ
  pub long : length read ≡ 32 * rows
  pub fewer : 32 * rows < count
  pub each : AllByRecursion IsByte read
  pub parts : text ≡ hex_lines rows read ++ rest
  pub lacks : Lacks (IsRow (min (count - 32 * rows) 32)) hex_line rest
  pub place : fault ≡ first + rows

-- a list behind its heading, which has this number
pub data IsFaultInList {X : Type 0} (IsX : X → Type 0) (line : X → List ℕ) (name : List ℕ) (first : ℕ) (text : List ℕ) (fault : ℕ) : Type 0 where
  list_heading : LacksHeading name text → fault ≡ first → IsFaultInList IsX line name first text fault
  list_line : (count : ℕ) → (rest : List ℕ) → IsNumber count → text ≡ heading name count ++ rest → IsFaultInLines IsX line count (first + 1) rest fault
      → IsFaultInList IsX line name first text fault

-- an image behind the heading, which is the second line
pub data IsFaultInImage (text : List ℕ) (fault : ℕ) : Type 0 where
  image_heading : LacksHeading (codes "image") text → fault ≡ 2 → IsFaultInImage text fault
  image_row : (count : ℕ) → (rest : List ℕ) → IsNumber count → text ≡ heading (codes "image") count ++ rest → IsFaultInRows count 3 rest fault
      → IsFaultInImage text fault

-- the last line, which has this number, behind which nothing stands
pub data IsFaultAtEnd (last : ℕ) (text : List ℕ) (fault : ℕ) : Type 0 where
  lacks_end : LacksThis (codes "end\n") text → fault ≡ last → IsFaultAtEnd last text fault
  goes_on : (rest : List ℕ) → text ≡ codes "end\n" ++ rest → rest ≢ [] → fault ≡ last + 1 → IsFaultAtEnd last text fault

-- the bytes of an image
abbrev pub AreBytes : List ℕ → Type 0
AreBytes image = AllByRecursion IsByte image × IsNumber (length image)

-- the number of the line behind an image
abbrev pub behind_image : List ℕ → ℕ
behind_image image = 3 + line_number (length image)

-- a text that doesn't begin with this title and the lines of a trace up to its last entry: the first line with which no such text goes on, by its
-- number from 1 on; a line that isn't there has the number after the last
pub data IsFrontFault (title text : List ℕ) (fault : ℕ) : Type 0 where
  title_of_front : LacksThis title text → fault ≡ 1 → IsFrontFault title text fault
  image_of_front : (rest : List ℕ) → text ≡ title ++ rest → IsFaultInImage rest fault → IsFrontFault title text fault
  params_of_front : (image rest : List ℕ) → AreBytes image → text ≡ title ++ (image_text image ++ rest)
      → Lacks HasThree params_line rest → fault ≡ behind_image image → IsFrontFault title text fault
  entries_of_front : (image : List ℕ) → (params : Parameters) → (rest : List ℕ) → AreBytes image → HasThree params
      → text ≡ title ++ (image_text image ++ (params_line params ++ rest))
      → IsFaultInList IsEntry entry_line (codes "entries") (behind_image image + 1) rest fault → IsFrontFault title text fault

-- such lines, and what stands behind them
pub record SaysFront (title text : List ℕ) (lines : TraceLines) (rest : List ℕ) : Type 0 where
  pub form : AreTraceLines lines
  pub text_is : text ≡ title ++ (image_text lines.image ++ (params_line lines.params ++ (entries_text lines.journal ++ rest)))

-- the number of the line behind them
abbrev pub behind_entries : TraceLines → ℕ
behind_entries lines = behind_image lines.image + 2 + length lines.journal

-- a text that is no trace: the first line with which no trace goes on
pub data IsTraceFault (text : List ℕ) (fault : ℕ) : Type 0 where
  front_of_trace : IsFrontFault trace_title text fault → IsTraceFault text fault
  end_of_trace : (lines : TraceLines) → (rest : List ℕ) → SaysFront trace_title text lines rest → IsFaultAtEnd (behind_entries lines) rest fault
      → IsTraceFault text fault

-- a text that is no claim: the first line with which no claim goes on
pub data IsClaimFault (text : List ℕ) (fault : ℕ) : Type 0 where
  title_of_claim : LacksThis claim_title text → fault ≡ 1 → IsClaimFault text fault
  image_of_claim : (rest : List ℕ) → text ≡ claim_title ++ rest → IsFaultInImage rest fault → IsClaimFault text fault
  runs_of_claim : (image rest : List ℕ) → AreBytes image → text ≡ claim_title ++ (image_text image ++ rest)
      → IsFaultInList IsStretch run_line (codes "runs") (behind_image image) rest fault → IsClaimFault text fault
  prints_of_claim : (image : List ℕ) → (runs : List (ℕ × ℕ)) → (rest : List ℕ) → AreBytes image → AllByRecursion IsStretch runs → IsNumber (length runs)
      → text ≡ claim_title ++ (image_text image ++ (runs_text runs ++ rest))
      → IsFaultInList IsPrint print_line (codes "prints") (behind_image image + 1 + length runs) rest fault → IsClaimFault text fault
  memory_of_claim : (image : List ℕ) → (runs prints : List (ℕ × ℕ)) → (rest : List ℕ) → AreBytes image → AllByRecursion IsStretch runs → IsNumber (length runs)
      → AllByRecursion IsPrint prints → IsNumber (length prints)
      → text ≡ claim_title ++ (image_text image ++ (runs_text runs ++ (prints_text prints ++ rest)))
      → IsFaultInList IsMemoryWord word_line (codes "memory") (behind_image image + 2 + length runs + length prints) rest fault → IsClaimFault text fault
  end_of_claim : (lines : ClaimLines) → (rest : List ℕ) → AreClaimLines lines
      → text ≡ claim_title ++ (image_text lines.image ++ (runs_text lines.runs ++ (prints_text lines.prints ++ (memory_text lines.memory ++ rest))))
      → IsFaultAtEnd (behind_image lines.image + 3 + length lines.runs + length lines.prints + length lines.memory) rest fault → IsClaimFault text fault
