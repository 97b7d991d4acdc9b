-- What a text of a trace or a claim is read as: what it says, or the deciding fault. A line's form comes before the image, and the image
-- before what is out of range.
use Rattle.std.specs.Prelude.{◌≡◌, ◌≢◌, ℕ, ◌+◌, ◌*◌, ◌%◌, ◌^◌, ◌<◌, ◌≤◌, ◌==◌, ◌&&◌, Bool, true, not, nat_le, nat_lt, Option, None, Some, Result, Ok, Err, List, [], ◌∷◌, ◌++◌, length, map, ⊤}
use Rattle.std.specs.List.{AllByRecursion, list_any}
use Rattle.std.specs.List.Sorted.{IsStrictlyIncreasing}
use Rattle.alw_num.specs.Limits.{shared_base}
use Rattle.alw_msg.specs.declared.events.Event.{Event}
use Rattle.alw_msg.specs.declared.events.Event.TheVariants.{Instr, Handle, Deliver, Evict}
use Rattle.alw_msg.specs.declared.events.Entry.{Entry}
use Rattle.alw_image.specs.declared.parts.Parts.{Parts}
use Rattle.alw_image.specs.declared.faults.ImageErr.{ImageErr}
use Rattle.alw_image.specs.Images.{IsImage, node_count, context_count, line_count}
use Rattle.alw_image.specs.Numbers.{IsWord, HasWords}
use Rattle.alw_image.specs.Parameters.{Parameters, AreParameters, may_point, set_counts, most_limit}
use Rattle.alw_image.specs.Faults.{image_fault, image_in, first_unfit, is_above, is_within}
use Rattle.alw_trace.specs.declared.values.Trace.{Trace}
use Rattle.alw_trace.specs.declared.values.Claim.{Claim}
use Rattle.alw_trace.specs.declared.faults.TextErr.{TextErr}
use Rattle.alw_trace.specs.declared.faults.TextErr.TheVariants.{Syntax, Image, Range, NoMemory}
use Rattle.alw_trace.specs.Texts.{trace_text, claim_text}
use Rattle.alw_trace.specs.Lines.{TraceLines, AreTraceLines, trace_lines, ClaimLines, AreClaimLines, claim_lines, behind_image, IsTraceFault, IsClaimFault}

-- ---- what is in range

-- nodes that there are, and a set that a cache has
abbrev pub fits_event : ℕ → ℕ → Event → Bool
fits_event nodes sets (Instr node) = nat_lt node.0 nodes
fits_event nodes sets (Handle node) = nat_lt node.0 nodes
fits_event nodes sets (Deliver from to) = nat_lt from.0 nodes && nat_lt to.0 nodes
fits_event nodes sets (Evict node set) = nat_lt node.0 nodes && nat_lt set sets

-- and a stamp above 0, of 32 bits
abbrev pub fits_entry : ℕ → ℕ → Entry → Bool
fits_entry nodes sets entry = is_within 1 4294967295 entry.stamp && fits_event nodes sets entry.event

-- parameters of a machine of so many nodes
abbrev pub are_parameters : ℕ → Parameters → Bool
are_parameters nodes p = may_point nodes p.pointers && (list_any (λ n. p.sets == n) set_counts && is_within 1 most_limit p.limit)

-- a list of which the number of members has 32 bits
abbrev pub is_short : {X : Type 0} → List X → Bool
is_short members = nat_le (length members) 4294967295

-- ---- lines, each by its number, and whether its numbers are in range

-- lines from a number on
abbrev pub tested : {X : Type 0} → (X → Bool) → ℕ → List X → List (ℕ × Bool)
tested fits line [] = []
tested fits line (x ∷ rest) = (line, fits x) ∷ tested fits (line + 1) rest

-- of a trace of a machine of so many nodes
unfoldable pub trace_tests : ℕ → TraceLines → List (ℕ × Bool)
trace_tests nodes t =
    let at = behind_image t.image in
    (at, are_parameters nodes t.params) ∷ (at + 1, is_short t.journal) ∷ tested (fits_entry nodes t.params.sets) (at + 2) t.journal

-- a claim has at most so many turns
abbrev pub most_turns : ℕ
most_turns = 8388608

abbrev pub is_other : Option ℕ → ℕ → Bool
is_other None context = true
is_other (Some before) context = not (context == before)

-- a run of a context that there is, and not of the one before; it has a turn, and with those before it not too many
abbrev pub fits_run : ℕ → ℕ → Option ℕ → ℕ × ℕ → Bool
fits_run contexts turns before run =
    nat_lt run.0 contexts && (is_other before run.0 && (nat_le 1 run.1 && nat_le (turns + run.1) most_turns))

abbrev pub run_tests : ℕ → ℕ → ℕ → Option ℕ → List (ℕ × ℕ) → List (ℕ × Bool)
run_tests contexts line turns before [] = []
run_tests contexts line turns before (run ∷ rest) =
    (line, fits_run contexts turns before run) ∷ run_tests contexts (line + 1) (turns + run.1) (Some run.0) rest

-- the runs behind their heading, which has this number
abbrev pub runs_tests : ℕ → ℕ → List (ℕ × ℕ) → List (ℕ × Bool)
runs_tests contexts at runs = (at, is_short runs) ∷ run_tests contexts (at + 1) 0 None runs

-- a print of a context that there is
abbrev pub fits_print : ℕ → ℕ × ℕ → Bool
fits_print contexts print = nat_lt print.0 contexts

-- the address of a word of so many lines of shared data
abbrev pub is_shared : ℕ → ℕ → Bool
is_shared lines address = (address % 4 == 0) && (nat_le shared_base address && nat_lt address (shared_base + 16 * lines))

-- a word of shared data that isn't 0, above the one before
abbrev pub fits_word : ℕ → Option ℕ → ℕ × ℕ → Bool
fits_word lines before word = is_above before word.0 && (is_shared lines word.0 && not (word.1 == 0))

abbrev pub word_tests : ℕ → ℕ → Option ℕ → List (ℕ × ℕ) → List (ℕ × Bool)
word_tests lines line before [] = []
word_tests lines line before (word ∷ rest) = (line, fits_word lines before word) ∷ word_tests lines (line + 1) (Some word.0) rest

-- the prints and the words behind theirs
abbrev pub prints_tests : ℕ → ℕ → List (ℕ × ℕ) → List (ℕ × Bool)
prints_tests contexts at prints = (at, is_short prints) ∷ tested (fits_print contexts) (at + 1) prints

abbrev pub memory_tests : ℕ → ℕ → List (ℕ × ℕ) → List (ℕ × Bool)
memory_tests lines at memory = (at, is_short memory) ∷ word_tests lines (at + 1) None memory

-- of a claim of an image
unfoldable pub claim_tests : Parts → ClaimLines → List (ℕ × Bool)
claim_tests image c =
    let runs = behind_image c.image in
    let prints = runs + 1 + length c.runs in
    let memory = prints + 1 + length c.prints in
    runs_tests (context_count image) runs c.runs
    ++ (prints_tests (context_count image) prints c.prints ++ memory_tests (line_count image) memory c.memory)

-- ---- traces and claims

-- an event of nodes that there are, and of a set that a cache has
abbrev pub IsOfMachine : ℕ → ℕ → Event → Type 0
IsOfMachine nodes sets (Instr node) = node.0 < nodes
IsOfMachine nodes sets (Handle node) = node.0 < nodes
IsOfMachine nodes sets (Deliver from to) = (from.0 < nodes) × (to.0 < nodes)
IsOfMachine nodes sets (Evict node set) = (node.0 < nodes) × (set < sets)

abbrev pub EntryIsStamped : ℕ → ℕ → Entry → Type 0
EntryIsStamped nodes sets entry = (1 ≤ entry.stamp) × ((entry.stamp < 2 ^ 32) × IsOfMachine nodes sets entry.event)

-- what a trace can be: its journal speaks of the image's machine
pub record IsTrace (trace : Trace) : Type 0 where
  pub image : IsImage trace.image
  pub params : AreParameters trace.params
  pub points : may_point (node_count trace.image) trace.params.pointers ≡ true
  pub evict : trace.params.evict ≡ 0
  pub journal : AllByRecursion (EntryIsStamped (node_count trace.image) trace.params.sets) trace.journal

-- the same trace, as its text says it
abbrev pub without_evict : Trace → Trace
without_evict trace = record {
  image = trace.image;
  params = record { pointers = trace.params.pointers; sets = trace.params.sets; limit = trace.params.limit; evict = 0 };
  journal = trace.journal;
}

-- what a trace is by its type: its program and data are of 32-bit words, and it has fewer than 2^32 entries
abbrev pub HasTraceTypes : Trace → Type 0
HasTraceTypes trace = HasWords trace.image × (length trace.journal < 2 ^ 32)

-- the address of a word of an image's shared data
abbrev pub IsSharedAddress : Parts → ℕ → Type 0
IsSharedAddress parts address = (address % 4 ≡ 0) × (shared_base ≤ address) × (address < shared_base + 16 * line_count parts)

-- what a claim can be: it speaks of the image's contexts, and of words that aren't 0, by address
pub record IsClaim (claim : Claim) : Type 0 where
  pub image : IsImage claim.image
  pub turns : AllByRecursion (λ context. context < context_count claim.image) claim.turns
  pub turn_count : length claim.turns ≤ most_turns
  pub prints : AllByRecursion (λ print. print.0 < context_count claim.image) claim.prints
  pub memory : AllByRecursion (λ word. IsSharedAddress claim.image word.0 × (word.1 ≢ 0)) claim.memory
  pub ascends : IsStrictlyIncreasing (map (λ word. word.0) claim.memory)

-- what a claim is by its type: its words are of 32 bits, and its lists have fewer than 2^32 members
pub record HasClaimTypes (claim : Claim) : Type 0 where
  pub words : HasWords claim.image
  pub printed : AllByRecursion (λ print. IsWord print.1) claim.prints
  pub print_count : length claim.prints < 2 ^ 32
  pub stored : AllByRecursion (λ word. IsWord word.1) claim.memory
  pub word_count : length claim.memory < 2 ^ 32

-- ---- readings

-- a text of a trace's form whose bytes have this fault, or none
pub record SaysTrace (text : List ℕ) (lines : TraceLines) (fault : Option ImageErr) : Type 0 where
  pub form : AreTraceLines lines
  pub text_is : text ≡ trace_lines lines
  pub image : image_fault lines.image ≡ fault

pub record SaysClaim (text : List ℕ) (lines : ClaimLines) (fault : Option ImageErr) : Type 0 where
  pub form : AreClaimLines lines
  pub text_is : text ≡ claim_lines lines
  pub image : image_fault lines.image ≡ fault

-- a text read as a trace: each answer with its cause, but for want of memory
abbrev pub ReadsTrace : List ℕ → Result Trace TextErr → Type 0
ReadsTrace text (Ok trace) = (text ≡ trace_text trace) × IsTrace trace
ReadsTrace text (Err (Syntax line)) = IsTraceFault text line
ReadsTrace text (Err (Image fault)) = (lines : TraceLines) × SaysTrace text lines (Some fault)
ReadsTrace text (Err (Range line)) =
    (lines : TraceLines) × SaysTrace text lines None × (first_unfit (trace_tests (node_count (image_in lines.image)) lines) ≡ Some line)
ReadsTrace text (Err NoMemory) = ⊤

-- a text read as a claim
abbrev pub ReadsClaim : List ℕ → Result Claim TextErr → Type 0
ReadsClaim text (Ok claim) = (text ≡ claim_text claim) × IsClaim claim
ReadsClaim text (Err (Syntax line)) = IsClaimFault text line
ReadsClaim text (Err (Image fault)) = (lines : ClaimLines) × SaysClaim text lines (Some fault)
ReadsClaim text (Err (Range line)) =
    (lines : ClaimLines) × SaysClaim text lines None × (first_unfit (claim_tests (image_in lines.image) lines) ≡ Some line)
ReadsClaim text (Err NoMemory) = ⊤
