-- The lines of a trace between its title and its last line, which stand in a checkpoint too, under another title and with other lines behind them.
use Rattle.std.specs.Prelude.{◌≡◌, ℕ, ◌+◌, ◌<◌, ◌^◌, None, Some, List, ◌++◌, length, ⊤}
use Rattle.alw_msg.specs.declared.events.Entry.{Entry}
use Rattle.alw_image.specs.declared.parts.Parts.{Parts}
use Rattle.alw_image.specs.Images.{node_count, spelling}
use Rattle.alw_image.specs.Parameters.{Parameters}
use Rattle.alw_image.specs.Faults.{first_unfit, image_fault, image_in}
use Rattle.alw_report.specs.Reports.{params_line}
use Rattle.alw_trace.specs.declared.values.Trace.{Trace}
use Rattle.alw_trace.specs.declared.fronts.Front.{Front}
use Rattle.alw_trace.specs.declared.faults.TextErr.{TextErr}
use Rattle.alw_trace.specs.declared.faults.TextErr.TheVariants.{Syntax, Image, Range, NoMemory}
use Rattle.alw_trace.specs.Texts.{image_text, entries_text}
use Rattle.alw_trace.specs.Lines.{TraceLines, behind_image, IsFrontFault, SaysFront}
use Rattle.alw_trace.specs.Readings.{trace_tests, IsTrace, HasTraceTypes}

-- image, parameters and entries
unfoldable pub front_text : Parts → Parameters → List Entry → List ℕ
front_text parts parameters journal = image_text (spelling parts) ++ (params_line parameters ++ entries_text journal)

-- the number of the line behind them
abbrev pub first_behind : Trace → ℕ
first_behind trace = behind_image (spelling trace.image) + 2 + length trace.journal

-- a text has this title, the lines of a trace behind it, and then this rest
pub record IsFrontOf (title text : List ℕ) (trace : Trace) (rest : List ℕ) : Type 0 where
  pub text_is : text ≡ title ++ (front_text trace.image trace.params trace.journal ++ rest)
  pub is : IsTrace trace
  pub types : HasTraceTypes trace

-- lines of this form of which something is wrong
pub record IsWrongFront (title text : List ℕ) (Wrong : TraceLines → Type 0) : Type 0 where
  pub lines : TraceLines
  pub rest : List ℕ
  pub says : SaysFront title text lines rest
  pub wrong : Wrong lines

-- a text with this title has no lines of a trace behind it, for this reason
abbrev pub IsNoFront : List ℕ → List ℕ → TextErr → Type 0
IsNoFront title text (Syntax line) = IsFrontFault title text line
IsNoFront title text (Image fault) = IsWrongFront title text (λ lines. image_fault lines.image ≡ Some fault)
IsNoFront title text (Range line) =
    IsWrongFront title text (λ lines. (image_fault lines.image ≡ None) × (first_unfit (trace_tests (node_count (image_in lines.image)) lines) ≡ Some line))
IsNoFront title text NoMemory = ⊤

-- what is read, and what follows it
pub record IsFrontRead (title text : List ℕ) (front : Front) (rest : List ℕ) : Type 0 where
  pub front_is : IsFrontOf title text front.trace rest
  pub behind_is : front.behind ≡ first_behind front.trace
  pub few : front.behind < 2 ^ 61
