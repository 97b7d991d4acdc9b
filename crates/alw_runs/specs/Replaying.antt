-- The command `replay`.
use Rattle.std.specs.Prelude.{◌≡◌, ◌≢◌, ℕ, ◌≤◌, true, None, List, Result, Ok, Err}
use Rattle.alw_msg.specs.declared.events.Entry.{Entry}
use Rattle.alw_image.specs.declared.parts.Parts.{Parts}
use Rattle.alw_image.specs.Images.{IsImage, node_count}
use Rattle.alw_image.specs.Numbers.{HasWords}
use Rattle.alw_image.specs.Parameters.{Parameters, AreParameters, may_point}
use Rattle.alw_model.specs.declared.ends.Ended.{Ended}
use Rattle.alw_model.specs.Ends.{IsEnd}
use Rattle.alw_model.specs.Headline.{IsCoherentRun}
use Rattle.alw_model.specs.Machine.{IsLegal, state, end_of}
use Rattle.alw_mesh.specs.Histories.{History, begun, stamps_of}
use Rattle.alw_mesh.specs.Limits.{most_steps}
use Rattle.alw_replay.specs.Replays as replays
use Rattle.alw_report.specs.Reports.{report_of}
use Rattle.alw_trace.specs.declared.values.Trace.{Trace}
use Rattle.alw_trace.specs.declared.faults.TextErr.TheVariants as text
use Rattle.alw_trace.specs.Texts.{trace_text}
use Rattle.alw_trace.specs.Readings.{IsTrace, HasTraceTypes, ReadsTrace}
use Rattle.alw_config.specs.declared.commands.Form.{Form}
use Rattle.alw_answers.specs.declared.answers.InputErr.{InputErr}
use Rattle.alw_answers.specs.declared.answers.InputErr.TheVariants as reason
use Rattle.alw_answers.specs.declared.outputs.Output.{Output}
use Rattle.alw_answers.specs.declared.outputs.Refusal.{Refusal}
use Rattle.alw_answers.specs.declared.outputs.Refusal.TheVariants as refusal
use Rattle.alw_answers.specs.Outputs.{ending_of, is_run}
use Rattle.alw_runs.specs.Forms.{TextOf, IsToldBy, IsTooMuch, run_text}
use Rattle.alw_answers.specs.Tasks.{Task}

-- ---- the trace that bytes spell

-- the bytes are the text of a trace, which is the only one of this text
pub record Spells (bytes : List ℕ) (trace : Trace) : Type 0 where
  pub text : bytes ≡ trace_text trace
  pub is : IsTrace trace
  pub types : HasTraceTypes trace

-- the bytes are the text of a trace of which this holds
pub record IsTraceThat (Holds : Trace → Type 0) (bytes : List ℕ) : Type 0 where
  pub trace : Trace
  pub spelled : Spells bytes trace
  pub holds : Holds trace

-- the trace fits: nodes times the limit are no more than the most
abbrev pub IsFit : ℕ → Trace → Type 0
IsFit most trace = stamps_of trace.image trace.params ≤ most

-- an entry is the first that isn't legal
abbrev pub IsFirstIllegal : Trace → ℕ → Type 0
IsFirstIllegal trace k = replays.IsFirstIllegal trace.image trace.params trace.journal k

-- all entries are legal, and no end holds after the last
pub record IsUnfinished (trace : Trace) : Type 0 where
  pub legal : IsLegal trace.image trace.params trace.journal
  pub going : end_of trace.image trace.params (state trace.image trace.params trace.journal) ≡ None

-- all entries of a trace that fits are legal, and an end holds after the last
pub record IsFinishedTrace (most : ℕ) (trace : Trace) : Type 0 where
  pub fits : IsFit most trace
  pub legal : IsLegal trace.image trace.params trace.journal
  pub ended : end_of trace.image trace.params (state trace.image trace.params trace.journal) ≢ None

-- why a trace isn't taken again
abbrev pub IsNotTaken : ℕ → Trace → InputErr → Type 0
IsNotTaken most trace (reason.LimitDoesNotFit number above) = IsTooMuch most trace.image trace.params number above
IsNotTaken most trace (reason.NotLegal k) = IsFit most trace × IsFirstIllegal trace k
IsNotTaken most trace reason.Unfinished = IsFit most trace × IsUnfinished trace
IsNotTaken most trace _ = ⊥

-- the end that holds after a trace's entries, of which a machine has taken so many: all of them; or why there is none
abbrev pub EndsTrace : ℕ → Trace → History → Result Ended Refusal → Type 0
EndsTrace most trace machine (Ok ended) =
    (machine ≡ record (begun trace.image trace.params) { journal = trace.journal }) × IsEnd machine.image machine.parameters machine.journal ended
EndsTrace most trace machine (Err (refusal.Fault fault)) = IsNotTaken most trace fault
EndsTrace most trace machine (Err refusal.NoMemory) = ⊥

-- ---- the command

-- the bytes are the text of a trace, whose journal was answered, and the text is this one of its run
pub record TakesAgain (most : ℕ) (text_of : TextOf) (bytes : List ℕ) (output : Output) : Type 0 where
  pub trace : Trace
  pub spelled : Spells bytes trace
  pub same : output.journal ≡ trace.journal
  pub told : IsToldBy most text_of trace.image trace.params output
  pub merged : output.merged ≡ 0

abbrev pub Replays : Form → List ℕ → Output → Type 0
Replays form bytes output = TakesAgain most_steps (run_text form) bytes output

-- the bytes are no trace, or one that isn't taken again
abbrev pub IsNoReplay : ℕ → List ℕ → InputErr → Type 0
IsNoReplay most bytes (reason.Text fault) = (fault ≢ text.NoMemory) × ReadsTrace bytes (Err fault)
IsNoReplay most bytes fault = IsTraceThat (λ trace. IsNotTaken most trace fault) bytes

-- the bytes spell a trace which is finished
abbrev pub IsFinishedText : ℕ → List ℕ → Type 0
IsFinishedText most bytes = IsTraceThat (IsFinishedTrace most) bytes

abbrev pub replay_task : Form → Task
replay_task form = record { reads = true; Makes = Replays form; Refuses = IsNoReplay most_steps; Accepts = IsFinishedText most_steps; is_done = is_run }

-- ---- the trace of a run

abbrev pub trace_of : Parts → Parameters → List Entry → Trace
trace_of image parameters journal = record { image = image; params = parameters; journal = journal }

-- a coherent run of an image that fits, whose words are of 32 bits: what `run` makes of an image that it read
pub record IsRunThatFits (most : ℕ) (image : Parts) (parameters : Parameters) (journal : List Entry) (ended : Ended) : Type 0 where
  pub image_is : IsImage image
  pub words : HasWords image
  pub parameters_are : AreParameters parameters
  pub points : may_point (node_count image) parameters.pointers ≡ true
  pub fits : stamps_of image parameters ≤ most
  pub run : IsCoherentRun image parameters journal ended

-- an output that tells the same as this run does, by a text of it
pub record TellsTheSame (text_of : TextOf) (image : Parts) (parameters : Parameters) (journal : List Entry) (ended : Ended) (output : Output) : Type 0 where
  pub same : output.journal ≡ journal
  pub end : output.ending ≡ ending_of ended
  pub text : output.text ≡ text_of image parameters journal ended

-- an output that tells the same as another
pub record TellsAgain (output again : Output) : Type 0 where
  pub same : again.journal ≡ output.journal
  pub end : again.ending ≡ output.ending
  pub text : again.text ≡ output.text

-- by its report
abbrev pub ReportsTheSame : Parts → Parameters → List Entry → Ended → Output → Type 0
ReportsTheSame image parameters journal ended output = TellsTheSame report_of image parameters journal ended output
