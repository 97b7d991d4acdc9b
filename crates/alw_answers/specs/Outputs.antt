-- What a command makes of the bytes that it is handed, and the answer that it is told by.
use Rattle.std.specs.Prelude.{◌≡◌, ℕ, Bool, true, false, List, [], Result, Ok, Err, ⊤}
use Rattle.alw_model.specs.declared.ends.Ended.{Ended}
use Rattle.alw_model.specs.declared.ends.Ended.TheVariants as ended
use Rattle.alw_answers.specs.declared.answers.Cause.{Cause}
use Rattle.alw_answers.specs.declared.answers.Cause.TheVariants as cause
use Rattle.alw_answers.specs.declared.answers.InputErr.{InputErr}
use Rattle.alw_answers.specs.declared.outputs.Ending.{Ending}
use Rattle.alw_answers.specs.declared.outputs.Ending.TheVariants as ending
use Rattle.alw_answers.specs.declared.outputs.Output.{Output}
use Rattle.alw_answers.specs.declared.outputs.Refusal.{Refusal}
use Rattle.alw_answers.specs.declared.outputs.Refusal.TheVariants as refusal

-- what a command's function answers: an output of which this holds, a fault of the bytes of which that holds, or want of memory
abbrev pub Gives : (Output → Type 0) → (InputErr → Type 0) → Result Output Refusal → Type 0
Gives Makes Refuses (Ok output) = Makes output
Gives Makes Refuses (Err (refusal.Fault fault)) = Refuses fault
Gives Makes Refuses (Err refusal.NoMemory) = ⊤

-- a text that is written with no journal
pub record IsText (output : Output) (text : List ℕ) (ending : Ending) : Type 0 where
  pub text_is : output.text ≡ text
  pub ending_is : output.ending ≡ ending
  pub no_journal : output.journal ≡ []
  pub no_merged : output.merged ≡ 0

-- how a run ended
abbrev pub ending_of : Ended → Ending
ending_of ended.Halted = ending.Fine
ending_of (ended.Trapped at) = ending.Trapped at
ending_of (ended.Limit event) = ending.Limit event

-- the cause by which an output is answered that was written whole
abbrev pub cause_of : Ending → Cause
cause_of ending.Fine = cause.Fine
cause_of (ending.Trapped at) = cause.Trapped at
cause_of (ending.Limit event) = cause.Limit event
cause_of (ending.Differs place claimed real) = cause.Differs place claimed real
cause_of ending.MayTrap = cause.MayTrap
cause_of ending.MayNotEnd = cause.MayNotEnd

-- the exit status of a cause
abbrev pub status_of : Cause → ℕ
status_of cause.Fine = 0
status_of (cause.Words e) = 2
status_of (cause.Input fault) = 3
status_of (cause.Trapped at) = 4
status_of (cause.Limit event) = 5
status_of cause.ReadFault = 6
status_of cause.WriteFault = 7
status_of cause.NoMemory = 8
status_of (cause.Differs place claimed real) = 9
status_of cause.MayTrap = 4
status_of cause.MayNotEnd = 5

-- all went well; or a journal was answered up to its end; or a search was
abbrev pub is_fine : Cause → Bool
is_fine cause.Fine = true
is_fine _ = false

abbrev pub is_run : Cause → Bool
is_run cause.Fine = true
is_run (cause.Trapped at) = true
is_run (cause.Limit event) = true
is_run _ = false

abbrev pub is_search : Cause → Bool
is_search cause.Fine = true
is_search cause.MayTrap = true
is_search cause.MayNotEnd = true
is_search _ = false
