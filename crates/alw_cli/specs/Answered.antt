-- What is answered to a command: the text of what it makes is written and its end told, or why it makes nothing.
use Rattle.std.specs.Prelude.{◌≡◌, ℕ, Bool, true, List, ◌⊎◌, Result, Ok, Err}
use Rattle.alw_io.specs.Outside.{Rose}
use Rattle.alw_msg.specs.declared.events.Entry.{Entry}
use Rattle.alw_answers.specs.declared.answers.Cause.{Cause}
use Rattle.alw_answers.specs.declared.answers.Cause.TheVariants as cause
use Rattle.alw_answers.specs.declared.answers.InputErr.TheVariants as reason
use Rattle.alw_answers.specs.declared.outputs.Ending.{Ending}
use Rattle.alw_answers.specs.declared.outputs.Output.{Output}
use Rattle.alw_answers.specs.declared.outputs.Refusal.{Refusal}
use Rattle.alw_answers.specs.declared.outputs.Refusal.TheVariants as refusal
use Rattle.alw_answers.specs.Outputs.{cause_of}
use Rattle.alw_cli.specs.Streams.{Stream, IsRead, IsTaken, Stays, TookSome, TookTooMany, Gained, GainedPart}
use Rattle.alw_answers.specs.Tasks.{Task, IsNothing}

-- these bytes were read, and this holds of them
pub record Reads (task : Task) (input input' : Stream) (Holds : List ℕ → Type 0) : Type 0 where
  pub bytes : List ℕ
  pub read : IsRead task.reads input input' bytes
  pub holds : Holds bytes

-- an output was made of the bytes that were read, and its text was written so; its journal was answered
pub record Outputs (task : Task) (input input' : Stream) (journal : List Entry) (merged : ℕ) (Written : Ending → List ℕ → Type 0) : Type 0 where
  pub output : Output
  pub reads : Reads task input input' (λ bytes. task.Makes bytes output)
  pub journal_is : journal ≡ output.journal
  pub merged_is : merged ≡ output.merged
  pub written : Written output.ending output.text

-- the source and the sink before and after, and what was answered: cause, journal, and how many of its first entries come from workers
abbrev pub Answered : Task → Stream → Stream → Stream → Stream → Cause → List Entry → ℕ → Type 0
Answered task input input' out out' (cause.Words e) journal merged = ⊥
Answered task input input' out out' (cause.Input fault) journal merged =
    IsNothing journal merged × Stays out out'
    × (Reads task input input' (λ bytes. task.Refuses bytes fault) ⊎ ((task.reads ≡ true) × (fault ≡ reason.TooLong) × TookTooMany input input'))
Answered task input input' out out' cause.ReadFault journal merged =
    IsNothing journal merged × Stays out out' × (task.reads ≡ true) × TookSome input input' × Rose input.faults input'.faults
Answered task input input' out out' cause.NoMemory journal merged = IsNothing journal merged × Stays out out' × IsTaken task.reads input input'
Answered task input input' out out' cause.WriteFault journal merged = Outputs task input input' journal merged (λ ending text. GainedPart out out' text)
Answered task input input' out out' answered journal merged =
    Outputs task input input' journal merged (λ ending text. (answered ≡ cause_of ending) × Gained out out' text)

-- ---- what is read and written for it

-- the bytes that it is handed, or why there are none
abbrev pub Hands : Bool → Stream → Stream → Result (List ℕ) Cause → Type 0
Hands reads input input' (Ok bytes) = IsRead reads input input' bytes
Hands reads input input' (Err (cause.Input reason.TooLong)) = (reads ≡ true) × TookTooMany input input'
Hands reads input input' (Err cause.ReadFault) = (reads ≡ true) × TookSome input input' × Rose input.faults input'.faults
Hands reads input input' (Err cause.NoMemory) = IsTaken reads input input'
Hands reads input input' (Err _) = ⊥

-- an output's whole text, or a front of it, before the sink failed
abbrev pub Writes : Output → Stream → Stream → Cause → Type 0
Writes output out out' answered =
    ((answered ≡ cause_of output.ending) × Gained out out' output.text) ⊎ ((answered ≡ cause.WriteFault) × GainedPart out out' output.text)

-- what was made is written, and else nothing
abbrev pub Puts : Result Output Refusal → Stream → Stream → Cause → List Entry → ℕ → Type 0
Puts (Ok output) out out' answered journal merged = (journal ≡ output.journal) × (merged ≡ output.merged) × Writes output out out' answered
Puts (Err refusal.NoMemory) out out' answered journal merged = (answered ≡ cause.NoMemory) × IsNothing journal merged × Stays out out'
Puts (Err (refusal.Fault fault)) out out' answered journal merged = (answered ≡ cause.Input fault) × IsNothing journal merged × Stays out out'
