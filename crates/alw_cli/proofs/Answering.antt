-- How what a command's function answers, and what is read and written for it, is an answer.
use Rattle.std.proofs.Common.{◌≡◌, ℕ, Bool, true, false, List, Option, Some, None, Ok, refl, sym, subst, inl, inr}
use Rattle.std.specs.Prelude.{Result, Err}
use Rattle.std.specs.Io.KnownBytes.{Keeps}
use Rattle.alw_msg.specs.declared.events.Entry.{Entry}
use Rattle.alw_answers.specs.declared.answers.Cause.{Cause}
use Rattle.alw_answers.specs.declared.answers.Cause.TheVariants as cause
use Rattle.alw_answers.specs.declared.answers.InputErr.TheVariants as reason
use Rattle.alw_answers.specs.declared.outputs.Ending.{Ending}
use Rattle.alw_answers.specs.declared.outputs.Ending.TheVariants as ending
use Rattle.alw_answers.specs.declared.outputs.Output.{Output}
use Rattle.alw_answers.specs.declared.outputs.Refusal.{Refusal}
use Rattle.alw_answers.specs.declared.outputs.Refusal.TheVariants as refusal
use Rattle.alw_answers.specs.Outputs.{Gives, cause_of}
use Rattle.alw_cli.specs.Streams.{Stream, IsRead, IsTaken, Gained}
use Rattle.alw_config.specs.declared.commands.Asked.{Asked}
use Rattle.alw_config.specs.Places.{AskFor}
use Rattle.alw_cli.specs.Answers.{task_for, Answers}
use Rattle.alw_answers.specs.Tasks.{Task}
use Rattle.alw_cli.specs.Answered.{Outputs, Answered, Writes, Puts}

-- a stream that nothing is done to
pub keeps : (known : Option (List ℕ)) → Keeps known known
keeps None = tt
keeps (Some bytes) = refl

-- what was handed out was taken
taken : (reads : Bool) (input input' : Stream) (bytes : List ℕ) → IsRead reads input input' bytes → IsTaken reads input input'
taken true input input' bytes read = record { taken = bytes; read = read.0; few = read.2 }
taken false input input' bytes read = read.0

-- by the end of what was made
by_end : (task : Task) (input input' out out' : Stream) (journal : List Entry) (merged : ℕ) (end : Ending) →
    Outputs task input input' journal merged (λ e text. (cause_of end ≡ cause_of e) × Gained out out' text) → Answered task input input' out out' (cause_of end) journal merged
by_end task input input' out out' journal merged ending.Fine made = made
by_end task input input' out out' journal merged (ending.Trapped at) made = made
by_end task input input' out out' journal merged (ending.Limit event) made = made
by_end task input input' out out' journal merged (ending.Differs place claimed real) made = made
by_end task input input' out out' journal merged ending.MayTrap made = made
by_end task input input' out out' journal merged ending.MayNotEnd made = made

module _ (task : Task) (input input' out out' : Stream) (bytes : List ℕ) (read : IsRead task.reads input input' bytes) where
  wrote : (output : Output) → task.Makes bytes output → (c : Cause) (journal : List Entry) (merged : ℕ) → journal ≡ output.journal → merged ≡ output.merged →
      Writes output out out' c → Answered task input input' out out' c journal merged
  wrote output makes c journal merged same as_many (inl whole) =
      subst (λ (x : Cause). Answered task input input' out out' x journal merged) (sym whole.0) (by_end task input input' out out' journal merged output.ending
      (record { output = output; reads = record { bytes = bytes; read = read; holds = makes }; journal_is = same; merged_is = as_many; written = (refl, whole.1) }))
  wrote output makes c journal merged same as_many (inr part) =
      subst (λ (x : Cause). Answered task input input' out out' x journal merged) (sym part.0)
      (record { output = output; reads = record { bytes = bytes; read = read; holds = makes }; journal_is = same; merged_is = as_many; written = part.1 })

  -- what was made of the bytes was written, and else nothing
  pub put : (made : Result Output Refusal) → Gives (task.Makes bytes) (task.Refuses bytes) made → (c : Cause) (journal : List Entry) (merged : ℕ) →
      Puts made out out' c journal merged → Answered task input input' out out' c journal merged
  put (Ok output) gives c journal merged puts = wrote output gives c journal merged puts.0 puts.1 puts.2
  put (Err refusal.NoMemory) gives c journal merged puts =
      subst (λ (x : Cause). Answered task input input' out out' x journal merged) (sym puts.0) (puts.1, puts.2, taken task.reads input input' bytes read)
  put (Err (refusal.Fault fault)) gives c journal merged puts =
      subst (λ (x : Cause). Answered task input input' out out' x journal merged) (sym puts.0)
      (puts.1, puts.2, inl (record { bytes = bytes; read = read; holds = gives }))

-- what is answered to what the words ask for is an answer
pub answers_to : (words : List (List ℕ)) (it : Asked) → AskFor words it → (input input' out out' : Stream) (c : Cause) (journal : List Entry) (merged : ℕ) →
    Answered (task_for it) input input' out out' c journal merged → Answers words input input' out out' c journal merged
answers_to words it asked input input' out out' (cause.Words e) journal merged answer = absurd answer
answers_to words it asked input input' out out' c journal merged answer = record { it = it; asked = asked; answer = answer }
