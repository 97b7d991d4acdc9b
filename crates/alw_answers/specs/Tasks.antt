-- What a command is.
use Rattle.std.specs.Prelude.{◌≡◌, ℕ, Bool, List, []}
use Rattle.alw_msg.specs.declared.events.Entry.{Entry}
use Rattle.alw_answers.specs.declared.answers.Cause.{Cause}
use Rattle.alw_answers.specs.declared.answers.InputErr.{InputErr}
use Rattle.alw_answers.specs.declared.outputs.Output.{Output}

pub record Task : Type 1 where
  pub reads : Bool
  -- of the bytes that it read, none where it reads nothing: the outputs that it makes of them, their faults, and whether it accepts them
  pub Makes : List ℕ → Output → Type 0
  pub Refuses : List ℕ → InputErr → Type 0
  pub Accepts : List ℕ → Type 0
  -- of the cause of an answer: it was carried out
  pub is_done : Cause → Bool

-- no journal was answered
abbrev pub IsNothing : List Entry → ℕ → Type 0
IsNothing journal merged = (journal ≡ []) × (merged ≡ 0)
