-- What the outside does in a call: whether its fault count rose, and how much of the bytes moved.
use Rattle.std.specs.Prelude.{◌≡◌, ℕ, ◌+◌, ◌-◌, ◌^◌, ◌<◌, ◌≤◌, min, List, ◌++◌, length, Ok, Err, OnErr}
use Rattle.std.specs.declared.option.Option.{Option}
use Rattle.std.specs.declared.result.Result.{Result}
use Rattle.std.specs.Io.KnownBytes.{Appends, Consumes, IsAtEnd}
use Rattle.alw_io.specs.declared.whole.ReadErr.{ReadErr}
use Rattle.alw_io.specs.declared.whole.ReadErr.TheVariants as errors

-- a count raised by one, which stays at its last value
abbrev pub raised : ℕ → ℕ
raised count = min (count + 1) (2 ^ 64 - 1)

-- the count is greater after than before, or stands at its last value
abbrev pub Rose : ℕ → ℕ → Type 0
Rose before after = raised before ≤ after

-- over a call the fault count never fell, and it rose where the call failed
pub record HasCause {T E : Type 0} (before after : ℕ) (result : Result T E) : Type 0 where
  pub later : before ≤ after
  pub failed : OnErr result (Rose before after)

-- known contents grew by a front of these bytes, and not by all of them
pub record AppendsPart (before after : Option (List ℕ)) (bytes : List ℕ) : Type 0 where
  pub sent : List ℕ
  pub unsent : List ℕ
  pub parts : bytes ≡ sent ++ unsent
  pub proper : 0 < length unsent
  pub appended : Appends before after sent

-- what an answer says of the bytes that were taken, of which at most so many were wanted
abbrev pub AnswerTells : ℕ → Option (List ℕ) → List ℕ → Result (List ℕ) ReadErr → Type 0
AnswerTells most after taken (Ok bytes) = (bytes ≡ taken) × IsAtEnd after × (length taken ≤ most)
AnswerTells most after taken (Err errors.TooLong) = most < length taken
AnswerTells most after taken (Err errors.Failed) = length taken ≤ most
AnswerTells most after taken (Err errors.NoMemory) = length taken ≤ most

-- some bytes were taken from the front of the rest, and the answer tells the truth of them
pub record Took (most : ℕ) (before after : Option (List ℕ)) (result : Result (List ℕ) ReadErr) : Type 0 where
  pub taken : List ℕ
  pub from_front : Consumes before after taken
  pub told : AnswerTells most after taken result
