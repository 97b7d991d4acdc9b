-- A source or a sink before and after a call: what was taken of the one, and put to the other.
use Rattle.std.specs.Prelude.{◌≡◌, ℕ, ◌<◌, ◌≤◌, Bool, true, false, Option, Some, List, [], length}
use Rattle.std.specs.Io.KnownBytes.{Appends, Consumes, IsAtEnd, Keeps}
use Rattle.alw_io.specs.Outside.{Rose, AppendsPart}
use Rattle.alw_answers.specs.Limits.{most_input}

-- a source or a sink at one moment: the bytes that it tells of its rest or contents, and its fault count
pub record Stream : Type 0 where
  pub known : Option (List ℕ)
  pub faults : ℕ

abbrev pub stream_of : Option (List ℕ) → ℕ → Stream
stream_of known faults = record { known = known; faults = faults }

-- the bytes are the whole rest of a source
abbrev pub ReadsAll : Stream → Stream → List ℕ → Type 0
ReadsAll before after bytes = Consumes before.known after.known bytes × IsAtEnd after.known × (length bytes ≤ most_input)

-- nothing is taken of a source, or put to a sink
abbrev pub Stays : Stream → Stream → Type 0
Stays before after = Keeps before.known after.known

-- what a command is handed: the whole rest of a source, or where it reads nothing, no bytes
abbrev pub IsRead : Bool → Stream → Stream → List ℕ → Type 0
IsRead true before after bytes = ReadsAll before after bytes
IsRead false before after bytes = Stays before after × (bytes ≡ [])

-- some bytes were taken, no more than an input may have; or more than that
pub record TookSome (before after : Stream) : Type 0 where
  pub taken : List ℕ
  pub read : Consumes before.known after.known taken
  pub few : length taken ≤ most_input

pub record TookTooMany (before after : Stream) : Type 0 where
  pub taken : List ℕ
  pub read : Consumes before.known after.known taken
  pub many : most_input < length taken

-- some bytes were taken of a source that is read, and none of another
abbrev pub IsTaken : Bool → Stream → Stream → Type 0
IsTaken true before after = TookSome before after
IsTaken false before after = Stays before after

-- what a command may be handed: no more bytes than an input may have, which are a source's whole rest, or no bytes
abbrev pub IsInput : Bool → Stream → List ℕ → Type 0
IsInput true before bytes = (before.known ≡ Some bytes) × (length bytes ≤ most_input)
IsInput false before bytes = bytes ≡ []

-- a sink gained the whole text, or a front of it, and then its count rose
abbrev pub Gained : Stream → Stream → List ℕ → Type 0
Gained before after text = Appends before.known after.known text

abbrev pub GainedPart : Stream → Stream → List ℕ → Type 0
GainedPart before after text = AppendsPart before.known after.known text × Rose before.faults after.faults

-- the count didn't rise
abbrev pub HadNoFault : Stream → Stream → Type 0
HadNoFault before after = Rose before.faults after.faults → ⊥
