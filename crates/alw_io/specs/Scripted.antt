-- What a source and a sink in memory keep: their bytes, the plan of their answers, and two counts.
use Rattle.std.specs.Prelude.{◌≡◌, ℕ, ◌<◌, List, [], length, min}

-- a source in memory: the bytes that it has left, the most bytes that a call moves, the numbers of the calls
-- that fail, how many calls were made, and how many failed; both counts stay at their last value
pub record SourceState : Type 0 where
  pub rest : List ℕ
  pub most : ℕ
  pub fails : List ℕ
  pub calls : ℕ
  pub faults : ℕ

-- a sink in memory: the bytes that it holds, how many it can hold, and the rest as in a source
pub record SinkState : Type 0 where
  pub held : List ℕ
  pub room : ℕ
  pub most : ℕ
  pub fails : List ℕ
  pub calls : ℕ
  pub faults : ℕ

-- a source before its first call
abbrev pub starting_source : List ℕ → ℕ → List ℕ → SourceState
starting_source bytes most fails = record { rest = bytes; most = most; fails = fails; calls = 0; faults = 0 }

-- a sink before its first call
abbrev pub starting_sink : ℕ → ℕ → List ℕ → SinkState
starting_sink room most fails = record { held = []; room = room; most = most; fails = fails; calls = 0; faults = 0 }

-- the least of three numbers
abbrev pub least : ℕ → ℕ → ℕ → ℕ
least a b c = min (min a b) c

-- a sink has no room left for a piece that isn't empty
abbrev pub IsFullFor : SinkState → List ℕ → Type 0
IsFullFor s piece = (length s.held ≡ s.room) × (0 < length piece)
