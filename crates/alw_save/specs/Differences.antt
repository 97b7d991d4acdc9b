-- The first line at which a text differs from another.
use Rattle.std.specs.Prelude.{◌≡◌, ◌≢◌, ℕ, Option, None, Some, if◌then◌else◌, List, [], ◌∷◌, take, slice_get}
use Rattle.alw_text.specs.Lines.{is_line_feed, longer_line}

-- the lines of a text, each with its LF, which the last one may lack
unfoldable pub ended_lines : List ℕ → List (List ℕ)
ended_lines [] = []
ended_lines (byte ∷ rest) = if is_line_feed byte then (byte ∷ []) ∷ ended_lines rest else longer_line byte (ended_lines rest)

-- so many lines are the same, and the next one isn't, or is there in one of the two alone
pub record DiffersAt (wanted text : List (List ℕ)) (k : ℕ) : Type 0 where
  pub same : take k wanted ≡ take k text
  pub here : slice_get wanted k ≢ slice_get text k

-- the line at which a text differs, counted from 0; None where it is the same text
abbrev pub Differs : List ℕ → List ℕ → Option ℕ → Type 0
Differs wanted text None = text ≡ wanted
Differs wanted text (Some k) = DiffersAt (ended_lines wanted) (ended_lines text) k
