-- The lines of a text: each ends at an LF (byte 10), or at the end of the text.
use Rattle.std.specs.Prelude.{ℕ, ◌+◌, ◌==◌, Bool, if◌then◌else◌, List, [], ◌∷◌, Option, length, drop, position}
use Rattle.std.specs.Option.{option_map_or}

-- the byte ends a line
abbrev pub is_line_feed : ℕ → Bool
is_line_feed byte = byte == 10

-- how many bytes stand before the first LF from a place on
abbrev pub feed_from : List ℕ → ℕ → Option ℕ
feed_from text from = position is_line_feed (drop from text)

-- the place of that LF, or else the end of the text
abbrev pub line_end : List ℕ → ℕ → ℕ
line_end text from = option_map_or (λ count. from + count) (feed_from text from) (length text)

-- the place behind that LF, or else the end of the text
abbrev pub next_line : List ℕ → ℕ → ℕ
next_line text from = option_map_or (λ count. from + count + 1) (feed_from text from) (length text)

-- a byte more at the front of the first line
abbrev pub longer_line : ℕ → List (List ℕ) → List (List ℕ)
longer_line byte [] = (byte ∷ []) ∷ []
longer_line byte (line ∷ rest) = (byte ∷ line) ∷ rest

-- the lines of a text, without their LFs
abbrev pub lines_of : List ℕ → List (List ℕ)
lines_of [] = []
lines_of (byte ∷ rest) = if is_line_feed byte then [] ∷ lines_of rest else longer_line byte (lines_of rest)
