-- The lines of a text, one after another.
use Rattle.std.proofs.Common.{◌≡◌, true, false, Bool, ℕ, suc, ◌+◌, ◌-◌, ◌<◌, ◌≤◌, List, [], ◌∷◌, length, take, drop, refl, ◌∙◌, ⊎_elim, arith, ltb}
use Rattle.std.specs.List.{position_or_len}
use Rattle.std.proofs.lemmas.List.{take_all, drop_all, length-drop, drop-drop}
use Rattle.std.proofs.lemmas.Bool.{cases_lt, lt-ltb, le-ltb}
use Rattle.alw_text.specs.Lines.{is_line_feed, lines_of, line_end, next_line}

abbrev Splits : List ℕ → Type 0
Splits text = lines_of text ≡ take (position_or_len is_line_feed text) text ∷ lines_of (drop (position_or_len is_line_feed text + 1) text)

longer : (byte next : ℕ) (rest : List ℕ) → Splits (next ∷ rest) → Splits (byte ∷ next ∷ rest)
longer byte next rest before = go (is_line_feed byte) refl
  where
    count : ℕ
    count = position_or_len is_line_feed (next ∷ rest)

    front : 1 + count ≡ suc count
    front = omega arith

    behind : 1 + count + 1 ≡ suc (count + 1)
    behind = omega arith

    go : (b : Bool) → is_line_feed byte ≡ b → Splits (byte ∷ next ∷ rest)
    go true e = rw e
    go false e = rw (e, before, behind, front)

-- the first line ends at the first LF, and the others begin behind it
pub lines_of-first : (byte : ℕ) (rest : List ℕ) → lines_of (byte ∷ rest) ≡ take (position_or_len is_line_feed (byte ∷ rest)) (byte ∷ rest) ∷ lines_of (drop (position_or_len is_line_feed (byte ∷ rest) + 1) (byte ∷ rest))
lines_of-first byte [] = go (is_line_feed byte) refl
  where
    go : (b : Bool) → is_line_feed byte ≡ b → Splits (byte ∷ [])
    go true e = rw e
    go false e = rw e
lines_of-first byte (next ∷ rest) = longer byte next rest (lines_of-first next rest)

lines_of-some : (text : List ℕ) → 0 < length text → Splits text
lines_of-some [] some = absurd (omega arith)
lines_of-some (byte ∷ rest) some = lines_of-first byte rest

-- the same of the lines from a place on
pub lines_of-drop : (text : List ℕ) (from : ℕ) → from < length text → lines_of (drop from text) ≡ take (line_end text from - from) (drop from text) ∷ lines_of (drop (next_line text from) text)
lines_of-drop text from l = lines_of-some (drop from text) some ∙ ⊎_elim here past (cases_lt count (length (drop from text)))
  where
    count : ℕ
    count = position_or_len is_line_feed (drop from text)

    some : 0 < length (drop from text)
    some = omega (arith, length-drop from text)

    here : count < length (drop from text) → take count (drop from text) ∷ lines_of (drop (count + 1) (drop from text)) ≡ take (line_end text from - from) (drop from text) ∷ lines_of (drop (next_line text from) text)
    here within =
        let found : ltb count (length (drop from text)) ≡ true = lt-ltb _ _ within in
        let length : from + count - from ≡ count = omega arith in
        let place : from + (count + 1) ≡ from + count + 1 = omega arith in
        rw (found, length, drop-drop (count + 1) from text, place)

    past : length (drop from text) ≤ count → take count (drop from text) ∷ lines_of (drop (count + 1) (drop from text)) ≡ take (line_end text from - from) (drop from text) ∷ lines_of (drop (next_line text from) text)
    past end =
        let none : ltb count (length (drop from text)) ≡ false = le-ltb _ _ end in
        rw (none, take_all count (drop from text) end, take_all (length text - from) (drop from text) (omega (arith, length-drop from text)), drop_all (count + 1) (drop from text) (omega arith), drop_all (length text) text (omega arith))
