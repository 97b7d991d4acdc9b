-- How a source is cut into tokens: line by line, each line up to its comment, from the left, each token as long as it can be.
use Rattle.std.specs.Prelude.{◌≡◌, ℕ, zero, suc, ◌+◌, ◌-◌, ◌==◌, ◌&&◌, Bool, not, if◌then◌else◌, min, nat_le, List, [], ◌∷◌, ◌++◌, length, take, drop, Option, Some, None, Result, Ok, Err, ⊤}
use Rattle.std.specs.Option.{option_map}
use Rattle.std.specs.List.{prefix_len, list_all, before_first}
use Rattle.alw_text.specs.Lines.{lines_of}
use Rattle.sparc_lex.specs.declared.characters.Class.{Class}
use Rattle.sparc_lex.specs.declared.characters.Class.TheVariants.{Blank, Letter, Digit, Hexadecimal, LetterOrDigit, NamePart}
use Rattle.sparc_lex.specs.declared.kinds.Token.{Token}
use Rattle.sparc_lex.specs.declared.kinds.TokenKind.{TokenKind}
use Rattle.sparc_lex.specs.declared.kinds.TokenKind.TheVariants.{Word, Dot, Number, Percent, Mark}
use Rattle.sparc_lex.specs.declared.kinds.LexErr.{LexErr}
use Rattle.sparc_lex.specs.declared.kinds.LexErr.TheVariants.{Syntax, NoMemory}
use Rattle.sparc_lex.specs.Characters.{is_of, begins_name, is_mark, is_allowed}

-- ---- the token at the front

-- how many bytes at the front are of a class
abbrev pub run_of : Class → List ℕ → ℕ
run_of class bytes = prefix_len (is_of class) bytes

-- behind a `0`: how many hexadecimal digits a number has behind its `x`, at most 8
abbrev pub hex_run : List ℕ → ℕ
hex_run [] = 0
hex_run (byte ∷ rest) = if byte == 120 then min (run_of Hexadecimal rest) 8 else 0

-- the length of a number with this first digit: `0x` and hexadecimal digits, or decimal digits
abbrev pub number_length : ℕ → List ℕ → ℕ
number_length first rest = if first == 48 && not (hex_run rest == 0) then 2 + hex_run rest else 1 + run_of Digit rest

-- `.` with letters behind it, or alone
abbrev pub dotted : ℕ → TokenKind × ℕ
dotted letters = if letters == 0 then (Dot, 1) else (Word, 1 + letters)

-- `%` with letters or digits behind it
abbrev pub percented : ℕ → Option (TokenKind × ℕ)
percented letters = if letters == 0 then None else Some (Percent, 1 + letters)

-- the kind and the length of the token that begins with a byte, and goes on in the bytes behind it: None where none begins
abbrev pub token_from : ℕ → List ℕ → Option (TokenKind × ℕ)
token_from first rest =
    if begins_name first then Some (Word, 1 + run_of NamePart rest) else (
    if first == 46 then Some (dotted (run_of Letter rest)) else (
    if is_of Digit first then Some (Number, number_length first rest) else (
    if first == 37 then percented (run_of LetterOrDigit rest) else (
    if is_mark first then Some (Mark, 1) else None))))

-- ---- a line

-- a token at a place of a line, before those that stand behind it, `next` being the tokens behind a number of bytes
abbrev pub token_before : ℕ → ℕ → Option (TokenKind × ℕ) → (ℕ → Option (List Token)) → Option (List Token)
token_before line at None next = None
token_before line at (Some token) next = option_map (λ tokens. record { line = line; start = at; end = at + token.1; kind = token.0 } ∷ tokens) (next (token.1 - 1))

-- the tokens of bytes that stand at a place of the source, where `inside` of them belong to a token before: None where at some place none begins
abbrev pub cut_from : ℕ → ℕ → ℕ → List ℕ → Option (List Token)
cut_from line at inside [] = Some []
cut_from line at (suc inside) (byte ∷ rest) = cut_from line (at + 1) inside rest
cut_from line at zero (byte ∷ rest) =
    if is_of Blank byte then cut_from line (at + 1) 0 rest
    else token_before line at (token_from byte rest) (λ inside. cut_from line (at + 1) inside rest)

-- a line is short enough and has allowed bytes alone
abbrev pub is_fit : List ℕ → Bool
is_fit bytes = nat_le (length bytes) 1000 && list_all is_allowed bytes

-- a line up to its comment
abbrev pub code_of : List ℕ → List ℕ
code_of bytes = before_first (λ byte. byte == 33) bytes

-- the tokens of a line that stands at a place of the source: None where it can't be cut
unfoldable pub line_tokens : ℕ → ℕ → List ℕ → Option (List Token)
line_tokens line at bytes = if is_fit bytes then cut_from line at 0 (code_of bytes) else None

-- ---- a source

-- the tokens of a line before those of the lines behind it, or the first line that can't be cut
abbrev pub tokens_before : ℕ → Option (List Token) → Result (List Token) LexErr → Result (List Token) LexErr
tokens_before line None behind = Err (Syntax line)
tokens_before line (Some tokens) (Err e) = Err e
tokens_before line (Some tokens) (Ok behind) = Ok (tokens ++ behind)

-- the tokens of lines, the first of which has a number and stands at a place of the source
abbrev pub tokens_of_lines : ℕ → ℕ → List (List ℕ) → Result (List Token) LexErr
tokens_of_lines line at [] = Ok []
tokens_of_lines line at (bytes ∷ rest) = tokens_before line (line_tokens line at bytes) (tokens_of_lines (line + 1) (at + (length bytes + 1)) rest)

-- the tokens of a source, or the first line that can't be cut
unfoldable pub tokens_of : List ℕ → Result (List Token) LexErr
tokens_of source = tokens_of_lines 1 0 (lines_of source)

-- an answer is the wanted one, or memory was refused
abbrev pub Answers : Result (List Token) LexErr → Result (List Token) LexErr → Type 0
Answers wanted (Err NoMemory) = ⊤
Answers wanted (Err (Syntax line)) = wanted ≡ Err (Syntax line)
Answers wanted (Ok tokens) = wanted ≡ Ok tokens

-- a line's tokens were appended, or it is the line that can't be cut, or memory was refused
abbrev pub AppendsLine : ℕ → Option (List Token) → List Token → List Token → Result (Unit {0}) LexErr → Type 0
AppendsLine line wanted old new (Err NoMemory) = ⊤
AppendsLine line wanted old new (Err (Syntax refused)) = (refused ≡ line) × (wanted ≡ None)
AppendsLine line wanted old new (Ok done) = option_map (λ tokens. old ++ tokens) wanted ≡ Some new

-- a line's tokens are those of a list, or it is the line that can't be cut, or memory was refused
abbrev pub LineIsCut : ℕ → Option (List Token) → List Token → Result (Unit {0}) LexErr → Type 0
LineIsCut line wanted list (Err NoMemory) = ⊤
LineIsCut line wanted list (Err (Syntax refused)) = (refused ≡ line) × (wanted ≡ None)
LineIsCut line wanted list (Ok done) = wanted ≡ Some list

-- the text of a token: its slice of the source
abbrev pub text_of : List ℕ → Token → List ℕ
text_of source token = take (token.end - token.start) (drop token.start source)
