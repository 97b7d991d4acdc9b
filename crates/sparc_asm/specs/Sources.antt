-- The lines of a source, read one by one.
use Rattle.std.specs.Prelude.{◌≡◌, ℕ, ◌+◌, List, [], ◌∷◌, length, Option, Some, None, Result, Ok, Err, ⊤}
use Rattle.alw_text.specs.Lines.{lines_of}
use Rattle.sparc_lex.specs.Cut.{line_tokens}
use Rattle.sparc_asm.specs.Lexemes.{lexemes_of}
use Rattle.sparc_asm.specs.Statements.{◌>>=◌, spelled_line}
use Rattle.sparc_asm.specs.declared.statements.Line.{Line}
use Rattle.sparc_asm.specs.declared.faults.AsmErr.{AsmErr}
use Rattle.sparc_asm.specs.declared.faults.AsmErr.TheVariants.{Syntax, NoMemory}

-- a line with a number that stands at a place of the source: None where it can't be cut or has no form
unfoldable pub read_line : List ℕ → ℕ → ℕ → List ℕ → Option Line
read_line source number at bytes = line_tokens number at bytes >>= (λ tokens. lexemes_of source tokens >>= spelled_line)

-- a line before those behind it, or Syntax at it
abbrev pub line_before : ℕ → Option Line → Result (List Line) AsmErr → Result (List Line) AsmErr
line_before number None behind = Err (Syntax number)
line_before number (Some line) (Err e) = Err e
line_before number (Some line) (Ok lines) = Ok (line ∷ lines)

-- lines of the source, the first of which has a number and stands at a place
abbrev pub read_from : List ℕ → ℕ → ℕ → List (List ℕ) → Result (List Line) AsmErr
read_from source number at [] = Ok []
read_from source number at (bytes ∷ rest) = line_before number (read_line source number at bytes) (read_from source (number + 1) (at + (length bytes + 1)) rest)

-- all lines of a source, in order, or the first that isn't one
unfoldable pub read_source : List ℕ → Result (List Line) AsmErr
read_source source = read_from source 1 0 (lines_of source)

-- an answer is the wanted one, or memory was refused
abbrev pub AnswersLines : Result (List Line) AsmErr → Result (List Line) AsmErr → Type 0
AnswersLines wanted (Err NoMemory) = ⊤
AnswersLines wanted answer = wanted ≡ answer

abbrev pub AnswersOne : ℕ → Option Line → Result Line AsmErr → Type 0
AnswersOne number wanted (Err NoMemory) = ⊤
AnswersOne number wanted (Err e) = (e ≡ Syntax number) × (wanted ≡ None)
AnswersOne number wanted (Ok line) = wanted ≡ Some line
