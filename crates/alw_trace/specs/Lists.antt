-- The lists of a claim, of which each line says two numbers, as the reader keeps them.
use Rattle.std.specs.Prelude.{◌≡◌, ℕ, ◌<◌, ◌^◌, None, Some, List, ◌++◌, length, codes, ⊤}
use Rattle.std.specs.List.{flat_map, AllByRecursion}
use Rattle.alw_report.specs.Reports.{heading, run_line, print_line, word_line}
use Rattle.alw_trace.specs.declared.pairs.ListKind.{ListKind}
use Rattle.alw_trace.specs.declared.pairs.ListKind.TheVariants.{Runs, Prints, Memory}
use Rattle.alw_trace.specs.declared.raw.RawClaim.{RawClaim}
use Rattle.alw_msg.specs.Stretches.{stretches, turns_in}
use Rattle.alw_image.specs.Faults.{first_unfit, image_fault, image_in}
use Rattle.alw_trace.specs.declared.values.Claim.{Claim}
use Rattle.alw_trace.specs.declared.faults.TextErr.{TextErr}
use Rattle.alw_trace.specs.declared.faults.TextErr.TheVariants.{Syntax, Image, Range, NoMemory}
use Rattle.alw_trace.specs.Readings.{runs_tests, prints_tests, memory_tests, claim_tests, IsClaim}
use Rattle.alw_trace.specs.Raw.{IsImageOf}
use Rattle.alw_trace.specs.Lines.{IsNumber, IsStretch, IsPrint, IsMemoryWord, ClaimLines, AreClaimLines, claim_lines}

abbrev pub name_of : ListKind → List ℕ
name_of Runs = codes "runs"
name_of Prints = codes "prints"
name_of Memory = codes "memory"

abbrev pub line_of : ListKind → ℕ × ℕ → List ℕ
line_of Runs pair = run_line pair
line_of Prints pair = print_line pair
line_of Memory pair = word_line pair

abbrev pub IsLineOf : ListKind → ℕ × ℕ → Type 0
IsLineOf Runs pair = IsStretch pair
IsLineOf Prints pair = IsPrint pair
IsLineOf Memory pair = IsMemoryWord pair

-- a list behind its heading
abbrev pub list_text : ListKind → List (ℕ × ℕ) → List ℕ
list_text kind pairs = heading (name_of kind) (length pairs) ++ flat_map (line_of kind) pairs

-- a list is read, and what follows it
pub record IsListRead (kind : ListKind) (text : List ℕ) (pairs : List (ℕ × ℕ)) (rest : List ℕ) : Type 0 where
  pub each : AllByRecursion (IsLineOf kind) pairs
  pub count : IsNumber (length pairs)
  pub parts : text ≡ list_text kind pairs ++ rest

-- so many of its lines
pub record ArePairsRead (kind : ListKind) (count : ℕ) (text : List ℕ) (pairs : List (ℕ × ℕ)) (rest : List ℕ) : Type 0 where
  pub each : AllByRecursion (IsLineOf kind) pairs
  pub long : length pairs ≡ count
  pub parts : text ≡ flat_map (line_of kind) pairs ++ rest

-- what the lines of a claim say
abbrev pub claim_of : RawClaim → ClaimLines
claim_of c = record { image = c.image; runs = c.runs.items; prints = c.prints.items; memory = c.memory.items }

-- a text of the form of a claim
pub record IsOfClaim (text : List ℕ) (lines : ClaimLines) : Type 0 where
  pub form : AreClaimLines lines
  pub text_is : text ≡ claim_lines lines

-- ---- lists in range, behind a heading of this number

pub record AreTurns (contexts at : ℕ) (runs : List (ℕ × ℕ)) (turns : List ℕ) : Type 0 where
  pub fits : first_unfit (runs_tests contexts at runs) ≡ None
  pub same : turns ≡ turns_in runs
  pub short : length runs < 2 ^ 32

pub record ArePrints (contexts at : ℕ) (lines prints : List (ℕ × ℕ)) : Type 0 where
  pub fits : first_unfit (prints_tests contexts at lines) ≡ None
  pub same : prints ≡ lines
  pub short : length lines < 2 ^ 32

pub record LinesAreWords (shared at : ℕ) (lines words : List (ℕ × ℕ)) : Type 0 where
  pub fits : first_unfit (memory_tests shared at lines) ≡ None
  pub same : words ≡ lines
  pub short : length lines < 2 ^ 32

-- ---- claims

-- the claim of lines that are in range
pub record IsClaimOf (lines : ClaimLines) (claim : Claim) : Type 0 where
  pub image : IsImageOf lines.image claim.image
  pub runs : stretches claim.turns ≡ lines.runs
  pub prints : claim.prints ≡ lines.prints
  pub memory : claim.memory ≡ lines.memory
  pub print_count : length claim.prints < 2 ^ 32
  pub word_count : length claim.memory < 2 ^ 32
  pub is_claim : IsClaim claim

-- what is wrong with lines that are no claim's
abbrev pub IsNoClaim : ClaimLines → TextErr → Type 0
IsNoClaim lines (Syntax line) = ⊥
IsNoClaim lines (Image fault) = image_fault lines.image ≡ Some fault
IsNoClaim lines (Range line) = (image_fault lines.image ≡ None) × (first_unfit (claim_tests (image_in lines.image) lines) ≡ Some line)
IsNoClaim lines NoMemory = ⊤
