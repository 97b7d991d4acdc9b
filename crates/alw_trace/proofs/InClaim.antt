-- Lists of a claim in range so far.
use Rattle.std.proofs.Common.{◌≡◌, ℕ, ◌+◌, ◌<◌, ◌≤◌, ◌^◌, Option, List, ◌++◌, length}
use Rattle.std.specs.List.{AllByRecursion}
use Rattle.alw_msg.specs.Stretches.{turns_in}
use Rattle.alw_image.specs.Faults.{first_unfit}
use Rattle.alw_trace.specs.Lines.{IsPrint, IsMemoryWord}
use Rattle.alw_trace.specs.Readings.{run_tests, runs_tests, tested, fits_print, prints_tests, word_tests, memory_tests, most_turns}

-- turns of the runs so far; the rest is to come behind the last line
pub record RunsSoFar (contexts at : ℕ) (runs rest : List (ℕ × ℕ)) (turns : List ℕ) (before : Option ℕ) (line : ℕ) : Type 0 where
  pub fits : first_unfit (runs_tests contexts at runs) ≡ first_unfit (run_tests contexts (line + 1) (length turns) before rest)
  pub same : turns_in runs ≡ turns ++ turns_in rest
  pub place : line + length rest ≡ at + length runs
  pub short : length runs < 2 ^ 32
  pub most : length turns ≤ most_turns

pub record PrintsSoFar (contexts at : ℕ) (lines rest prints : List (ℕ × ℕ)) (line : ℕ) : Type 0 where
  pub fits : first_unfit (prints_tests contexts at lines) ≡ first_unfit (tested (fits_print contexts) (line + 1) rest)
  pub same : lines ≡ prints ++ rest
  pub words : AllByRecursion IsPrint rest
  pub place : line + length rest ≡ at + length lines
  pub short : length lines < 2 ^ 32

pub record WordsSoFar (shared at : ℕ) (lines rest words : List (ℕ × ℕ)) (before : Option ℕ) (line : ℕ) : Type 0 where
  pub fits : first_unfit (memory_tests shared at lines) ≡ first_unfit (word_tests shared (line + 1) before rest)
  pub same : lines ≡ words ++ rest
  pub words_are : AllByRecursion IsMemoryWord rest
  pub place : line + length rest ≡ at + length lines
  pub short : length lines < 2 ^ 32
