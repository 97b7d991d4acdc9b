-- Parts whose words are of 32 bits: nothing else that an image says is bound by its type alone.
use Rattle.std.specs.Prelude.{ℕ, ◌<◌, ◌^◌}
use Rattle.std.specs.List.{AllByRecursion}
use Rattle.alw_num.specs.declared.addresses.Line.{Line}
use Rattle.alw_num.specs.declared.addresses.LineNo.{LineNo}
use Rattle.alw_image.specs.declared.parts.Parts.{Parts}

abbrev pub IsWord : ℕ → Type 0
IsWord n = n < 2 ^ 32

-- the four words of a data line
abbrev pub HasFourWords : LineNo × Line → Type 0
HasFourWords entry = IsWord entry.1.a × (IsWord entry.1.b × (IsWord entry.1.c × IsWord entry.1.d))

-- the program's words, and those of the data lines
pub record HasWords (p : Parts) : Type 0 where
  pub code : AllByRecursion IsWord p.code
  pub bodies : AllByRecursion HasFourWords p.bodies
