-- Sizes of a machine, where a source gives them.
use Rattle.std.specs.Prelude.{ℕ, Option, unwrap_or}

-- a size that no directive gives is 1
abbrev pub size_of : Option ℕ → ℕ
size_of size = unwrap_or size 1
