-- How long an input may be.
use Rattle.std.specs.Prelude.{ℕ}

-- the most bytes of an input
abbrev pub most_input : ℕ
most_input = 268435456
