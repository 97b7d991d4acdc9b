-- A list with room for more members, which is taken before they come.
use Rattle.std.specs.Prelude.{ℕ, List}

-- the members so far, and for how many more there is room
pub record Roomed (X : Type 0) : Type 0 where
  pub list : List X
  pub room : ℕ
