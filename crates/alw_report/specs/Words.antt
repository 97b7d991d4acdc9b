-- Words of memory that aren't 0.
use Rattle.std.specs.Prelude.{ℕ, ◌==◌, if◌then◌else◌, List, [], ◌∷◌}

-- a word with its address, where it isn't 0
abbrev pub kept : ℕ → ℕ → List (ℕ × ℕ)
kept address word = if word == 0 then [] else (address, word) ∷ []
