-- The parameters of a run, each with its range.
use Rattle.std.specs.Prelude.{ℕ, ◌≤◌, nat_le, Bool, cond, ◌||◌, ◌&&◌, IsTrue, List, [], ◌∷◌, ◌==◌}
use Rattle.std.specs.List.{list_any}

-- hardware pointers of an entry, sets of a cache, the greatest stamp, and evictions tried of 256 draws
pub record Parameters : Type 0 where
  pub pointers : ℕ
  pub sets : ℕ
  pub limit : ℕ
  pub evict : ℕ

-- the most hardware pointers of an entry that isn't a full map, the most of any entry, and the greatest stamp that a limit may be
abbrev pub few_pointers : ℕ
few_pointers = 8

abbrev pub most_pointers : ℕ
most_pointers = 256

abbrev pub most_limit : ℕ
most_limit = 1048576

-- the powers of two from 4 to 4096
abbrev pub set_counts : List ℕ
set_counts = 4 ∷ 8 ∷ 16 ∷ 32 ∷ 64 ∷ 128 ∷ 256 ∷ 512 ∷ 1024 ∷ 2048 ∷ 4096 ∷ []

-- each is within its range
pub record AreParameters (p : Parameters) : Type 0 where
  pub some_pointer : 1 ≤ p.pointers
  pub pointers : p.pointers ≤ most_pointers
  pub sets : IsTrue (list_any (λ n. p.sets == n) set_counts)
  pub some_limit : 1 ≤ p.limit
  pub limit : p.limit ≤ most_limit
  pub evict : p.evict ≤ 255

-- as many pointers as an entry may have in a machine of so many nodes: a few, or one for each node
abbrev pub may_point : ℕ → ℕ → Bool
may_point nodes pointers = (nat_le 1 pointers && nat_le pointers few_pointers) || (pointers == nodes)

-- parameters for a machine of so many nodes: where an entry is to have more than a few pointers, it has one for each node
abbrev pub parameters_for : ℕ → Parameters → Parameters
parameters_for nodes p = record p { pointers = cond (nat_le p.pointers few_pointers) p.pointers nodes }
