-- Sets of numbers as tests, and as marks.
use Rattle.std.specs.Prelude.{ℕ, zero, suc, ◌+◌, ◌*◌, ◌&&◌, ◌||◌, Bool, false, nat_lt, List, slice_index_or}

-- a number has its mark
abbrev pub is_marked : List Bool → ℕ → Bool
is_marked marks n = slice_index_or marks n false

-- one of the first `count` numbers passes a test
abbrev pub any_below : ℕ → (ℕ → Bool) → Bool
any_below zero test = false
any_below (suc n) test = any_below n test || test n

-- the context with a node and a slot, by a number
abbrev pub is_context_marked : List Bool → ℕ → ℕ → Bool
is_context_marked marks node slot = nat_lt node 65536 && (nat_lt slot 256 && is_marked marks (256 * node + slot))
