-- Draws: numbers drawn one after the other from a state of 64 bits, by a linear congruence (Knuth, The Art of Computer Programming, volume 2, 3.2.1; the constants are those of MMIX).
use Rattle.std.specs.Prelude.{ℕ, zero, suc, ◌+◌, ◌*◌, ◌/◌, ◌%◌, ◌^◌}

-- the state behind a state
abbrev pub drawn : ℕ → ℕ
drawn state = (state * 6364136223846793005 % 2 ^ 64 + 1442695040888963407) % 2 ^ 64

-- the number that is drawn where a state is reached: its high 31 bits
abbrev pub drawn_number : ℕ → ℕ
drawn_number state = state / 2 ^ 33

-- the state after so many draws
abbrev pub drawn_times : ℕ → ℕ → ℕ
drawn_times zero state = state
drawn_times (suc count) state = drawn_times count (drawn state)
