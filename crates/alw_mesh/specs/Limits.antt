-- How long a run may be.
use Rattle.std.specs.Prelude.{ℕ}

-- the most that nodes times the event limit may be where no time is kept
abbrev pub most_steps : ℕ
most_steps = 8388608

-- and the most that it can be: of 256 nodes by the greatest limit
abbrev pub most_timed_steps : ℕ
most_timed_steps = 268435456
