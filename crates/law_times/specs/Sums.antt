-- What a node's processor spent, as one number.
use Rattle.std.specs.Prelude.{ℕ, ◌+◌}
use Rattle.alw_waits.specs.declared.totals.Spent.{Spent}

-- what its processor spent: turns, misses, the switches to both, and the handler
abbrev pub processor_spent : Spent → ℕ
processor_spent spent = spent.turns + spent.misses + spent.switches + spent.handlers
