-- The turns so far.
use Rattle.std.proofs.Common.{◌≡◌, ℕ, map, take, slice_index_or}
use Rattle.alw_outcomes.specs.Keys.{no_turn}
use Rattle.alw_outcomes.proofs.endings.endings_of.Given as goal

abbrev pub invariant-loop-turn : goal.invariant-loop-turn
invariant-loop-turn l = l.traps.items ≡ map (λ (k : ℕ). slice_index_or l.found.trapped.items k no_turn) (take l.turn-index l.turn-items)
