-- What stands in the new slots stood in the old ones.
use Rattle.alw_outcomes.specs.Remembered.{KeepsSome}
use Rattle.alw_outcomes.proofs.remembered.Remembered.grow.Given as goal

abbrev pub invariant-loop-slot : goal.invariant-loop-slot
invariant-loop-slot l = KeepsSome l.fn.self.slots.items l.wider.items
