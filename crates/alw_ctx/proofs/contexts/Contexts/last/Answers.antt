-- The current slot is one of them.
use Rattle.std.proofs.Common.{arith}
use Rattle.alw_ctx.proofs.Slots.{length_slots}
use Rattle.alw_ctx.proofs.contexts.Contexts.last.Goals as goal

pub returns-clause-within : goal.returns-clause-within
returns-clause-within c = rw (← c.self.view_is) (omega (arith, c.self.invariant.0, c.self.invariant.1, length_slots c.self.inside.count c.self.inside.places (omega (arith, c.self.invariant.1, c.self.invariant.2))))
