-- Those so far have been woken.
use Rattle.alw_ctx.proofs.Slots.{AreWoken}
use Rattle.alw_ctx.proofs.contexts.wake.Given as goal

abbrev pub invariant-loop-slot : goal.invariant-loop-slot
invariant-loop-slot l = AreWoken l.line.0 l.slot l.count l.fn.places l.places
