-- As many slots as the count says.
use Rattle.std.proofs.Common.{sym, arith}
use Rattle.alw_ctx.proofs.Slots.{length_slots}
use Rattle.alw_ctx.proofs.contexts.Contexts.count.Goals as goal

pub returns-clause-count : goal.returns-clause-count
returns-clause-count c = rw (← c.self.view_is) (sym (length_slots c.self.inside.count c.self.inside.places (omega (arith, c.self.invariant.1, c.self.invariant.2))))
