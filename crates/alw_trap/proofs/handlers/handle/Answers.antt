-- The parts are put together.
use Rattle.alw_trap.proofs.Settlements.{settled}
use Rattle.alw_trap.proofs.handlers.handle.Goals as goal

pub returns : goal.returns
returns c = settled _ _ _ _ _ _ _ _ _ _ _ _ _ (rw (c.pointers.ensures.set, c.set.ensures) at c.union-pointers.ensures)
    c.react-keeping.ensures.entry c.react-keeping.ensures.sends c.react-keeping.ensures.keeping
    c.keep-meta.ensures.entry c.keep-meta.ensures.table c.keep-meta.ensures.meta c.unless_listed-entry.ensures
