-- The slot's place is emptied, or there is none.
use Rattle.alw_proc.proofs.OpeningMaps.{opener_at, ends_at, none_told, ends_none}
use Rattle.alw_proc.proofs.openings.Openings.end.Goals as goal

pub returns-in-Some-clause-opener : goal.returns-in-Some-clause-opener
returns-in-Some-clause-opener c = rw (← c.self.view_is) (opener_at c.self.inside.slots c.in-Some.slot c.args.line.0 c.self.invariant.1 c.in-Some.ensures.found.1)

pub returns-in-Some-clause-all : goal.returns-in-Some-clause-all
returns-in-Some-clause-all c = rw (← c.self.view_is) (ends_at c.self.inside.slots c.in-Some.slot c.args.line.0 c.self.invariant.1 c.in-Some.ensures.found.1)

pub returns-in-None-clause-opener : goal.returns-in-None-clause-opener
returns-in-None-clause-opener c = rw (← c.self.view_is) (none_told _ c.self.inside.slots c.args.line.0 c.in-None.ensures.none)

pub returns-in-None-clause-all : goal.returns-in-None-clause-all
returns-in-None-clause-all c = rw (← c.self.view_is) (ends_none c.self.inside.slots c.args.line.0 c.in-None.ensures.none)
