use Rattle.std.proofs.Common.{ℕ, arith}
use Rattle.alw_least.proofs.Dating.{first_least, some_stands}
use Rattle.alw_least.proofs.leasts.Leasts.first.Goals as goal

pub returns-in-Some-clause-first : goal.returns-in-Some-clause-first
returns-in-Some-clause-first c = rw (← c.self.view_is)
    (first_least c.self.inside.numbers c.self.inside.first c.self.inside.days (omega arith) c.self.invariant.dated c.in-Some.place c.self.invariant.none_before c.in-Some.ensures)

pub unreachable-requires : goal.unreachable-requires
unreachable-requires c =
    some_stands c.self.inside.numbers c.least_of-self-inside.result c.date.new.days (omega arith) c.date.ensures c.least_of-self-inside.ensures c.in_default-first.ensures

pub returns-clause-first : goal.returns-clause-first
returns-clause-first c = rw (← c.self.view_is)
    (first_least c.self.inside.numbers c.least_of-self-inside.result c.date.new.days (omega arith) c.date.ensures c.in-Some-first.place c.least_of-self-inside.ensures.lowest c.in-Some-first.ensures)
