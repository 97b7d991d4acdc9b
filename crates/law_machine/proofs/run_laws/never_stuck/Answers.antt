-- What stands of the machine leaves it a main event.
use Rattle.law_machine.proofs.RunFacts.{always_live, always_unsettled, always_limit}
use Rattle.law_machine.proofs.HaltFacts.{starts_go}
use Rattle.law_machine.proofs.run_laws.never_stuck.Goals as goal

pub returns-clause-live : goal.returns-clause-live
returns-clause-live c = always_live

pub returns-clause-unsettled : goal.returns-clause-unsettled
returns-clause-unsettled c = always_unsettled

pub returns-clause-limit : goal.returns-clause-limit
returns-clause-limit c = always_limit

pub returns-clause-start : goal.returns-clause-start
returns-clause-start c = starts_go
