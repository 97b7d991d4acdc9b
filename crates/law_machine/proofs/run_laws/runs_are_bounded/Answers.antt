-- Clocks rise to the limit, and then less and less is left.
use Rattle.law_machine.proofs.RunFacts.{always_in_time, always_bounded}
use Rattle.law_machine.proofs.HaltFacts.{without_evictions}
use Rattle.law_machine.proofs.TurnCounts.{always_few_turns}
use Rattle.law_machine.proofs.run_laws.runs_are_bounded.Goals as goal

pub returns-clause-in_time : goal.returns-clause-in_time
returns-clause-in_time c = always_in_time

pub returns-clause-any : goal.returns-clause-any
returns-clause-any c = always_bounded

pub returns-clause-no_evictions : goal.returns-clause-no_evictions
returns-clause-no_evictions c = without_evictions

pub returns-clause-turns : goal.returns-clause-turns
returns-clause-turns c = always_few_turns
