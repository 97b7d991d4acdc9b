-- By what each node sees of the machine in which all go on and of that in which it goes on alone.
use Rattle.law_windows.proofs.Windows.{runs_alone, starts_alone, is_run_alone}
use Rattle.law_windows.proofs.windows_are_runs_alone.Goals as goal

pub returns-clause-fronts : goal.returns-clause-fronts
returns-clause-fronts c = runs_alone

pub returns-clause-starts : goal.returns-clause-starts
returns-clause-starts c = starts_alone

pub returns-clause-whole : goal.returns-clause-whole
returns-clause-whole c = is_run_alone
