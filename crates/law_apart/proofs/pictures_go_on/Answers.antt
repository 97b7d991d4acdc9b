-- By the machine's times, event by event, and link by link.
use Rattle.law_apart.proofs.Come.{all_come_is}
use Rattle.law_apart.proofs.Runs.{run_is, run_sent}
use Rattle.law_apart.proofs.Shown.{machine_is}
use Rattle.law_apart.proofs.pictures_go_on.Goals as goal

pub returns-clause-begins : goal.returns-clause-begins
returns-clause-begins c = machine_is

pub returns-clause-runs : goal.returns-clause-runs
returns-clause-runs c = run_is

pub returns-clause-sent : goal.returns-clause-sent
returns-clause-sent c = run_sent

pub returns-clause-come : goal.returns-clause-come
returns-clause-come c = all_come_is
