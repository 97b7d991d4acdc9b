use Rattle.alw_cells.proofs.Runs.{local_run, left_alike, answers_alike}
use Rattle.alw_cells.proofs.laws.cells_are_runs.Goals as goal

pub returns-clause-run : goal.returns-clause-run
returns-clause-run c = local_run

pub returns-clause-state : goal.returns-clause-state
returns-clause-state c = left_alike

pub returns-clause-dids : goal.returns-clause-dids
returns-clause-dids c = answers_alike
