use Rattle.alw_mesh.specs.Limits.{most_steps}
use Rattle.law_commands.proofs.Again.{accepted, reports_the_same}
use Rattle.law_commands.proofs.laws.traces_report_the_same.Goals as goal

pub returns-clause-accepted : goal.returns-clause-accepted
returns-clause-accepted c = λ image parameters journal ended is. accepted image parameters journal ended most_steps is

pub returns-clause-same : goal.returns-clause-same
returns-clause-same c = λ image parameters journal ended is. reports_the_same image parameters journal ended most_steps is
