use Rattle.alw_cuts.proofs.Resumable.{restored_so, saved_resumes}
use Rattle.law_commands.proofs.laws.checkpoints_are_resumed.Goals as goal

pub returns-clause-accepted : goal.returns-clause-accepted
returns-clause-accepted c = λ trace at evict of types sound few. saved_resumes trace at evict of types sound few

pub returns-clause-unrefused : goal.returns-clause-unrefused
returns-clause-unrefused c = λ bytes evict machine is fault refused. restored_so bytes evict machine is fault refused
