-- A finished trace that is kept whole is resumed to itself.
use Rattle.std.proofs.Common.{refl}
use Rattle.alw_config.specs.declared.commands.Form.TheVariants as forms
use Rattle.law_commands.proofs.Resumed.{same_journal, reported_alike}
use Rattle.law_commands.proofs.laws.finished_runs_are_resumed.Goals as goal

pub returns-clause-same : goal.returns-clause-same
returns-clause-same c = λ at traced saved saves finished all seed evict form resumed resumes. same_journal at traced saved saves seed evict form resumed resumes finished all

pub returns-clause-reports : goal.returns-clause-reports
returns-clause-reports c = λ at traced saved saves finished all seed evict resumed resumes.
    reported_alike at traced saved saves seed evict forms.Report resumed resumes finished all refl
