-- What is saved goes on from the cut.
use Rattle.law_commands.proofs.Resumed.{accepted, tells_cut, alone}
use Rattle.law_commands.proofs.laws.saved_runs_go_on.Goals as goal

pub returns-clause-accepted : goal.returns-clause-accepted
returns-clause-accepted c = λ at traced saved saves evict few. accepted at traced saved saves evict few

pub returns-clause-goes_on : goal.returns-clause-goes_on
returns-clause-goes_on c = λ at traced saved saves seed evict form resumed resumes. (tells_cut at traced saved saves seed evict form resumed resumes).goes_on

pub returns-clause-told : goal.returns-clause-told
returns-clause-told c = λ at traced saved saves seed evict form resumed resumes. (tells_cut at traced saved saves seed evict form resumed resumes).told

pub returns-clause-alone : goal.returns-clause-alone
returns-clause-alone c = λ at traced saved saves seed evict form resumed resumes journal ended on end. alone at traced saved saves seed evict form resumed resumes journal ended on end
