-- By what a node sees of a machine and of the same with an event of another node more.
use Rattle.law_windows.proofs.Alone.{chooses_alike, with_its_key}
use Rattle.law_windows.proofs.nodes_choose_alone.Goals as goal

pub returns-clause-comes : goal.returns-clause-comes
returns-clause-comes c = chooses_alike

pub returns-clause-key : goal.returns-clause-key
returns-clause-key c = with_its_key
