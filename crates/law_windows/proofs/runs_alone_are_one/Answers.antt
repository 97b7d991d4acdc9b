use Rattle.law_windows.proofs.Windows.{front_of}
use Rattle.law_windows.proofs.runs_alone_are_one.Goals as goal

pub returns : goal.returns
returns c = front_of
