-- By what is pushed on the link.
use Rattle.law_windows.proofs.Messages.{messages_late, messages_stay}
use Rattle.law_windows.proofs.messages_take_time.Goals as goal

pub returns-clause-sent : goal.returns-clause-sent
returns-clause-sent c = messages_late

pub returns-clause-others : goal.returns-clause-others
returns-clause-others c = messages_stay
