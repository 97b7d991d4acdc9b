use Rattle.law_lines.proofs.Acted.{event_comes}
use Rattle.law_lines.proofs.events_followed.messages_keep_their_order.Goals as goal

pub returns-clause-comes : goal.returns-clause-comes
returns-clause-comes c = event_comes
