-- One text, and one state, go on alike.
use Rattle.law_commands.proofs.Resumed.{one_resumed}
use Rattle.law_commands.proofs.StatesGoOn.{same_later}
use Rattle.law_commands.proofs.laws.states_go_on_alike.Goals as goal

pub returns-clause-texts : goal.returns-clause-texts
returns-clause-texts c = λ seed evict form text one other is are. one_resumed seed evict form text one other is are

pub returns-clause-states : goal.returns-clause-states
returns-clause-states c = λ seed evict form other_form text other_text one other is are image parameters lines.
    same_later c.texts_tell_states.ensures seed evict form other_form text other_text one other is are image parameters lines
