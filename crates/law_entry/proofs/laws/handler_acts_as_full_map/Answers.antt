-- The handler, case by case.
use Rattle.law_entry.proofs.Actions.{handler_acts}
use Rattle.law_entry.proofs.Soundness.{handler_sound, trapped_sound}
use Rattle.law_entry.proofs.laws.handler_acts_as_full_map.Goals as goal

pub returns-clause-acts : goal.returns-clause-acts
returns-clause-acts c = handler_acts

pub returns-clause-sound : goal.returns-clause-sound
returns-clause-sound c = handler_sound

pub returns-clause-trapped : goal.returns-clause-trapped
returns-clause-trapped c = trapped_sound
