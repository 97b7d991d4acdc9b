-- The induction over the events.
use Rattle.law_entry.proofs.Courses.{always_acts, always_sound, each_acted}
use Rattle.law_entry.proofs.laws.acts_as_full_map.Goals as goal

pub returns-clause-acts : goal.returns-clause-acts
returns-clause-acts c = always_acts

pub returns-clause-sound : goal.returns-clause-sound
returns-clause-sound c = always_sound

pub returns-clause-complete : goal.returns-clause-complete
returns-clause-complete c = each_acted
