-- Hardware, case by case.
use Rattle.law_entry.proofs.Actions.{hardware_acts}
use Rattle.law_entry.proofs.Soundness.{hardware_sound}
use Rattle.law_entry.proofs.laws.hardware_acts_as_full_map.Goals as goal

pub returns-clause-acts : goal.returns-clause-acts
returns-clause-acts c = hardware_acts

pub returns-clause-sound : goal.returns-clause-sound
returns-clause-sound c = hardware_sound
