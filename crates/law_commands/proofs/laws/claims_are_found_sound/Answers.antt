use Rattle.law_commands.proofs.FoundSound.{accepted, found_sound}
use Rattle.law_commands.proofs.laws.claims_are_found_sound.Goals as goal

pub returns-clause-accepted : goal.returns-clause-accepted
returns-clause-accepted c = accepted

pub returns-clause-sound : goal.returns-clause-sound
returns-clause-sound c = found_sound
