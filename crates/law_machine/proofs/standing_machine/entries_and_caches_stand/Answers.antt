-- What the induction over a journal gives of entries and caches.
use Rattle.law_machine.proofs.Vocabulary.{state}
use Rattle.law_machine.specs.Values.{stored_after}
use Rattle.law_machine.proofs.Runs.{always_sound_with}
use Rattle.law_machine.proofs.Stores.{entry_points, caches_stand, sizes_are}
use Rattle.law_machine.proofs.standing_machine.entries_and_caches_stand.Goals as goal

pub returns-clause-entries : goal.returns-clause-entries
returns-clause-entries c = λ parts parameters some journal legal. entry_points parts parameters (state parts parameters journal) (stored_after parts parameters journal) (always_sound_with parts parameters some journal legal)

pub returns-clause-caches : goal.returns-clause-caches
returns-clause-caches c = λ parts parameters some journal legal. caches_stand parts parameters (state parts parameters journal) (stored_after parts parameters journal) (always_sound_with parts parameters some journal legal)

pub returns-clause-sizes : goal.returns-clause-sizes
returns-clause-sizes c = λ parts parameters some journal legal. sizes_are parts parameters (state parts parameters journal) (stored_after parts parameters journal) (always_sound_with parts parameters some journal legal)
