-- The induction over a journal, and what it gives of each line.
use Rattle.law_machine.proofs.Vocabulary.{state}
use Rattle.law_machine.specs.Values.{stored_after}
use Rattle.law_machine.proofs.Runs.{always_sound_with}
use Rattle.law_machine.proofs.Lines.{invariant_of, value_of}
use Rattle.law_machine.proofs.standing_machine.lines_are_sound.Goals as goal

pub returns-clause-invariant : goal.returns-clause-invariant
returns-clause-invariant c = λ parts parameters some journal legal. invariant_of parts parameters (state parts parameters journal) (stored_after parts parameters journal) (always_sound_with parts parameters some journal legal)

pub returns-clause-value : goal.returns-clause-value
returns-clause-value c = λ parts parameters some journal legal. value_of parts parameters (state parts parameters journal) (stored_after parts parameters journal) (always_sound_with parts parameters some journal legal)

pub returns-clause-kept : goal.returns-clause-kept
returns-clause-kept c = always_sound_with
