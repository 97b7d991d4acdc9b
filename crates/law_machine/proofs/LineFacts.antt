-- What the soundness of each line gives after every legal journal.
use Rattle.std.proofs.Common.{◌≡◌, ◌≢◌, ℕ, ◌<◌, ◌≤◌, false, Some, IsTrue, List, ◌∷◌, sym, ◌∙◌}
use Rattle.std.specs.Prelude.{IsSome}
use Rattle.law_machine.proofs.Vocabulary.{Line, Mode, sum_below, Entry, Parts, node_count, line_count, Parameters, ToMemory, ToCache, is_reply, full_map_of, IsLegal, state, entry_of, line_of}
use Rattle.law_machine.proofs.Vocabulary.{current_value, reads, writes, owes, IsListed, Sound}
use Rattle.law_line.proofs.Unlisted.{listed}
use Rattle.law_line.proofs.Consequences.{one_writer, no_reader, copy_value, reply_meets, all_owed}
use Rattle.law_machine.specs.Values.{AfterEveryJournal, stored_after}
use Rattle.law_machine.proofs.Runs.{always_sound_with}
use Rattle.law_machine.proofs.Lines.{value_of}

-- a line's soundness after a journal
sound_line : (parts : Parts) (parameters : Parameters) → 1 ≤ parameters.pointers → (journal : List Entry) → IsLegal parts parameters journal → (line : ℕ) → line < line_count parts → Sound (node_count parts) (stored_after parts parameters journal line) (line_of parts parameters (state parts parameters journal) line)
sound_line parts parameters some journal legal line exists = (always_sound_with parts parameters some journal legal).lines line exists

pub always_listed : AfterEveryJournal (λ parts parameters journal machine. (line : ℕ) → line < line_count parts → (i : ℕ) → (message : ToMemory) → (rest : List ToMemory) → ((line_of parts parameters machine line).node i).up ≡ message ∷ rest → IsListed (full_map_of (entry_of parts machine line)) i message)
always_listed parts parameters some journal legal line exists = listed _ _ _ (sound_line parts parameters some journal legal line exists)

pub always_meets : AfterEveryJournal (λ parts parameters journal machine. (line : ℕ) → line < line_count parts → (i : ℕ) → (message : ToCache) → (rest : List ToCache) → ((line_of parts parameters machine line).node i).down ≡ message ∷ rest → IsTrue (is_reply message) → IsSome ((line_of parts parameters machine line).node i).transaction)
always_meets parts parameters some journal legal line exists = reply_meets _ _ _ (sound_line parts parameters some journal legal line exists)

pub always_one_writer : AfterEveryJournal (λ parts parameters journal machine. (line : ℕ) → line < line_count parts → (i j : ℕ) → IsTrue (writes ((line_of parts parameters machine line).node i)) → IsTrue (writes ((line_of parts parameters machine line).node j)) → i ≡ j)
always_one_writer parts parameters some journal legal line exists = one_writer _ _ _ (sound_line parts parameters some journal legal line exists)

pub always_no_reader : AfterEveryJournal (λ parts parameters journal machine. (line : ℕ) → line < line_count parts → (i j : ℕ) → IsTrue (writes ((line_of parts parameters machine line).node i)) → i ≢ j → reads ((line_of parts parameters machine line).node j) ≡ false)
always_no_reader parts parameters some journal legal line exists = no_reader _ _ _ (sound_line parts parameters some journal legal line exists)

pub always_current : AfterEveryJournal (λ parts parameters journal machine. (line : ℕ) → line < line_count parts → (i : ℕ) → (mode : Mode) → (body : Line) → ((line_of parts parameters machine line).node i).copy ≡ Some (mode, body) → body ≡ current_value parts parameters machine line)
always_current parts parameters some journal legal line exists i mode body e =
    copy_value _ _ _ (sound_line parts parameters some journal legal line exists) i mode body e
    ∙ sym (value_of parts parameters (state parts parameters journal) (stored_after parts parameters journal) (always_sound_with parts parameters some journal legal) line exists)

pub always_owed : AfterEveryJournal (λ parts parameters journal machine. (line : ℕ) → line < line_count parts → sum_below (node_count parts) (λ i. owes ((line_of parts parameters machine line).node i)) ≡ (entry_of parts machine line).acks)
always_owed parts parameters some journal legal line exists = all_owed _ _ _ (sound_line parts parameters some journal legal line exists)
