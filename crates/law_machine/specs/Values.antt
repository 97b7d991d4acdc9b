-- The values of lines as a run's stores leave them, and a machine all of whose lines are sound with these values.
use Rattle.std.specs.Prelude.{ℕ, ◌<◌, ◌≤◌, List, [], ◌∷◌}
use Rattle.alw_num.specs.declared.addresses.Line.{Line}
use Rattle.alw_msg.specs.declared.events.Entry.{Entry}
use Rattle.alw_image.specs.declared.parts.Parts.{Parts}
use Rattle.alw_image.specs.Images.{node_count, line_count, body_of}
use Rattle.alw_image.specs.Parameters.{Parameters}
use Rattle.alw_model.specs.Machine.{MachineState, machine_start, step, state, IsLegal}
use Rattle.alw_model.specs.Lines.{line_of}
use Rattle.law_line.specs.Protocol.{last_stored}
use Rattle.law_line.specs.Sound.{Sound}
use Rattle.law_lines.specs.LineEvents.{line_events}
use Rattle.law_lines.specs.Standing.{IsStanding}

-- a line's value after some entries, by what was stored in it
abbrev pub stored_from : Parts → Parameters → MachineState → List Entry → ℕ → Line → Line
stored_from parts parameters machine [] line value = value
stored_from parts parameters machine (entry ∷ rest) line value = stored_from parts parameters (step parts parameters machine entry.event) rest line (last_stored value (line_events parts parameters machine entry.event line))

-- a line's value after a journal: what was stored in it last, or the image's bytes
unfoldable pub stored_after : Parts → Parameters → List Entry → ℕ → Line
stored_after parts parameters journal line = stored_from parts parameters (machine_start parts) journal line (body_of parts line)

-- a machine stands, and each of its lines is sound with a value
pub record MachineIsSoundWith (parts : Parts) (parameters : Parameters) (values : ℕ → Line) (machine : MachineState) : Type 0 where
  pub standing : IsStanding parts parameters machine
  pub lines : (line : ℕ) → line < line_count parts → Sound (node_count parts) (values line) (line_of parts parameters machine line)

-- a fact of an image, parameters, a journal and the machine after it holds for every image, for parameters with at least one hardware pointer, and after every legal journal
abbrev pub AfterEveryJournal : (Parts → Parameters → List Entry → MachineState → Type 0) → Type 0
AfterEveryJournal Fact = (parts : Parts) → (parameters : Parameters) → 1 ≤ parameters.pointers → (journal : List Entry) → IsLegal parts parameters journal → Fact parts parameters journal (state parts parameters journal)
