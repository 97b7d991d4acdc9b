-- What holds of every machine: for each image and all parameters, after every legal journal.
use Rattle.std.specs.Prelude.{List}
use Rattle.alw_msg.specs.declared.events.Entry.{Entry}
use Rattle.alw_image.specs.declared.parts.Parts.{Parts}
use Rattle.alw_image.specs.Images.{IsImage}
use Rattle.alw_image.specs.Parameters.{Parameters, AreParameters}
use Rattle.alw_model.specs.Machine.{MachineState, state, IsLegal}

-- a fact of an image, parameters, a journal and the machine after it holds for every image, all parameters, and after every legal journal
abbrev pub OnEveryMachine : (Parts → Parameters → List Entry → MachineState → Type 0) → Type 0
OnEveryMachine Fact = (parts : Parts) → IsImage parts → (parameters : Parameters) → AreParameters parameters → (journal : List Entry) → IsLegal parts parameters journal → Fact parts parameters journal (state parts parameters journal)
