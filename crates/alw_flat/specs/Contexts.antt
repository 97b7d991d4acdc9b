-- The contexts of the flat machine, as code has them and as the definitions do.
use Rattle.std.specs.Prelude.{List, map}
use Rattle.alw_num.specs.declared.addresses.Line.{Line}
use Rattle.alw_image.specs.declared.parts.Parts.{Parts}
use Rattle.alw_model.specs.Flat as model
use Rattle.alw_flat.specs.declared.machines.Context.{Context}
use Rattle.alw_flat.specs.Machines.{FlatMachine}

abbrev pub context_of : Context → model.Context
context_of context = record { regs = context.regs; status = context.status }

abbrev pub contexts_of : List Context → List model.Context
contexts_of contexts = map context_of contexts

-- the machine of this memory and these contexts
abbrev pub machine_of : Parts → List Line → List Context → FlatMachine
machine_of parts memory contexts = record { parts = parts; flat = record { memory = memory; contexts = contexts_of contexts } }
