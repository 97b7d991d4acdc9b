-- What the names of a source stand for.
use Rattle.std.specs.Prelude.{ℕ, List, Option, bytes_eq}
use Rattle.std.specs.HashMap as table
use Rattle.sparc_asm.specs.declared.names.Value.{Value}
use Rattle.sparc_asm.specs.declared.names.Names.{Names}

-- what a name stands for: None where it isn't defined
abbrev pub value_in : Names → List ℕ → Option Value
value_in names name = table.get bytes_eq names.map name
