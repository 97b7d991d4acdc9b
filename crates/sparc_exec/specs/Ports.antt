-- What a port tells of the copies behind it and of the calls that were made on it.
use Rattle.std.specs.Prelude.{ℕ, ◌==◌, cond, List, [], ◌∷◌, ◌++◌, Option, Some, None, option_map}
use Rattle.alw_num.specs.declared.addresses.Line.{Line}
use Rattle.alw_num.specs.declared.states.Mode.{Mode}
use Rattle.alw_num.specs.declared.states.Mode.TheVariants.{Read, Write}

-- the copy of each line, if there is one: its mode and its value
abbrev pub Copies : Type 0
Copies = ℕ → Option (Mode × Line)

-- a call on a port: a copy that was asked for, or a value that was written
pub data Access : Type 0 where
  Grab : ℕ → Mode → Access
  Put : ℕ → Line → Access

-- the value of a copy where a write is asked for
abbrev pub writable : Mode → Line → Option Line
writable Read value = None
writable Write value = Some value

-- the value of a copy that is asked for in a mode: None where there is no copy, or one that grants less
abbrev pub granted : Mode → Option (Mode × Line) → Option Line
granted mode None = None
granted Read (Some copy) = Some copy.1
granted Write (Some copy) = writable copy.0 copy.1

-- the copies with the value of one changed, which is Read-Write
abbrev pub with_copy : ℕ → Line → Copies → Copies
with_copy line value copies l = cond (l == line) (Some (Write, value)) (copies l)

-- the calls so far, where a port tells them, and one more
abbrev pub and_then : Option (List Access) → Access → Option (List Access)
and_then calls access = option_map (λ so_far. so_far ++ access ∷ []) calls
