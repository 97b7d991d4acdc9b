-- The flat machine as code has it: what an image says of turns, and the state.
use Rattle.std.specs.Prelude.{◌≡◌, ℕ, ◌+◌, ◌-◌, ◌*◌, ◌/◌, ◌%◌, ◌≤◌, ◌<◌, Option, List, [], length, option_map, slice_get}
use Rattle.alw_num.specs.declared.addresses.Line.{Line}
use Rattle.alw_num.specs.declared.addresses.Width.TheVariants.{Word}
use Rattle.alw_num.specs.Limits.{shared_base}
use Rattle.alw_num.specs.declared.states.Mode.{Mode}
use Rattle.alw_num.specs.declared.states.Mode.TheVariants.{Write}
use Rattle.alw_num.specs.Lanes.{lane_of}
use Rattle.alw_image.specs.declared.parts.Parts.{Parts}
use Rattle.alw_image.specs.Images.{line_count, context_count}
use Rattle.alw_model.specs.Flat.{Flat, line_at}

-- the copy of each line of a memory: Read-Write, with its value
abbrev pub copy_in : List Line → ℕ → Option (Mode × Line)
copy_in memory line = option_map (λ value. (Write, value)) (slice_get memory line)

-- What an image says of turns, and the flat machine. Of the parts the first bytes, the starts and the listed lines are left out: they say what stands at the start alone.
pub record FlatMachine : Type 0 where
  pub parts : Parts
  pub flat : Flat

-- an image's parts without what stands at the start alone
abbrev pub for_turns : Parts → Parts
for_turns parts = record parts { bodies = []; starts = []; always = [] }

-- all lines and all contexts that the sizes say
pub record HasFlatSizes (machine : FlatMachine) : Type 0 where
  pub memory : length machine.flat.memory ≡ line_count machine.parts
  pub contexts : length machine.flat.contexts ≡ context_count machine.parts

-- the address of a word of shared data
abbrev pub IsSharedWord : Parts → ℕ → Type 0
IsSharedWord parts addr = (addr % 4 ≡ 0) × (shared_base ≤ addr) × (addr < shared_base + 16 * line_count parts)

-- the word at an address of shared data
unfoldable pub word_of : Flat → ℕ → ℕ
word_of flat addr = lane_of (line_at flat ((addr - shared_base) / 16)) (addr % 16) Word
