-- What a machine's readers tell: parts of its state, and what its journal says.
use Rattle.std.specs.Prelude.{◌≡◌, ℕ, ◌+◌, ◌-◌, ◌*◌, ◌/◌, ◌%◌, ◌<◌, ◌≤◌, List}
use Rattle.alw_num.specs.declared.addresses.Width.TheVariants.{Word}
use Rattle.alw_num.specs.Limits.{shared_base}
use Rattle.alw_num.specs.Lanes.{lane_of}
use Rattle.alw_image.specs.Images.{line_count}
use Rattle.alw_model.specs.declared.steps.Counts.{Counts}
use Rattle.alw_model.specs.Contexts.{Slot, slot_at}
use Rattle.alw_model.specs.NodeStates.{NodeState}
use Rattle.alw_model.specs.Machine.{node_at}
use Rattle.alw_model.specs.Flat.{Flat, flat_after}
use Rattle.alw_model.specs.Lines.{current_value}
use Rattle.alw_model.specs.Runs.{moments, turns_of}
use Rattle.alw_model.specs.Counts.{counts_of}
use Rattle.alw_mesh.specs.Histories.{History, state_of}

-- a node's state
abbrev pub node_in : History → ℕ → NodeState
node_in h n = node_at (state_of h) n

-- the slot of a context
abbrev pub slot_of : History → ℕ → Slot
slot_of h context = slot_at (node_in h (context / h.image.contexts)).slots (context % h.image.contexts)

-- the contexts that took turns
abbrev pub turns_in : History → List ℕ
turns_in h = turns_of h.image h.parameters h.journal

-- all counts
abbrev pub counts_in : History → Counts
counts_in h = counts_of h.image (moments h.image h.parameters h.journal)

-- the flat machine after the turns
abbrev pub flat_in : History → Flat
flat_in h = flat_after h.image (turns_in h)

-- the address of a word of shared data
abbrev pub IsSharedWord : History → ℕ → Type 0
IsSharedWord h addr = (addr % 4 ≡ 0) × (shared_base ≤ addr) × (addr < shared_base + 16 * line_count h.image)

-- the line that an address of shared data is in
abbrev pub line_of : ℕ → ℕ
line_of addr = (addr - shared_base) / 16

-- the current value's word at an address
abbrev pub word_in : History → ℕ → ℕ
word_in h addr = lane_of (current_value h.image h.parameters (state_of h) (line_of addr)) (addr % 16) Word
