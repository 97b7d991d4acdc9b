-- A machine whose words are of 32 bits: in registers, copies, home entries and messages. With what else a state's text, in which a word has eight hexadecimal
-- digits, leaves to be known, such a text tells the state.
use Rattle.std.specs.Prelude.{◌≡◌, ℕ, ◌<◌, length, slice_index, IsSome}
use Rattle.std.specs.List.{AllByRecursion}
use Rattle.alw_num.specs.declared.addresses.Line.{Line}
use Rattle.sparc_table.specs.declared.registers.Regs.{Regs}
use Rattle.alw_msg.specs.declared.contexts.Status.TheVariants.{Ready, Trapped}
use Rattle.alw_msg.specs.declared.messages.Msg.{Msg}
use Rattle.alw_image.specs.declared.parts.Parts.{Parts}
use Rattle.alw_image.specs.Images.{node_count, line_count, is_always}
use Rattle.alw_image.specs.Numbers.{IsWord}
use Rattle.alw_model.specs.Caches.{Copy}
use Rattle.alw_model.specs.Contexts.{Slot, slot_at}
use Rattle.alw_model.specs.Lines.{entry_of}
use Rattle.alw_model.specs.Machine.{MachineState, node_at, link_at}

-- the bytes of a line, as its four words
abbrev pub AreWords : Line → Type 0
AreWords body = IsWord body.a × (IsWord body.b × (IsWord body.c × IsWord body.d))

-- 32 registers, of which the first is kept 0; they, PC, nPC and Y are words (SPARC V8 manual, chapter 4)
pub record AreRegisters (regs : Regs) : Type 0 where
  pub count : length regs.r ≡ 32
  pub first : slice_index regs.r 0 ≡ 0
  pub words : AllByRecursion IsWord regs.r
  pub pc : IsWord regs.pc
  pub npc : IsWord regs.npc
  pub y : IsWord regs.y

-- a slot's registers are as above; it is trapped at their PC, with a type of one byte; and with a hold it is Ready
pub record SlotHasWords (slot : Slot) : Type 0 where
  pub regs : AreRegisters slot.regs
  pub trapped : (pc type : ℕ) → slot.status ≡ Trapped pc type → (pc ≡ slot.regs.pc) × (type < 256)
  pub held : IsSome slot.hold → slot.status ≡ Ready

-- a machine's words; and the entry of a home line is Trap-Always as the image lists it
pub record MachineHasWords (parts : Parts) (machine : MachineState) : Type 0 where
  pub slots : (n slot : ℕ) → n < node_count parts → slot < parts.contexts → SlotHasWords (slot_at (node_at machine n).slots slot)
  pub copies : (n : ℕ) → n < node_count parts → AllByRecursion (λ (entry : ℕ × Copy). AreWords entry.1.body) (node_at machine n).cache.entries
  pub homes : (line : ℕ) → line < line_count parts → AreWords (entry_of parts machine line).body
  pub always : (line : ℕ) → line < line_count parts → (entry_of parts machine line).always ≡ is_always parts line
  pub packets : (n : ℕ) → n < node_count parts → AllByRecursion (λ (packet : Msg). AreWords packet.body) (node_at machine n).packets
  pub links : (from to : ℕ) → from < node_count parts → to < node_count parts
      → AllByRecursion (λ (msg : Msg). AreWords msg.body) (link_at parts machine from to)
