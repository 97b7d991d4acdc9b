-- A workload made from a number: which instructions each node runs, operation by operation as they are drawn, and the image of them.
use Rattle.std.specs.Prelude.{ℕ, ◌≤◌, zero, suc, ◌+◌, ◌*◌, ◌/◌, ◌%◌, ◌^◌, ◌==◌, ◌&&◌, nat_le, if◌then◌else◌, List, [], ◌∷◌, ◌++◌, map}
use Rattle.std.specs.List.{range_with_len}
use Rattle.alw_num.specs.declared.addresses.NodeNo.{NodeNo}
use Rattle.alw_num.specs.Limits.{shared_base}
use Rattle.alw_num.specs.Draws.{drawn, drawn_number, drawn_times}
use Rattle.sparc_table.specs.declared.instructions.Operand.TheVariants.{Reg, Imm}
use Rattle.sparc_table.specs.declared.instructions.Instr.{Instr}
use Rattle.sparc_table.specs.declared.instructions.Instr.TheVariants.{Sethi, Arith, TrapOn, Memory}
use Rattle.sparc_asm.specs.Words.{instr_word}
use Rattle.alw_image.specs.declared.parts.Parts.{Parts}

-- the word that an operation is about: in which of so many lines, and which of the line's four words
abbrev pub address_drawn : ℕ → ℕ → ℕ
address_drawn lines number = shared_base + 16 * (number % lines) + 4 * (number / 2 ^ 26 % 4)

-- `set address, %g1`
abbrev pub set_g1 : ℕ → List Instr
set_g1 address = Sethi 1 (address / 1024) ∷ Arith 0x02 1 1 (Imm (address % 1024)) ∷ []

-- `ld [%g1],%g2` and `add %g3,%g2,%g3`; `st %g3,[%g1]` and `add %g3,1,%g3`; `swap [%g1],%g3` and `nop`; `ldstub [%g1],%g2` and `nop`
abbrev pub access : ℕ → List Instr
access kind =
    if kind == 0 then Memory 0x00 2 1 (Reg 0) ∷ Arith 0x00 3 3 (Reg 2) ∷ [] else (
    if kind == 1 then Memory 0x04 3 1 (Reg 0) ∷ Arith 0x00 3 3 (Imm 1) ∷ [] else (
    if kind == 2 then Memory 0x0F 3 1 (Reg 0) ∷ Sethi 0 0 ∷ [] else
    Memory 0x0D 2 1 (Reg 0) ∷ Sethi 0 0 ∷ []))

-- the operation that a number draws
abbrev pub operation : ℕ → ℕ → List Instr
operation lines number = set_g1 (address_drawn lines number) ++ access (number / 2 ^ 24 % 4)

-- so many operations, drawn from a state on
abbrev pub operations : ℕ → ℕ → ℕ → List Instr
operations lines zero state = []
operations lines (suc size) state = operation lines (drawn_number (drawn state)) ++ operations lines size (drawn state)

-- `mov %g3,%o0`, `ta 1` and `ta 0`: the node prints its sum, and halts
abbrev pub ending : List Instr
ending = Arith 0x02 8 0 (Reg 3) ∷ TrapOn 8 0 (Imm 1) ∷ TrapOn 8 0 (Imm 0) ∷ []

-- what one node runs
abbrev pub block : ℕ → ℕ → ℕ → List Instr
block lines size state = operations lines size state ++ ending

-- the number of instructions of a node
abbrev pub block_length : ℕ → ℕ
block_length size = 4 * size + 3

-- what so many nodes run, one behind the other: the draws go on from node to node
unfoldable pub blocks : ℕ → ℕ → ℕ → ℕ → List Instr
blocks lines size zero state = []
blocks lines size (suc nodes) state = block lines size state ++ blocks lines size nodes (drawn_times size state)

-- a node starts at its own block
abbrev pub start_of_node : ℕ → ℕ → NodeNo × ℕ × ℕ
start_of_node size node = (record { 0 = node }, 0, 4 * block_length size * node)

-- the image of a seed, a mesh and a number of operations of each node
unfoldable pub workload_of : ℕ → ℕ → ℕ → ℕ → Parts
workload_of seed width height size =
    let nodes = width * height in
    record {
      width = width;
      height = height;
      contexts = 1;
      per_node = 4;
      code = map instr_word (blocks (4 * nodes) size nodes seed);
      bodies = [];
      starts = map (start_of_node size) (range_with_len 0 nodes);
      always = [];
    }

-- the most operations of each node, so that the code has no more words than it may
abbrev pub most_operations : ℕ → ℕ → ℕ
most_operations width height = if nat_le width 8 && nat_le height 8 then 255 else 63

-- a mesh, by its columns and rows, and the operations of each node, all within their ranges
pub record IsMesh (sides : ℕ × ℕ) (size : ℕ) : Type 0 where
  pub width : (1 ≤ sides.0) × (sides.0 ≤ 16)
  pub height : (1 ≤ sides.1) × (sides.1 ≤ 16)
  pub operations : (1 ≤ size) × (size ≤ most_operations sides.0 sides.1)
