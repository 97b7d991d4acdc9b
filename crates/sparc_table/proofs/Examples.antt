-- Worked words of the table, and worked turns.
use Rattle.std.proofs.Common.{◌≡◌, ℕ, zero, suc, ◌∷◌, [], List, Some, None, refl, true, false}
use Rattle.alw_num.specs.declared.addresses.Line.{Line}
use Rattle.alw_num.specs.declared.states.Mode.TheVariants.{Read}
use Rattle.sparc_table.specs.Table.{instr_of}
use Rattle.sparc_table.specs.Registers.{start_of, register, with_register}
use Rattle.sparc_table.specs.Arithmetic.{arithmetic, computed, shifted}
use Rattle.sparc_table.specs.Control.{holds}
use Rattle.sparc_table.specs.Access.{loaded, stored}
use Rattle.sparc_table.specs.Meaning.{need, effect}
use Rattle.sparc_table.specs.Turns.{fetched, need_of, turn_of}
use Rattle.sparc_table.specs.declared.registers.Regs.{Regs}
use Rattle.sparc_table.specs.declared.instructions.Operand.TheVariants.{Reg, Imm}
use Rattle.sparc_table.specs.declared.instructions.Instr.TheVariants.{Sethi, Branch, Arith, Jmpl, TrapOn, Memory}
use Rattle.sparc_table.specs.declared.outcomes.Need.TheVariants as needs
use Rattle.sparc_table.specs.declared.outcomes.Outcome.TheVariants as ends

-- ---- words

-- add %g1,5,%g2
add : instr_of 0x84006005 ≡ Some (Arith 0x00 2 1 (Imm 5))
unfolding instr_of
add = refl

nop : instr_of 0x01000000 ≡ Some (Sethi 0 0)
unfolding instr_of
nop = refl

retl : instr_of 0x81C3E008 ≡ Some (Jmpl 0 15 (Imm 8))
unfolding instr_of
retl = refl

-- ld [%g1],%o0
ld : instr_of 0xD0004000 ≡ Some (Memory 0x00 8 1 (Reg 0))
unfolding instr_of
ld = refl

-- st %o1,[%g1]
st : instr_of 0xD2204000 ≡ Some (Memory 0x04 9 1 (Reg 0))
unfolding instr_of
st = refl

-- sethi %hi(0x40000000),%g1
sethi : instr_of 0x03100000 ≡ Some (Sethi 1 0x100000)
unfolding instr_of
sethi = refl

-- ba,a .
ba : instr_of 0x30800000 ≡ Some (Branch true 8 0)
unfolding instr_of
ba = refl

-- ta 1
ta : instr_of 0x91D02001 ≡ Some (TrapOn 8 0 (Imm 1))
unfolding instr_of
ta = refl

zero_word : instr_of 0 ≡ None
unfolding instr_of
zero_word = refl

-- ---- turns

abbrev zeros : Line
zeros = record { a = 0; b = 0; c = 0; d = 0 }

-- the registers after some turns from address 0, on a line that stays zero
after : List ℕ → ℕ → Regs
after code zero = start_of 0 0 0
after code (suc n) = (turn_of code (after code n) 1 zeros).0

-- mov 1,%o0; ba 0x10; add %o0,1,%o0; nop; ta 1; ta 0
abbrev delayed : List ℕ
delayed = 0x90102001 ∷ 0x10800003 ∷ 0x90022001 ∷ 0x01000000 ∷ 0x91D02001 ∷ 0x91D02000 ∷ []

-- the same with ba,a
abbrev annulled : List ℕ
annulled = 0x90102001 ∷ 0x30800003 ∷ 0x90022001 ∷ 0x01000000 ∷ 0x91D02001 ∷ 0x91D02000 ∷ []

-- sethi %hi(0x40000000),%g1, and then one word
abbrev at_base : ℕ → List ℕ
at_base word = 0x03100000 ∷ word ∷ []

slot_runs : (turn_of delayed (after delayed 3) 1 zeros).2 ≡ ends.Out 2
unfolding after turn_of fetched instr_of need effect arithmetic computed holds
slot_runs = refl

delayed_halts : (turn_of delayed (after delayed 4) 1 zeros).2 ≡ ends.Halt
unfolding after turn_of fetched instr_of need effect arithmetic computed holds
delayed_halts = refl

slot_is_annulled : (turn_of annulled (after annulled 2) 1 zeros).2 ≡ ends.Out 1
unfolding after turn_of fetched instr_of need effect arithmetic computed holds
slot_is_annulled = refl

-- ba,a . stays where it is
loops : (turn_of (0x30800000 ∷ []) (start_of 0 0 0) 1 zeros).0 ≡ start_of 0 0 0
unfolding turn_of fetched instr_of need effect holds
loops = refl

-- ld [%g1+2],%o0
unaligned : need_of (at_base 0xD0006002) (after (at_base 0xD0006002) 1) 1 ≡ needs.Trap 0x07
unfolding after turn_of need_of fetched instr_of need effect
unaligned = refl

-- ld [%g1+16],%o0 with one line
past_lines : (turn_of (at_base 0xD0006010) (after (at_base 0xD0006010) 1) 1 zeros).2 ≡ ends.Trap 0x09
unfolding after turn_of fetched instr_of need effect
past_lines = refl

-- ld [%g1+16],%o0 with two
second_line : need_of (at_base 0xD0006010) (after (at_base 0xD0006010) 1) 2 ≡ needs.Copy (record { 0 = 1 }) Read
unfolding after turn_of need_of fetched instr_of need effect
second_line = refl

-- st %o0,[%g0]
below_lines : need_of (0xD0200000 ∷ []) (start_of 0 0 0) 1 ≡ needs.Trap 0x09
unfolding need_of fetched instr_of need
below_lines = refl

-- nop, and then no more code
code_ends : need_of (0x01000000 ∷ []) (after (0x01000000 ∷ []) 1) 1 ≡ needs.Trap 0x01
unfolding after turn_of need_of fetched instr_of need effect
code_ends = refl

outside : need_of (0 ∷ []) (start_of 0 0 0) 1 ≡ needs.Trap 0x02
unfolding need_of fetched instr_of
outside = refl

-- ldstub [%g1+6],%o0 takes byte 6 and leaves FF there
test_and_set : (effect (Memory 0x0D 8 1 (Imm 6)) (with_register (start_of 0 0 0) 1 0x40000000) (record { a = 0; b = 0x01020304; c = 0; d = 0 })).1 ≡ record { a = 0; b = 0x0102FF04; c = 0; d = 0 }
unfolding effect loaded stored
test_and_set = refl

test_and_set_byte : register (effect (Memory 0x0D 8 1 (Imm 6)) (with_register (start_of 0 0 0) 1 0x40000000) (record { a = 0; b = 0x01020304; c = 0; d = 0 })).0 8 ≡ 3
unfolding effect loaded stored
test_and_set_byte = refl

-- swap [%g1],%g1 exchanges the address and the word
exchanged : (effect (Memory 0x0F 1 1 (Reg 0)) (with_register (start_of 0 0 0) 1 0x40000000) (record { a = 5; b = 0; c = 0; d = 0 })).1 ≡ record { a = 0x40000000; b = 0; c = 0; d = 0 }
unfolding effect loaded stored
exchanged = refl

-- ldsb of FF is -1, and ldsh of 8000 is -32768
signed_byte : loaded 0x09 0x40000003 (record { a = 0xFF; b = 0; c = 0; d = 0 }) ≡ 0xFFFFFFFF
unfolding loaded
signed_byte = refl

signed_half : loaded 0x0A 0x40000002 (record { a = 0x8000; b = 0; c = 0; d = 0 }) ≡ 0xFFFF8000
unfolding loaded
signed_half = refl

-- -1 times 2, signed, has the high word -1
signed_times : (arithmetic 0x0B 8 0xFFFFFFFF 2 (start_of 0 0 0)).y ≡ 0xFFFFFFFF
unfolding arithmetic
signed_times = refl

unsigned_times : (arithmetic 0x0A 8 0xFFFFFFFF 2 (start_of 0 0 0)).y ≡ 1
unfolding arithmetic
unsigned_times = refl

sra : shifted 0x27 0x80000000 4 ≡ 0xF8000000
unfolding shifted
sra = refl

-- a count of 35 is 3
sll : shifted 0x25 1 35 ≡ 8
unfolding shifted
sll = refl

-- 0 - 1 borrows and doesn't overflow; 80000000 - 1 overflows and doesn't borrow
borrows : computed 0x4 0 1 0 ≡ record { value = 0xFFFFFFFF; overflow = false; carry = true }
unfolding computed
borrows = refl

overflows : computed 0x4 0x80000000 1 0 ≡ record { value = 0x7FFFFFFF; overflow = true; carry = false }
unfolding computed
overflows = refl
