-- The op3 of an instruction, by its name (SPARC V8 manual, appendix F, opcodes).
use Rattle.std.specs.Prelude.{ℕ, ◌+◌}
use Rattle.sparc_exec.specs.declared.arithmetic.Operation.{Operation}
use Rattle.sparc_exec.specs.declared.arithmetic.Operation.TheVariants.{Add, And, Or, Xor, Sub, Andn, Orn, Xnor, Addx, Subx}
use Rattle.sparc_exec.specs.declared.arithmetic.Arithmetic.{Arithmetic}
use Rattle.sparc_exec.specs.declared.arithmetic.Arithmetic.TheVariants.{Plain, Coded, Umul, Smul}
use Rattle.sparc_exec.specs.declared.arithmetic.Shift.{Shift}
use Rattle.sparc_exec.specs.declared.arithmetic.Shift.TheVariants.{Left, Right, SignedRight}

-- the low four bits
abbrev pub low_of : Operation → ℕ
low_of Add = 0x0
low_of And = 0x1
low_of Or = 0x2
low_of Xor = 0x3
low_of Sub = 0x4
low_of Andn = 0x5
low_of Orn = 0x6
low_of Xnor = 0x7
low_of Addx = 0x8
low_of Subx = 0xC

-- the op3 of an instruction of arithmetic or logic
abbrev pub op3_of_arithmetic : Arithmetic → ℕ
op3_of_arithmetic (Plain operation) = low_of operation
op3_of_arithmetic (Coded operation) = 0x10 + low_of operation
op3_of_arithmetic Umul = 0x0A
op3_of_arithmetic Smul = 0x0B

-- the op3 of a shift
abbrev pub op3_of_shift : Shift → ℕ
op3_of_shift Left = 0x25
op3_of_shift Right = 0x26
op3_of_shift SignedRight = 0x27
