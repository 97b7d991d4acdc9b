-- What an instruction reads: the two operands of format 3, and the sum that JMPL, Ticc and the accesses take (SPARC V8 manual, chapter 5, instruction formats).
use Rattle.std.specs.Prelude.{ℕ, ◌+◌, ◌-◌, ◌%◌, ◌^◌, cond, nat_lt}
use Rattle.sparc_table.specs.Registers.{register}
use Rattle.sparc_table.specs.declared.registers.Regs.{Regs}
use Rattle.sparc_table.specs.declared.instructions.Operand.{Operand}
use Rattle.sparc_table.specs.declared.instructions.Operand.TheVariants.{Reg, Imm}

-- a number of `width` bits, sign-extended to 32
abbrev pub sign_extended : ℕ → ℕ → ℕ
sign_extended width bits = cond (nat_lt bits (2 ^ (width - 1))) bits (bits + (2 ^ 32 - 2 ^ width))

-- the second operand: a register, or simm13
abbrev pub operand_of : Operand → Regs → ℕ
operand_of (Reg rs2) regs = register regs rs2
operand_of (Imm bits) regs = sign_extended 13 bits

-- the sum of both operands: a target, a trap number or an address
abbrev pub address_of : ℕ → Operand → Regs → ℕ
address_of rs1 operand regs = (register regs rs1 + operand_of operand regs) % 2 ^ 32
