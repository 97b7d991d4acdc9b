-- The fields of an instruction word (SPARC V8 manual, chapter 5, instruction formats).
use Rattle.std.specs.Prelude.{ℕ, ◌/◌, ◌%◌, ◌^◌}

-- the bits of a word from bit `low` on, as many as `width`
abbrev pub bits_of : ℕ → ℕ → ℕ → ℕ
bits_of low width word = word / 2 ^ low % 2 ^ width

-- bits 31 to 30: the format
abbrev pub op_of : ℕ → ℕ
op_of word = bits_of 30 2 word

-- bits 24 to 22: which instruction of format 2
abbrev pub op2_of : ℕ → ℕ
op2_of word = bits_of 22 3 word

-- bits 24 to 19: which instruction of format 3
abbrev pub op3_of : ℕ → ℕ
op3_of word = bits_of 19 6 word

-- bits 29 to 25: the register written, or stored
abbrev pub rd_of : ℕ → ℕ
rd_of word = bits_of 25 5 word

-- bits 18 to 14: the first register read
abbrev pub rs1_of : ℕ → ℕ
rs1_of word = bits_of 14 5 word

-- bit 13: whether the operand is a number
abbrev pub i_of : ℕ → ℕ
i_of word = bits_of 13 1 word

-- bits 12 to 5, which are 0 beside a register as operand
abbrev pub unused_of : ℕ → ℕ
unused_of word = bits_of 5 8 word

-- bits 4 to 0: the register that is the operand
abbrev pub rs2_of : ℕ → ℕ
rs2_of word = bits_of 0 5 word

-- bit 29: the annul bit of a branch
abbrev pub annul_of : ℕ → ℕ
annul_of word = bits_of 29 1 word

-- bits 28 to 25: a condition
abbrev pub cond_of : ℕ → ℕ
cond_of word = bits_of 25 4 word
