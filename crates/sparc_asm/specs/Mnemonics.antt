-- The names of statements, and the form of each (SPARC V8 manual, appendix A).
use Rattle.std.specs.Prelude.{ℕ, if◌then◌else◌, List, [], ◌∷◌, Option, Some, None, codes}
use Rattle.std.specs.Str.{bytes_eq}
use Rattle.alw_num.specs.declared.addresses.Width.TheVariants.{Byte, Half, Word}
use Rattle.sparc_asm.specs.declared.mnemonics.Form.{Form}
use Rattle.sparc_asm.specs.declared.mnemonics.Form.TheVariants.{Arith, Shift, Load, Store, Branch, Trap, ReadY, WriteY, Jmpl, Call, Sethi, Nop, Compare, Move, Test, Clear, Jump, ReturnLeaf, Set, Mesh, Contexts, Lines, Text, Shared, Data, Skip, Align, Equ, Start, Always}

-- the names of instructions and of the synthetic forms
abbrev pub mnemonics : List (List ℕ × Form)
mnemonics =
    (codes "add", Arith 0x00) ∷
    (codes "and", Arith 0x01) ∷
    (codes "or", Arith 0x02) ∷
    (codes "xor", Arith 0x03) ∷
    (codes "sub", Arith 0x04) ∷
    (codes "andn", Arith 0x05) ∷
    (codes "orn", Arith 0x06) ∷
    (codes "xnor", Arith 0x07) ∷
    (codes "addx", Arith 0x08) ∷
    (codes "umul", Arith 0x0a) ∷
    (codes "smul", Arith 0x0b) ∷
    (codes "subx", Arith 0x0c) ∷
    (codes "addcc", Arith 0x10) ∷
    (codes "andcc", Arith 0x11) ∷
    (codes "orcc", Arith 0x12) ∷
    (codes "xorcc", Arith 0x13) ∷
    (codes "subcc", Arith 0x14) ∷
    (codes "andncc", Arith 0x15) ∷
    (codes "orncc", Arith 0x16) ∷
    (codes "xnorcc", Arith 0x17) ∷
    (codes "addxcc", Arith 0x18) ∷
    (codes "subxcc", Arith 0x1c) ∷
    (codes "sll", Shift 0x25) ∷
    (codes "srl", Shift 0x26) ∷
    (codes "sra", Shift 0x27) ∷
    (codes "ld", Load 0x00) ∷
    (codes "ldub", Load 0x01) ∷
    (codes "lduh", Load 0x02) ∷
    (codes "ldsb", Load 0x09) ∷
    (codes "ldsh", Load 0x0a) ∷
    (codes "ldstub", Load 0x0d) ∷
    (codes "swap", Load 0x0f) ∷
    (codes "st", Store 0x04) ∷
    (codes "stb", Store 0x05) ∷
    (codes "sth", Store 0x06) ∷
    (codes "bn", Branch 0) ∷
    (codes "be", Branch 1) ∷
    (codes "ble", Branch 2) ∷
    (codes "bl", Branch 3) ∷
    (codes "bleu", Branch 4) ∷
    (codes "bcs", Branch 5) ∷
    (codes "bneg", Branch 6) ∷
    (codes "bvs", Branch 7) ∷
    (codes "ba", Branch 8) ∷
    (codes "bne", Branch 9) ∷
    (codes "bg", Branch 10) ∷
    (codes "bge", Branch 11) ∷
    (codes "bgu", Branch 12) ∷
    (codes "bcc", Branch 13) ∷
    (codes "bpos", Branch 14) ∷
    (codes "bvc", Branch 15) ∷
    (codes "b", Branch 8) ∷
    (codes "bz", Branch 1) ∷
    (codes "bnz", Branch 9) ∷
    (codes "bgeu", Branch 13) ∷
    (codes "blu", Branch 5) ∷
    (codes "tn", Trap 0) ∷
    (codes "te", Trap 1) ∷
    (codes "tle", Trap 2) ∷
    (codes "tl", Trap 3) ∷
    (codes "tleu", Trap 4) ∷
    (codes "tcs", Trap 5) ∷
    (codes "tneg", Trap 6) ∷
    (codes "tvs", Trap 7) ∷
    (codes "ta", Trap 8) ∷
    (codes "tne", Trap 9) ∷
    (codes "tg", Trap 10) ∷
    (codes "tge", Trap 11) ∷
    (codes "tgu", Trap 12) ∷
    (codes "tcc", Trap 13) ∷
    (codes "tpos", Trap 14) ∷
    (codes "tvc", Trap 15) ∷
    (codes "rd", ReadY) ∷
    (codes "wr", WriteY) ∷
    (codes "jmpl", Jmpl) ∷
    (codes "call", Call) ∷
    (codes "sethi", Sethi) ∷
    (codes "nop", Nop) ∷
    (codes "cmp", Compare) ∷
    (codes "mov", Move) ∷
    (codes "tst", Test) ∷
    (codes "clr", Clear) ∷
    (codes "jmp", Jump) ∷
    (codes "retl", ReturnLeaf) ∷
    (codes "set", Set) ∷
    []

-- the names of directives, without their dot
abbrev pub directives : List (List ℕ × Form)
directives =
    (codes "mesh", Mesh) ∷
    (codes "contexts", Contexts) ∷
    (codes "lines", Lines) ∷
    (codes "text", Text) ∷
    (codes "shared", Shared) ∷
    (codes "word", Data Word) ∷
    (codes "half", Data Half) ∷
    (codes "byte", Data Byte) ∷
    (codes "skip", Skip) ∷
    (codes "align", Align) ∷
    (codes "equ", Equ) ∷
    (codes "start", Start) ∷
    (codes "always", Always) ∷
    []

-- the form in the row with a name
abbrev pub row_of : List ℕ → List (List ℕ × Form) → Option Form
row_of name [] = None
row_of name (row ∷ rest) = if bytes_eq row.0 name then Some row.1 else row_of name rest

-- the form of the instruction with a name
unfoldable pub form_of : List ℕ → Option Form
form_of name = row_of name mnemonics

-- the form of the directive with a name
unfoldable pub directive_of : List ℕ → Option Form
directive_of name = row_of name directives
