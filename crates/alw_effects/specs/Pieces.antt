-- The pieces of what a turn did, each behind a blank. A piece begins with its word, and its fields stand behind it in a fixed order.
use Rattle.std.specs.Prelude.{ℕ, Bool, cond, List, [], ◌∷◌, ◌++◌, codes}
use Rattle.std.specs.Fmt.{decimal}
use Rattle.alw_num.specs.declared.addresses.Width.{Width}
use Rattle.alw_num.specs.Lanes.{bytes_in}
use Rattle.alw_text.specs.Numbers.{hex_byte, hex_word}
use Rattle.sparc_table.specs.declared.registers.Regs.{Regs}
use Rattle.sparc_text.specs.Statements.{register_text, statement_at}

-- a PC, and the statement there
unfoldable pub stood_text : List ℕ → ℕ → List ℕ
stood_text code pc = codes " pc " ++ (hex_word pc ++ (codes " " ++ statement_at code pc))

-- a register with the word that it was given
unfoldable pub sets_text : ℕ → ℕ → List ℕ
sets_text register word = codes " sets " ++ (register_text register ++ (codes " " ++ hex_word word))

-- a condition code as a digit
abbrev pub flag_digit : Bool → ℕ
flag_digit set = cond set 49 48

-- the condition codes N, Z, V and C, as a checkpoint spells them
abbrev pub flags_text : Regs → List ℕ
flags_text regs = flag_digit regs.n ∷ flag_digit regs.z ∷ flag_digit regs.v ∷ flag_digit regs.c ∷ []

unfoldable pub codes_text : Regs → List ℕ
codes_text regs = codes " codes " ++ flags_text regs

-- Y
unfoldable pub y_text : ℕ → List ℕ
y_text word = codes " y " ++ hex_word word

-- bytes of shared data that were read or written: their address, how many, and the number that they spell
abbrev pub moved_text : ℕ → Width → ℕ → List ℕ
moved_text address width value = hex_word address ++ (codes " " ++ (decimal (bytes_in width) ++ (codes " " ++ hex_word value)))

unfoldable pub reads_text : ℕ → Width → ℕ → List ℕ
reads_text address width value = codes " reads " ++ moved_text address width value

unfoldable pub writes_text : ℕ → Width → ℕ → List ℕ
writes_text address width value = codes " writes " ++ moved_text address width value

-- where control went
unfoldable pub taken_text : ℕ → List ℕ
taken_text target = codes " taken " ++ hex_word target

unfoldable pub prints_text : ℕ → List ℕ
prints_text word = codes " prints " ++ hex_word word

unfoldable pub traps_text : ℕ → List ℕ
traps_text tt = codes " traps " ++ hex_byte tt
