-- What loads, stores, LDSTUB and SWAP need, read and write (SPARC V8 manual, appendix B.1, B.4, B.7 and B.8).
use Rattle.std.specs.Prelude.{ℕ, ◌-◌, ◌/◌, ◌%◌, Bool, cond, ◌&&◌, ◌==◌, nat_le, nat_lt, [], ◌∷◌}
use Rattle.alw_num.specs.Lanes.{bytes_in, lane_of, with_lane_of}
use Rattle.alw_num.specs.Limits.{shared_base}
use Rattle.alw_num.specs.declared.addresses.Line.{Line}
use Rattle.alw_num.specs.declared.addresses.Width.{Width}
use Rattle.alw_num.specs.declared.addresses.Width.TheVariants.{Byte, Half, Word}
use Rattle.alw_num.specs.declared.states.Mode.{Mode}
use Rattle.alw_num.specs.declared.states.Mode.TheVariants.{Read, Write}
use Rattle.sparc_table.specs.Operands.{sign_extended}
use Rattle.sparc_table.specs.Table.{is_in}
use Rattle.sparc_table.specs.declared.outcomes.Need.{Need}
use Rattle.sparc_table.specs.declared.outcomes.Need.TheVariants.{Copy, Trap}

-- the width of an access: LDUB, STB, LDSB and LDSTUB take a byte, LDUH, STH and LDSH two, all others a word
abbrev pub width_of : ℕ → Width
width_of op3 = cond (is_in (0x01 ∷ 0x05 ∷ 0x09 ∷ 0x0D ∷ []) op3) Byte (cond (is_in (0x02 ∷ 0x06 ∷ 0x0A ∷ []) op3) Half Word)

-- LD, LDUB, LDUH, LDSB and LDSH load, and write nothing
abbrev pub is_load : ℕ → Bool
is_load op3 = is_in (0x00 ∷ 0x01 ∷ 0x02 ∷ 0x09 ∷ 0x0A ∷ []) op3

-- what an access needs its line for
abbrev pub mode_of : ℕ → Mode
mode_of op3 = cond (is_load op3) Read Write

-- an address lies in one of the lines of shared data
abbrev pub is_shared : ℕ → ℕ → Bool
is_shared address lines = nat_le shared_base address && nat_lt ((address - shared_base) / 16) lines

-- an access needs a copy of its line: it traps where the address isn't aligned, and then where it lies in no line
abbrev pub needed : ℕ → Width → Mode → ℕ → Need
needed address width mode lines =
    cond (address % bytes_in width == 0)
    (cond (is_shared address lines) (Copy (record { 0 = (address - shared_base) / 16 }) mode) (Trap 0x09))
    (Trap 0x07)

-- what a load, LDSTUB or SWAP gives rd: the lane's number, sign-extended by LDSB and LDSH
unfoldable pub loaded : ℕ → ℕ → Line → ℕ
loaded op3 address line =
    let value = lane_of line (address % 16) (width_of op3) in
    cond (op3 == 0x09) (sign_extended 8 value) (cond (op3 == 0x0A) (sign_extended 16 value) value)

-- what a store or SWAP leaves of the line, which writes the low bits of rd, and what LDSTUB leaves, which writes FF
unfoldable pub stored : ℕ → ℕ → ℕ → Line → Line
stored op3 address value line = with_lane_of line (address % 16) (width_of op3) (cond (op3 == 0x0D) 0xFF value)
