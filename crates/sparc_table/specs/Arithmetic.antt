-- What arithmetic, logic and shifts leave in the registers (SPARC V8 manual, appendix B.11 to B.13, B.15 and B.18).
use Rattle.std.specs.Prelude.{ℕ, ◌+◌, ◌-◌, ◌*◌, ◌/◌, ◌%◌, ◌^◌, Bool, false, cond, not, ◌&&◌, ◌==◌, nat_le, nat_lt, bit_and, bit_or, bit_xor, ◌*ℤ◌}
use Rattle.std.specs.Int.{w32, w64, bit_not, cast_signed, cast_unsigned, from_bool, int_shr}
use Rattle.sparc_table.specs.Fields.{bits_of}
use Rattle.sparc_table.specs.Registers.{with_register, differ}
use Rattle.sparc_table.specs.declared.registers.Regs.{Regs}

-- the sign of a word: bit 31
abbrev pub sign_of : ℕ → Bool
sign_of value = bits_of 31 1 value == 1

-- a result with the overflow and carry codes that come with it
pub record Computed : Type 0 where
  pub value : ℕ
  pub overflow : Bool
  pub carry : Bool

-- an addition: overflow where the operands have one sign and the sum the other, carry out of bit 31
abbrev pub added : ℕ → ℕ → ℕ → Computed
added x y carry =
    let value = (x + y + carry) % 2 ^ 32 in
    record { value = value; overflow = not (differ (sign_of x) (sign_of y)) && differ (sign_of value) (sign_of x); carry = nat_le (2 ^ 32) (x + y + carry) }

-- a subtraction: overflow where the operands' signs differ and the difference's sign is not x's, carry where it borrows
abbrev pub subtracted : ℕ → ℕ → ℕ → Computed
subtracted x y borrow =
    let value = (x + (2 ^ 32 - (y + borrow))) % 2 ^ 32 in
    record { value = value; overflow = differ (sign_of x) (sign_of y) && differ (sign_of value) (sign_of x); carry = nat_lt x (y + borrow) }

-- AND, OR, XOR, ANDN, ORN and XNOR, by the low four bits of op3
abbrev pub logical : ℕ → ℕ → ℕ → ℕ
logical low x y =
    cond (low == 0x1) (bit_and x y)
    (cond (low == 0x2) (bit_or x y)
    (cond (low == 0x3) (bit_xor x y)
    (cond (low == 0x5) (bit_and x (bit_not w32 y))
    (cond (low == 0x6) (bit_or x (bit_not w32 y))
    (bit_xor x (bit_not w32 y))))))

-- ADD, ADDX, SUB, SUBX and the logical ones, which clear overflow and carry, by the low four bits of op3
unfoldable pub computed : ℕ → ℕ → ℕ → ℕ → Computed
computed low x y carry =
    cond (low == 0x0) (added x y 0)
    (cond (low == 0x8) (added x y carry)
    (cond (low == 0x4) (subtracted x y 0)
    (cond (low == 0xC) (subtracted x y carry)
    (record { value = logical low x y; overflow = false; carry = false }))))

-- the registers with the codes of a result
abbrev pub with_codes : Regs → Computed → Regs
with_codes regs result = record regs { n = sign_of result.value; z = result.value == 0; v = result.overflow; c = result.carry }

-- the product of two signed words, as the 64 bits that hold it
abbrev pub signed_product : ℕ → ℕ → ℕ
signed_product x y = cast_unsigned w64 (cast_signed w32 x *ℤ cast_signed w32 y)

-- UMUL and SMUL: rd gets the low 32 bits of the product and Y the high ones
abbrev pub multiplied : ℕ → ℕ → Regs → Regs
multiplied rd product regs = record (with_register regs rd (product % 2 ^ 32)) { y = product / 2 ^ 32 }

-- all others: rd gets the result, and from op3 0x10 on the codes are set
abbrev pub assigned : ℕ → ℕ → Computed → Regs → Regs
assigned op3 rd result regs = with_register (cond (nat_le 0x10 op3) (with_codes regs result) regs) rd result.value

-- the rows of arithmetic and of the forms that set codes
unfoldable pub arithmetic : ℕ → ℕ → ℕ → ℕ → Regs → Regs
arithmetic op3 rd x y regs =
    cond (op3 == 0x0A) (multiplied rd (x * y) regs)
    (cond (op3 == 0x0B) (multiplied rd (signed_product x y) regs)
    (assigned op3 rd (computed (op3 % 16) x y (from_bool regs.c)) regs))

-- SLL, SRL and SRA by the low five bits of the operand
unfoldable pub shifted : ℕ → ℕ → ℕ → ℕ
shifted op3 x y =
    cond (op3 == 0x25) (x * 2 ^ (y % 32) % 2 ^ 32)
    (cond (op3 == 0x26) (x / 2 ^ (y % 32))
    (cast_unsigned w32 (int_shr (cast_signed w32 x) (y % 32))))
