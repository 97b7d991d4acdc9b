-- Registers hold words: what a turn leaves in them, and what it prints, is below 2^32.
use Rattle.std.proofs.Common.{◌≡◌, ℕ, zero, suc, ◌*◌, ◌/◌, ◌%◌, ◌^◌, ◌<◌, ◌≤◌, ◌==◌, nat_le, nat_lt, Bool, true, false, cond, Option, Some, None, Result, Ok, Err, List, [], ◌∷◌, slice_index, slice_set, slice_get, replicate, refl, sym, subst, arith}
use Rattle.std.specs.Prelude.{⊤, ℤ, pos, negsuc, unsigned_abs}
use Rattle.std.specs.List.{AllByRecursion}
use Rattle.std.specs.Int.{w32, w64, cast_signed, cast_unsigned, int_shr, bit_not, from_bool}
use Rattle.std.proofs.lemmas.Bool.{eqb-true}
use Rattle.std.proofs.lemmas.Int.{ints, of_z-to_z, fits_signed_mul}
use Rattle.std.proofs.Math.Facts.{Fits-of_z}
use Rattle.std.proofs.lemmas.Nat.{and_le_l, or_of_32, xor_of_32, mul-le}
use Rattle.std.proofs.Math.Nat.{div-le_self, pow-le-pow_right}
use Rattle.alw_num.specs.declared.addresses.Line.{Line}
use Rattle.alw_num.specs.declared.addresses.Width.{Width}
use Rattle.alw_num.specs.declared.addresses.Width.TheVariants.{Byte, Half, Word}
use Rattle.alw_num.specs.Lanes.{lane_of}
use Rattle.sparc_table.specs.Registers.{register, with_register, start_of}
use Rattle.sparc_table.specs.Operands.{operand_of, address_of}
use Rattle.sparc_table.specs.Arithmetic.{Computed, computed, logical, with_codes, signed_product, multiplied, assigned, arithmetic, shifted}
use Rattle.sparc_table.specs.Control.{holds, next, transfer, branched}
use Rattle.sparc_table.specs.Access.{width_of, is_load, loaded}
use Rattle.sparc_table.specs.Table.{is_in, instr_of, Fits, FitsOperand}
use Rattle.sparc_table.specs.Meaning.{effect}
use Rattle.sparc_table.specs.Turns.{or_illegal, or_no_access, fetched, run_at, turn_at, turn_of}
use Rattle.sparc_table.specs.Meaning.{need}
use Rattle.sparc_table.specs.declared.registers.Regs.{Regs}
use Rattle.sparc_table.specs.declared.instructions.Instr.{Instr}
use Rattle.sparc_table.specs.declared.instructions.Instr.TheVariants.{Call, Sethi, Branch, Arith, Shift, ReadY, WriteY, Jmpl, TrapOn, Memory}
use Rattle.sparc_table.specs.declared.instructions.Operand.{Operand}
use Rattle.sparc_table.specs.declared.instructions.Operand.TheVariants.{Reg, Imm}
use Rattle.sparc_table.specs.declared.outcomes.Need.{Need}
use Rattle.sparc_table.specs.declared.outcomes.Need.TheVariants as needs
use Rattle.sparc_table.specs.declared.outcomes.Outcome.{Outcome}
use Rattle.sparc_table.specs.declared.outcomes.Outcome.TheVariants.{Done, Miss, Out, Halt, Trap}
use Rattle.sparc_table.proofs.Rows.{table_fits}
use Rattle.sparc_exec.proofs.Lanes.{byte_lane, half_lane, word_lane}
use Rattle.sparc_table.proofs.Effects.{choice}

abbrev IsWord : ℕ → Type 0
IsWord n = n < 2 ^ 32

pub record HoldWords (regs : Regs) : Type 0 where
  pub r : AllByRecursion IsWord regs.r
  pub y : IsWord regs.y
  pub pc : IsWord regs.pc
  pub npc : IsWord regs.npc

-- a word is printed, if anything
abbrev pub PrintsWord : Outcome → Type 0
PrintsWord (Out word) = IsWord word
PrintsWord Done = ⊤
PrintsWord (Miss line mode) = ⊤
PrintsWord Halt = ⊤
PrintsWord (Trap tt) = ⊤

-- the same where the first is only so if the test holds
chosen : {A : Type 0} (P : A → Type 0) (b : Bool) (x y : A) → (b ≡ true → P x) → P y → P (cond b x y)
chosen P true x y h k = h refl
chosen P false x y h k = k

-- ---- registers

word_in : (xs : List ℕ) (i : ℕ) → AllByRecursion IsWord xs → IsWord (slice_index xs i)
word_in [] i all = omega arith
word_in (x ∷ xs) zero all = all.0
word_in (x ∷ xs) (suc i) all = word_in xs i all.1

word_put : (xs : List ℕ) (i value : ℕ) → AllByRecursion IsWord xs → IsWord value → AllByRecursion IsWord (slice_set xs i value)
word_put [] i value all is = tt
word_put (x ∷ xs) zero value all is = (is, all.1)
word_put (x ∷ xs) (suc i) value all is = (all.0, word_put xs i value all.1 is)

zeros : (count : ℕ) → AllByRecursion IsWord (replicate count 0)
zeros zero = tt
zeros (suc count) = (omega arith, zeros count)

pub of_start : (pc o0 o1 : ℕ) → IsWord pc → IsWord o0 → IsWord o1 → HoldWords (start_of pc o0 o1)
of_start pc o0 o1 a b c = record { r = word_put (slice_set (replicate 32 0) 8 o0) 9 o1 (word_put (replicate 32 0) 8 o0 (zeros 32) b) c; y = omega arith; pc = a; npc = omega arith }

module _ (regs : Regs) (hold : HoldWords regs) where
  of_register : (r : ℕ) → IsWord (register regs r)
  of_register r = choice IsWord (r == 0) 0 (slice_index regs.r r) (omega arith) (word_in regs.r r hold.r)

  after_write : (r value : ℕ) → IsWord value → HoldWords (with_register regs r value)
  after_write r value is = choice HoldWords (r == 0) regs (record regs { r = slice_set regs.r r value }) hold
      (record { r = word_put regs.r r value hold.r is; y = hold.y; pc = hold.pc; npc = hold.npc })

  after_next : HoldWords (next regs)
  after_next = record { r = hold.r; y = hold.y; pc = hold.npc; npc = omega arith }

  after_transfer : (target : ℕ) → IsWord target → HoldWords (transfer target regs)
  after_transfer target is = record { r = hold.r; y = hold.y; pc = hold.npc; npc = is }

  after_branch : (annul : Bool) (condition : ℕ) (taken : Bool) (target : ℕ) → IsWord target → HoldWords (branched annul condition taken target regs)
  after_branch annul condition taken target is = choice HoldWords taken _ _
      (choice HoldWords _ _ _ (record { r = hold.r; y = hold.y; pc = is; npc = omega arith }) (after_transfer target is))
      (choice HoldWords annul _ _ (record { r = hold.r; y = hold.y; pc = omega arith; npc = omega arith }) after_next)

  of_operand : (width : ℕ) (operand : Operand) → width ≤ 13 → FitsOperand width operand → IsWord (operand_of operand regs)
  of_operand width (Reg rs2) few fits = of_register rs2
  of_operand width (Imm bits) few fits = choice IsWord (nat_lt bits (2 ^ 12)) _ _ (omega (arith, fits, small)) (omega (arith, fits, small))
    where
      small : bits < 2 ^ 13
      small = let two : zero < 2 = omega arith in let most : 2 ^ width ≤ 2 ^ 13 = pow-le-pow_right two few in omega (arith, fits)

  -- ---- arithmetic

  with_codes_holds : (result : Computed) → HoldWords (with_codes regs result)
  with_codes_holds result = record { r = hold.r; y = hold.y; pc = hold.pc; npc = hold.npc }

of_logical : (low x y : ℕ) → IsWord x → IsWord y → IsWord (logical low x y)
of_logical low x y a b =
    let c : IsWord (bit_not w32 y) = omega arith in
    choice IsWord (low == 0x1) _ _ (omega (arith, and_le_l x y))
    (choice IsWord (low == 0x2) _ _ (or_of_32 x y a b)
    (choice IsWord (low == 0x3) _ _ (xor_of_32 x y a b)
    (choice IsWord (low == 0x5) _ _ (omega (arith, and_le_l x (bit_not w32 y)))
    (choice IsWord (low == 0x6) _ _ (or_of_32 x (bit_not w32 y) a c) (xor_of_32 x (bit_not w32 y) a c)))))

of_computed : (low x y carry : ℕ) → IsWord x → IsWord y → IsWord (computed low x y carry).value
unfolding computed
of_computed low x y carry a b =
    let P : Computed → Type 0 = λ c. IsWord c.value in
    choice P (low == 0x0) _ _ (omega arith)
    (choice P (low == 0x8) _ _ (omega arith)
    (choice P (low == 0x4) _ _ (omega arith)
    (choice P (low == 0xC) _ _ (omega arith) (of_logical low x y a b))))

of_shift : (z : ℤ) (count : ℕ) → IsWord (cast_unsigned w32 z) → IsWord (cast_unsigned w32 (int_shr z count))
of_shift (pos a) count is = omega (arith, is, div-le_self a (2 ^ count))
of_shift (negsuc a) count is = omega arith

of_shifted : (op3 x y : ℕ) → IsWord x → IsWord (shifted op3 x y)
unfolding shifted
of_shifted op3 x y a =
    choice IsWord (op3 == 0x25) _ _ (omega arith)
    (choice IsWord (op3 == 0x26) _ _ (omega (arith, div-le_self x (2 ^ (y % 32))))
    (of_shift (cast_signed w32 x) (y % 32) (subst (λ (n : ℕ). IsWord n) (sym (of_z-to_z w32 x a)) a)))

signed_within : (n : ℕ) → IsWord n → unsigned_abs (cast_signed w32 n) ≤ 2 ^ 31
signed_within n is = omega (arith, ints)

of_signed_product : (x y : ℕ) → IsWord x → IsWord y → signed_product x y < 2 ^ 64
of_signed_product x y a b =
    let fits = Fits-of_z (fits_signed_mul w64 (cast_signed w32 x) (cast_signed w32 y) (2 ^ 31) (2 ^ 31) (signed_within x a) (signed_within y b) (omega arith)) in
    omega (arith, fits)

module _ (regs : Regs) (hold : HoldWords regs) where
  after_product : (rd product : ℕ) → product < 2 ^ 64 → HoldWords (multiplied rd product regs)
  after_product rd product small =
      let low = after_write regs hold rd (product % 2 ^ 32) (omega arith) in
      record { r = low.r; y = omega (arith, small); pc = low.pc; npc = low.npc }

  after_result : (op3 rd : ℕ) (result : Computed) → IsWord result.value → HoldWords (assigned op3 rd result regs)
  after_result op3 rd result is =
      after_write _ (choice HoldWords (nat_le 0x10 op3) (with_codes regs result) regs (with_codes_holds regs hold result) hold) rd result.value is

  after_arithmetic : (op3 rd x y : ℕ) → IsWord x → IsWord y → HoldWords (arithmetic op3 rd x y regs)
  unfolding arithmetic
  after_arithmetic op3 rd x y a b =
      let product : x * y ≤ 4294967295 * 4294967295 = mul-le x y 4294967295 4294967295 (omega arith) (omega arith) in
      choice HoldWords (op3 == 0x0A) _ _ (after_product rd (x * y) (omega (arith, product)))
      (choice HoldWords (op3 == 0x0B) _ _ (after_product rd (signed_product x y) (of_signed_product x y a b))
      (after_result op3 rd (computed (op3 % 16) x y (from_bool regs.c)) (of_computed (op3 % 16) x y (from_bool regs.c) a b)))

-- ---- loads

of_lane : (line : Line) (offset : ℕ) (width : Width) → IsWord (lane_of line offset width)
of_lane line offset Byte = omega (arith, byte_lane line offset)
of_lane line offset Half = omega (arith, half_lane line offset)
of_lane line offset Word = word_lane line offset

of_load : (op3 address : ℕ) (line : Line) → IsWord (loaded op3 address line)
unfolding loaded
of_load op3 address line =
    let at = address % 16 in
    chosen IsWord (op3 == 0x09) _ _
    (λ e. let small : lane_of line at (width_of op3) < 256 = subst (λ (k : ℕ). lane_of line at (width_of k) < 256) (sym (eqb-true op3 0x09 e)) (byte_lane line at) in
    choice IsWord (nat_lt (lane_of line at (width_of op3)) 128) _ _ (omega (arith, small)) (omega (arith, small)))
    (chosen IsWord (op3 == 0x0A) _ _
    (λ e. let small : lane_of line at (width_of op3) < 65536 = subst (λ (k : ℕ). lane_of line at (width_of k) < 65536) (sym (eqb-true op3 0x0A e)) (half_lane line at) in
    choice IsWord (nat_lt (lane_of line at (width_of op3)) 32768) _ _ (omega (arith, small)) (omega (arith, small)))
    (of_lane line at (width_of op3)))

-- ---- instructions

-- the registers that a turn leaves, and what it prints
pub record TurnHolds (after : Regs × Line × Outcome) : Type 0 where
  pub regs : HoldWords after.0
  pub print : PrintsWord after.2

module _ (regs : Regs) (hold : HoldWords regs) (line : Line) where
  quiet : (new : Regs) (left : Line) → HoldWords new → TurnHolds (new, left, Done)
  quiet new left is = record { regs = is; print = tt }

  written_next : (rd value : ℕ) → IsWord value → HoldWords (next (with_register regs rd value))
  written_next rd value is = after_next (with_register regs rd value) (after_write regs hold rd value is)

  of_effect : (instr : Instr) → Fits instr → TurnHolds (effect instr regs line)
  unfolding effect
  of_effect (Call disp) fits = quiet _ line (after_transfer _ (after_write regs hold 15 regs.pc hold.pc) _ (omega arith))
  of_effect (Sethi rd imm) fits = quiet _ line (written_next rd (imm * 1024) (omega (arith, fits.1)))
  of_effect (Branch annul condition disp) fits = quiet _ line (after_branch regs hold annul condition (holds condition regs) _ (omega arith))
  of_effect (Arith op3 rd rs1 operand) fits = quiet _ line (after_next _ (after_arithmetic regs hold op3 rd _ _ (of_register regs hold rs1) (of_operand regs hold 13 operand (omega arith) fits.3)))
  of_effect (Shift op3 rd rs1 operand) fits = quiet _ line (written_next rd _ (of_shifted op3 _ _ (of_register regs hold rs1)))
  of_effect (ReadY rd) fits = quiet _ line (written_next rd regs.y hold.y)
  of_effect (WriteY rs1 operand) fits = quiet _ line
      (record { r = hold.r; y = xor_of_32 _ _ (of_register regs hold rs1) (of_operand regs hold 13 operand (omega arith) fits.1); pc = hold.npc; npc = omega arith })
  of_effect (Jmpl rd rs1 operand) fits =
      let P : Regs × Outcome → Type 0 = λ after. TurnHolds (after.0, line, after.1) in
      choice P (address_of rs1 operand regs % 4 == 0) _ _ (quiet _ line (after_transfer _ (after_write regs hold rd regs.pc hold.pc) _ (omega arith))) (record { regs = hold; print = tt })
  of_effect (TrapOn condition rs1 operand) fits =
      let P : Regs × Outcome → Type 0 = λ after. TurnHolds (after.0, line, after.1) in
      let number = address_of rs1 operand regs % 2 ^ 7 in
      choice P (holds condition regs) _ _
      (choice P (number == 0) _ _ (record { regs = hold; print = tt })
      (choice P (number == 1) _ _ (record { regs = after_next regs hold; print = of_register regs hold 8 }) (record { regs = hold; print = tt })))
      (quiet _ line (after_next regs hold))
  of_effect (Memory op3 rd rs1 operand) fits =
      let address = address_of rs1 operand regs in
      let load = written_next rd (loaded op3 address line) (of_load op3 address line) in
      choice TurnHolds (is_load op3) _ _ (quiet _ line load)
      (choice TurnHolds (is_in (0x0D ∷ 0x0F ∷ []) op3) _ _ (quiet _ _ load) (quiet _ _ (after_next regs hold)))

  still : (type : ℕ) → TurnHolds (regs, line, Trap type)
  still type = record { regs = hold; print = tt }

  of_run : (need : Need) (instr : Instr) → Fits instr → TurnHolds (run_at need instr regs line)
  of_run (needs.Trap type) instr fits = still type
  of_run needs.Nothing instr fits = of_effect instr fits
  of_run (needs.Copy l mode) instr fits = of_effect instr fits

  abbrev FitsIfOk : Result Instr ℕ → Type 0
  FitsIfOk (Ok instr) = Fits instr
  FitsIfOk (Err type) = ⊤

  of_found : (found : Result Instr ℕ) (lines : ℕ) → FitsIfOk found → TurnHolds (turn_at found regs lines line)
  of_found (Ok instr) lines fits = of_run (need instr regs lines) instr fits
  of_found (Err type) lines fits = still type

  legal_fits : (word : ℕ) (found : Option Instr) → found ≡ instr_of word → FitsIfOk (or_illegal found)
  legal_fits word (Some instr) e = table_fits word (Some instr) e
  legal_fits word None e = tt

  fetched_fits : (word : Option ℕ) → FitsIfOk (or_no_access word)
  fetched_fits (Some word) = legal_fits word (instr_of word) refl
  fetched_fits None = tt

  pub of_turn : (code : List ℕ) (lines : ℕ) → TurnHolds (turn_of code regs lines line)
  unfolding turn_of fetched
  of_turn code lines = of_found (fetched code regs.pc) lines (fetched_fits (slice_get code (regs.pc / 4)))
