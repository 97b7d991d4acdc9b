-- What a turn leaves: registers with words in them, the first still 0, and a line of words; and a trap's type is one byte.
use Rattle.std.proofs.Common.{◌≡◌, ℕ, zero, suc, ◌+◌, ◌/◌, ◌%◌, ◌^◌, ◌<◌, ◌==◌, nat_le, Bool, true, false, cond, Option, Some, None, List, [], ◌∷◌, ◌++◌, length, slice_index, slice_set, slice_get, refl, ◌∙◌, arith}
use Rattle.std.specs.Prelude.{⊤}
use Rattle.std.specs.Int.{w32, to_be_bytes}
use Rattle.std.specs.List.{AllByRecursion}
use Rattle.std.proofs.lemmas.List.{length-set}
use Rattle.alw_num.specs.declared.addresses.Line.{Line}
use Rattle.alw_num.specs.declared.addresses.Width.{Width}
use Rattle.alw_num.specs.declared.addresses.Width.TheVariants.{Byte, Half, Word}
use Rattle.alw_num.specs.Lanes.{bytes_in, bytes_of, line_from, put_half, put_lane, word_at}
use Rattle.sparc_table.specs.Registers.{with_register}
use Rattle.sparc_table.specs.Operands.{address_of}
use Rattle.sparc_table.specs.Arithmetic.{Computed, with_codes, multiplied, assigned, arithmetic}
use Rattle.sparc_table.specs.Control.{holds, branched}
use Rattle.sparc_table.specs.Access.{width_of, is_load, is_shared, stored}
use Rattle.sparc_table.specs.Table.{is_in, instr_of}
use Rattle.sparc_table.specs.Meaning.{need, effect, beside}
use Rattle.sparc_table.specs.Turns.{or_illegal, or_no_access, fetched, run_at, turn_at, turn_of}
use Rattle.sparc_table.specs.declared.registers.Regs.{Regs}
use Rattle.sparc_table.specs.declared.instructions.Instr.{Instr}
use Rattle.sparc_table.specs.declared.instructions.Instr.TheVariants.{Call, Sethi, Branch, Arith, Shift, ReadY, WriteY, Jmpl, TrapOn, Memory}
use Rattle.sparc_table.specs.declared.outcomes.Need.{Need}
use Rattle.sparc_table.specs.declared.outcomes.Need.TheVariants as needs
use Rattle.sparc_table.specs.declared.outcomes.Outcome.{Outcome}
use Rattle.sparc_table.specs.declared.outcomes.Outcome.TheVariants.{Done, Miss, Out, Halt, Trap}
use Rattle.sparc_exec.proofs.RegisterWords.{HoldWords, of_turn}
use Rattle.alw_image.specs.Numbers.{IsWord}
use Rattle.law_texts.specs.Words.{AreWords, AreRegisters}
use Rattle.law_order.proofs.Aims.{every_set, every_at}
use Rattle.sparc_table.proofs.Effects.{choice}
use Rattle.sparc_exec.proofs.Lanes.{bytes_of_are}

-- ---- the bytes of a line

abbrev IsByte : ℕ → Type 0
IsByte n = n < 256

abbrev AreBytes : List ℕ → Type 0
AreBytes bytes = AllByRecursion IsByte bytes

four_before : (word : ℕ) (bytes : List ℕ) → AreBytes bytes → AreBytes (to_be_bytes w32 word ++ bytes)
four_before word bytes all = (omega arith, (omega arith, (omega arith, (omega arith, all))))

byte_at : (bytes : List ℕ) (i : ℕ) → AreBytes bytes → IsByte (slice_index bytes i)
byte_at bytes i all = every_at IsByte bytes i 0 all (omega arith)

half_put : (bytes : List ℕ) (i value : ℕ) → AreBytes bytes → AreBytes (put_half bytes i value)
half_put bytes i value all =
    let high = value / 256 % 256 in
    every_set IsByte (slice_set bytes i high) (i + 1) (value % 256) (every_set IsByte bytes i high all (omega arith)) (omega arith)

lane_put : (bytes : List ℕ) (i : ℕ) (width : Width) (value : ℕ) → AreBytes bytes → AreBytes (put_lane bytes i width value)
lane_put bytes i Byte value all = every_set IsByte bytes i (value % 256) all (omega arith)
lane_put bytes i Half value all = half_put bytes i value all
lane_put bytes i Word value all = half_put (put_half bytes i (value / 65536)) (i + 2) value (half_put bytes i (value / 65536) all)

words_from : (bytes : List ℕ) → AreBytes bytes → AreWords (line_from bytes)
words_from bytes all = (word 0, (word 4, (word 8, word 12)))
  where
    word : (i : ℕ) → IsWord (word_at bytes i)
    word i = omega (arith, byte_at bytes i all, byte_at bytes (i + 1) all, byte_at bytes (i + 2) all, byte_at bytes (i + 2 + 1) all)

stored_words : (op3 address value : ℕ) (line : Line) → AreWords (stored op3 address value line)
unfolding stored
stored_words op3 address value line = words_from _ (lane_put (bytes_of line) (address % 16) (width_of op3) _ (bytes_of_are line))

-- ---- registers

-- 32 registers, of which the first is 0
record HasShape (r : List ℕ) : Type 0 where
  count : length r ≡ 32
  first : slice_index r 0 ≡ 0

abbrev Shaped : Regs → Type 0
Shaped regs = HasShape regs.r

written : (regs : Regs) (r value : ℕ) → Shaped regs → Shaped (with_register regs r value)
written regs r value shape = go (r == 0) refl
  where
    still : (xs : List ℕ) (i : ℕ) → (i == 0) ≡ false → slice_index (slice_set xs i value) 0 ≡ slice_index xs 0
    still [] i apart = refl
    still (x ∷ rest) zero apart = absurd (cc)
    still (x ∷ rest) (suc i) apart = refl

    go : (b : Bool) → (r == 0) ≡ b → Shaped (cond b regs (record regs { r = slice_set regs.r r value }))
    go true e = shape
    go false e = record { count = length-set regs.r r value ∙ shape.count; first = still regs.r r e ∙ shape.first }

shaped_branch : (annul : Bool) (condition : ℕ) (taken : Bool) (target : ℕ) (regs : Regs) → Shaped regs → Shaped (branched annul condition taken target regs)
shaped_branch annul condition taken target regs shape = choice Shaped taken _ _ (choice Shaped _ _ _ shape shape) (choice Shaped annul _ _ shape shape)

shaped_assigned : (op3 rd : ℕ) (result : Computed) (regs : Regs) → Shaped regs → Shaped (assigned op3 rd result regs)
shaped_assigned op3 rd result regs shape = written _ rd result.value (choice Shaped (nat_le 0x10 op3) (with_codes regs result) regs shape shape)

shaped_product : (rd product : ℕ) (regs : Regs) → Shaped regs → Shaped (multiplied rd product regs)
shaped_product rd product regs shape = let low = written regs rd (product % 2 ^ 32) shape in record { count = low.count; first = low.first }

shaped_arithmetic : (op3 rd x y : ℕ) (regs : Regs) → Shaped regs → Shaped (arithmetic op3 rd x y regs)
unfolding arithmetic
shaped_arithmetic op3 rd x y regs shape =
    choice Shaped (op3 == 0x0A) _ _ (shaped_product rd _ regs shape)
    (choice Shaped (op3 == 0x0B) _ _ (shaped_product rd _ regs shape) (shaped_assigned op3 rd _ regs shape))

-- ---- instructions

-- a trap's type is one byte
abbrev pub TrapsByByte : Outcome → Type 0
TrapsByByte (Trap type) = type < 256
TrapsByByte Done = ⊤
TrapsByByte (Miss line mode) = ⊤
TrapsByByte (Out word) = ⊤
TrapsByByte Halt = ⊤

record Leaves (after : Regs × Line × Outcome) : Type 0 where
  regs : Shaped after.0
  line : AreWords after.1
  trap : TrapsByByte after.2

abbrev NeedsByByte : Need → Type 0
NeedsByByte (needs.Trap type) = type < 256
NeedsByByte needs.Nothing = ⊤
NeedsByByte (needs.Copy line mode) = ⊤

need_traps : (instr : Instr) (regs : Regs) (lines : ℕ) → NeedsByByte (need instr regs lines)
unfolding need
need_traps (Memory op3 rd rs1 operand) regs lines =
    let address = address_of rs1 operand regs in
    choice NeedsByByte (address % bytes_in (width_of op3) == 0) _ _ (choice NeedsByByte (is_shared address lines) _ _ tt (omega arith)) (omega arith)
need_traps (Call disp) regs lines = tt
need_traps (Sethi rd imm) regs lines = tt
need_traps (Branch annul condition disp) regs lines = tt
need_traps (Arith op3 rd rs1 operand) regs lines = tt
need_traps (Shift op3 rd rs1 operand) regs lines = tt
need_traps (ReadY rd) regs lines = tt
need_traps (WriteY rs1 operand) regs lines = tt
need_traps (Jmpl rd rs1 operand) regs lines = tt
need_traps (TrapOn condition rs1 operand) regs lines = tt

module _ (regs : Regs) (shape : Shaped regs) (line : Line) (are : AreWords line) where
  quiet : (new : Regs) (left : Line) → Shaped new → AreWords left → Leaves (new, left, Done)
  quiet new left new_shape words = record { regs = new_shape; line = words; trap = tt }

  stopped : (type : ℕ) → type < 256 → Leaves (regs, line, Trap type)
  stopped type byte = record { regs = shape; line = are; trap = byte }

  of_effect : (instr : Instr) → Leaves (effect instr regs line)
  unfolding effect
  of_effect (Call disp) = quiet _ line (written regs 15 regs.pc shape) are
  of_effect (Sethi rd imm) = quiet _ line (written regs rd _ shape) are
  of_effect (Branch annul condition disp) = quiet _ line (shaped_branch annul condition (holds condition regs) _ regs shape) are
  of_effect (Arith op3 rd rs1 operand) = quiet _ line (shaped_arithmetic op3 rd _ _ regs shape) are
  of_effect (Shift op3 rd rs1 operand) = quiet _ line (written regs rd _ shape) are
  of_effect (ReadY rd) = quiet _ line (written regs rd _ shape) are
  of_effect (WriteY rs1 operand) = quiet _ line shape are
  of_effect (Jmpl rd rs1 operand) =
      let P : Regs × Outcome → Type 0 = λ after. Leaves (beside line after) in
      choice P (address_of rs1 operand regs % 4 == 0) _ _ (quiet _ line (written regs rd regs.pc shape) are) (stopped 0x07 (omega arith))
  of_effect (TrapOn condition rs1 operand) =
      let P : Regs × Outcome → Type 0 = λ after. Leaves (beside line after) in
      let number = address_of rs1 operand regs % 2 ^ 7 in
      choice P (holds condition regs) _ _
      (choice P (number == 0) _ _ (record { regs = shape; line = are; trap = tt })
      (choice P (number == 1) _ _ (record { regs = shape; line = are; trap = tt }) (stopped (0x80 + number) (omega arith))))
      (quiet _ line shape are)
  of_effect (Memory op3 rd rs1 operand) =
      let load = written regs rd _ shape in
      choice Leaves (is_load op3) _ _ (quiet _ line load are)
      (choice Leaves (is_in (0x0D ∷ 0x0F ∷ []) op3) _ _ (quiet _ _ load (stored_words op3 _ _ line)) (quiet _ _ shape (stored_words op3 _ _ line)))

  of_run : (wants : Need) (instr : Instr) → NeedsByByte wants → Leaves (run_at wants instr regs line)
  of_run (needs.Trap type) instr byte = stopped type byte
  of_run needs.Nothing instr byte = of_effect instr
  of_run (needs.Copy l mode) instr byte = of_effect instr

  of_legal : (found : Option Instr) (lines : ℕ) → Leaves (turn_at (or_illegal found) regs lines line)
  of_legal (Some instr) lines = of_run (need instr regs lines) instr (need_traps instr regs lines)
  of_legal None lines = stopped 0x02 (omega arith)

  of_fetched : (word : Option ℕ) (lines : ℕ) → Leaves (turn_at (or_no_access word) regs lines line)
  of_fetched (Some word) lines = of_legal (instr_of word) lines
  of_fetched None lines = stopped 0x01 (omega arith)

  leaves : (code : List ℕ) (lines : ℕ) → Leaves (turn_of code regs lines line)
  unfolding turn_of fetched
  leaves code lines = of_fetched (slice_get code (regs.pc / 4)) lines

-- what a turn leaves of words, in its registers and in its line
pub record TurnWords (after : Regs × Line × Outcome) : Type 0 where
  pub regs : AreRegisters after.0
  pub line : AreWords after.1
  pub trap : TrapsByByte after.2

hold_is : (regs : Regs) → AreRegisters regs → HoldWords regs
hold_is regs are = record { r = are.words; y = are.y; pc = are.pc; npc = are.npc }

pub turn_words : (code : List ℕ) (regs : Regs) (lines : ℕ) (line : Line) → AreRegisters regs → AreWords line → TurnWords (turn_of code regs lines line)
turn_words code regs lines line are words =
    let held = of_turn regs (hold_is regs are) line code lines in
    let left = leaves regs (record { count = are.count; first = are.first }) line words code lines in
    record {
      regs = record { count = left.regs.count; first = left.regs.first; words = held.regs.r; pc = held.regs.pc; npc = held.regs.npc; y = held.regs.y };
      line = left.line;
      trap = left.trap;
    }
