-- What a word of each row spells, and that its run is the run of that instruction.
use Rattle.std.proofs.Common.{◌≡◌, ◌≢◌, ℕ, zero, suc, ◌+◌, ◌*◌, ◌/◌, ◌%◌, ◌^◌, ◌==◌, nat_lt, Bool, true, false, ◌&&◌, Option, Some, None, List, [], ◌∷◌, length, slice_get, slice_index_or, option_map, bit_xor, refl, sym, subst, ap, ◌∙◌, arith}
use Rattle.std.proofs.lemmas.Bool.{eqb-true, eqb-false, ne_eqb, ltb-true, ltb-false}
use Rattle.std.proofs.lemmas.Option.{slice_get_read, slice_get_past}
use Rattle.alw_num.specs.declared.addresses.Line.{Line}
use Rattle.sparc_table.specs.Fields.{bits_of, op_of, op2_of, op3_of, rd_of, rs1_of, annul_of, cond_of}
use Rattle.sparc_table.specs.Registers.{register, with_register}
use Rattle.sparc_table.specs.Operands.{operand_of, address_of}
use Rattle.sparc_table.specs.Arithmetic as values
use Rattle.sparc_table.specs.Control.{holds, next, transfer, call_target, branch_target, branched}
use Rattle.sparc_table.specs.Table.{is_in, arithmetic, shifts, accesses, operand_in, short_operand_in, only_if, instr_of}
use Rattle.sparc_table.specs.Meaning.{need, effect, jumped, trap_on}
use Rattle.sparc_table.specs.Turns.{or_illegal, or_no_access, fetched, need_at, turn_at, run_at, run_of, need_of, turn_of}
use Rattle.sparc_table.specs.declared.registers.Regs.{Regs}
use Rattle.sparc_table.specs.declared.instructions.Operand.{Operand}
use Rattle.sparc_table.specs.declared.instructions.Instr.{Instr}
use Rattle.sparc_table.specs.declared.instructions.Instr.TheVariants.{Call, Sethi, Branch, Arith, ReadY, WriteY, Jmpl, TrapOn, Memory}
use Rattle.sparc_table.specs.declared.instructions.Instr.TheVariants as instructions
use Rattle.sparc_table.specs.declared.outcomes.Need.{Need}
use Rattle.sparc_table.specs.declared.outcomes.Need.TheVariants as needs
use Rattle.sparc_table.specs.declared.outcomes.Outcome.{Outcome}
use Rattle.sparc_table.specs.declared.outcomes.Outcome.TheVariants as ends
use Rattle.sparc_exec.specs.Rows.{low_of, op3_of_arithmetic, op3_of_shift}
use Rattle.sparc_exec.specs.declared.arithmetic.Operation.{Operation}
use Rattle.sparc_exec.specs.declared.arithmetic.Operation.TheVariants.{Add, And, Or, Xor, Sub, Andn, Orn, Xnor, Addx, Subx}
use Rattle.sparc_exec.specs.declared.arithmetic.Arithmetic.{Arithmetic}
use Rattle.sparc_exec.specs.declared.arithmetic.Arithmetic.TheVariants.{Plain, Coded, Umul, Smul}
use Rattle.sparc_exec.specs.declared.arithmetic.Shift.{Shift}
use Rattle.sparc_exec.specs.declared.arithmetic.Shift.TheVariants.{Left, Right, SignedRight}
use Rattle.sparc_exec.specs.Runs.{Seen, seen, IsRunWith}
use Rattle.sparc_exec.specs.Words.{row_of, rows, value_of, IsRunOf, IsRunBeside}

-- ---- a word that reaches no line

-- an instruction that needs no line, and what it leaves
abbrev IsQuiet : Instr → Regs → Regs → Outcome → Type 0
IsQuiet instr before after outcome = ((lines : ℕ) → need instr before lines ≡ needs.Nothing) × ((line : Line) → effect instr before line ≡ (after, line, outcome))

pub outside : (word : ℕ) (before : Regs) → instr_of word ≡ None → IsRunBeside word before before (ends.Trap 2)
unfolding IsRunOf
outside word before is lines copies calls =
    let state : Seen = seen before copies calls in
    let P : Option Instr → Type 0 = λ found. IsRunWith (need_at (or_illegal found) before lines) (turn_at (or_illegal found) before lines) state state (ends.Trap 2) in
    subst P (sym is) ((λ line. refl), (λ l. refl), refl)

quiet : (word : ℕ) (instr : Instr) (before after : Regs) (outcome : Outcome) → instr_of word ≡ Some instr → IsQuiet instr before after outcome → IsRunBeside word before after outcome
unfolding IsRunOf
quiet word instr before after outcome is h lines copies calls =
    let start : Seen = seen before copies calls in
    let end : Seen = seen after copies calls in
    let P : Option Instr → Type 0 = λ found. IsRunWith (need_at (or_illegal found) before lines) (turn_at (or_illegal found) before lines) start end outcome in
    let Q : Need → Type 0 = λ needed. IsRunWith needed (run_at needed instr before) start end outcome in
    subst P (sym is) (subst Q (sym (h.0 lines)) (h.1, (λ l. refl), refl))

-- a row with an operand, where the word has none
pub none : (word : ℕ) (make : Operand → Instr) (before : Regs) (found : Option Operand)
    → instr_of word ≡ option_map make found → None ≡ value_of found before → IsRunBeside word before before (ends.Trap 2)
none word make before None row h = outside word before row
none word make before (Some operand) row h = cc

-- and where it has one
some : (word y : ℕ) (make : Operand → Instr) (before after : Regs) (outcome : Outcome) (found : Option Operand)
    → instr_of word ≡ option_map make found → Some y ≡ value_of found before → ((operand : Operand) → operand_of operand before ≡ y → IsQuiet (make operand) before after outcome) → IsRunBeside word before after outcome
some word y make before after outcome None row h each = cc
some word y make before after outcome (Some operand) row h each = let is : operand_of operand before ≡ y = cc in quiet word (make operand) before after outcome row (each operand is)

-- ---- formats 1 and 2

pub sethi_is : (word : ℕ) (before after : Regs) → op_of word ≡ 0 → op2_of word ≡ 4
    → after ≡ next (with_register before (rd_of word) (bits_of 0 22 word * 1024)) → IsRunBeside word before after ends.Done
unfolding instr_of need effect
sethi_is word before after op op2 h = quiet word (Sethi (rd_of word) (bits_of 0 22 word)) before after _ (rw (op, op2) refl) ((λ lines. refl), (λ line. rw h refl))

pub branch_is : (word : ℕ) (before after : Regs) → op_of word ≡ 0 → op2_of word ≡ 2
    → after ≡ branched (annul_of word == 1) (cond_of word) (holds (cond_of word) before) (branch_target before.pc (bits_of 0 22 word)) before → IsRunBeside word before after ends.Done
unfolding instr_of need effect
branch_is word before after op op2 h = quiet word (Branch (annul_of word == 1) (cond_of word) (bits_of 0 22 word)) before after _ (rw (op, op2) refl) ((λ lines. refl), (λ line. rw h refl))

pub call_is : (word : ℕ) (before after : Regs) → op_of word ≡ 1
    → after ≡ transfer (call_target before.pc (bits_of 0 30 word)) (with_register before 15 before.pc) → IsRunBeside word before after ends.Done
unfolding instr_of need effect
call_is word before after op h = quiet word (Call (bits_of 0 30 word)) before after _ (rw op refl) ((λ lines. refl), (λ line. rw h refl))

-- ---- format 3

-- each instruction of arithmetic is in its list, and each shift in that of shifts
listed : (operation : Operation) → (is_in arithmetic (low_of operation) ≡ true) × (is_in arithmetic (0x10 + low_of operation) ≡ true)
listed Add = (refl, refl)
listed And = (refl, refl)
listed Or = (refl, refl)
listed Xor = (refl, refl)
listed Sub = (refl, refl)
listed Andn = (refl, refl)
listed Orn = (refl, refl)
listed Xnor = (refl, refl)
listed Addx = (refl, refl)
listed Subx = (refl, refl)

arithmetic_listed : (row : Arithmetic) → is_in arithmetic (op3_of_arithmetic row) ≡ true
arithmetic_listed (Plain operation) = (listed operation).0
arithmetic_listed (Coded operation) = (listed operation).1
arithmetic_listed Umul = refl
arithmetic_listed Smul = refl

shift_listed : (row : Shift) → (is_in shifts (op3_of_shift row) ≡ true) × (is_in arithmetic (op3_of_shift row) ≡ false)
shift_listed Left = (refl, refl)
shift_listed Right = (refl, refl)
shift_listed SignedRight = (refl, refl)

pub arith_row : (word : ℕ) (row : Arithmetic) → op_of word ≡ 2 → op3_of word ≡ op3_of_arithmetic row
    → instr_of word ≡ option_map (Arith (op3_of_arithmetic row) (rd_of word) (rs1_of word)) (operand_in word)
unfolding instr_of
arith_row word row op is = rw (op, is, arithmetic_listed row) refl

pub arith_is : (word : ℕ) (row : Arithmetic) (y : ℕ) (before after : Regs) → op_of word ≡ 2 → op3_of word ≡ op3_of_arithmetic row → Some y ≡ value_of (operand_in word) before
    → after ≡ next (values.arithmetic (op3_of_arithmetic row) (rd_of word) (register before (rs1_of word)) y before) → IsRunBeside word before after ends.Done
unfolding need effect
arith_is word row y before after op is there h = some word y _ before after _ _ (arith_row word row op is) there (λ operand e. ((λ lines. refl), (λ line. rw (h, e) refl)))

pub shift_row : (word : ℕ) (row : Shift) → op_of word ≡ 2 → op3_of word ≡ op3_of_shift row
    → instr_of word ≡ option_map (instructions.Shift (op3_of_shift row) (rd_of word) (rs1_of word)) (short_operand_in 5 word)
unfolding instr_of
shift_row word row op is = let listed = shift_listed row in rw (op, is, listed.1, listed.0) refl

pub shift_is : (word : ℕ) (row : Shift) (y : ℕ) (before after : Regs) → op_of word ≡ 2 → op3_of word ≡ op3_of_shift row → Some y ≡ value_of (short_operand_in 5 word) before
    → after ≡ next (with_register before (rd_of word) (values.shifted (op3_of_shift row) (register before (rs1_of word)) y)) → IsRunBeside word before after ends.Done
unfolding need effect
shift_is word row y before after op is there h = some word y _ before after _ _ (shift_row word row op is) there (λ operand e. ((λ lines. refl), (λ line. rw (h, e) refl)))

read_y_row : (word : ℕ) → op_of word ≡ 2 → op3_of word ≡ 0x28 → instr_of word ≡ only_if (bits_of 0 19 word == 0) (Some (ReadY (rd_of word)))
unfolding instr_of
read_y_row word op is = rw (op, is) refl

pub read_y_none : (word : ℕ) (before : Regs) → op_of word ≡ 2 → op3_of word ≡ 0x28 → bits_of 0 19 word ≢ 0 → IsRunBeside word before before (ends.Trap 2)
read_y_none word before op is h = outside word before (read_y_row word op is ∙ rw (ne_eqb _ _ h) refl)

pub read_y_is : (word : ℕ) (before after : Regs) → op_of word ≡ 2 → op3_of word ≡ 0x28 → bits_of 0 19 word ≡ 0
    → after ≡ next (with_register before (rd_of word) before.y) → IsRunBeside word before after ends.Done
unfolding need effect
read_y_is word before after op is zeros h = quiet word (ReadY (rd_of word)) before after _ (read_y_row word op is ∙ rw zeros refl) ((λ lines. refl), (λ line. rw h refl))

write_y_row : (word : ℕ) → op_of word ≡ 2 → op3_of word ≡ 0x30 → instr_of word ≡ only_if (rd_of word == 0) (option_map (WriteY (rs1_of word)) (operand_in word))
unfolding instr_of
write_y_row word op is = rw (op, is) refl

pub write_y_not : (word : ℕ) (before : Regs) → op_of word ≡ 2 → op3_of word ≡ 0x30 → rd_of word ≢ 0 → IsRunBeside word before before (ends.Trap 2)
write_y_not word before op is h = outside word before (write_y_row word op is ∙ rw (ne_eqb _ _ h) refl)

pub write_y_none : (word : ℕ) (before : Regs) → op_of word ≡ 2 → op3_of word ≡ 0x30 → rd_of word ≡ 0 → None ≡ value_of (operand_in word) before → IsRunBeside word before before (ends.Trap 2)
write_y_none word before op is clear h = none word (WriteY (rs1_of word)) before _ (write_y_row word op is ∙ rw clear refl) h

pub write_y_is : (word y : ℕ) (before after : Regs) → op_of word ≡ 2 → op3_of word ≡ 0x30 → rd_of word ≡ 0 → Some y ≡ value_of (operand_in word) before
    → after ≡ next (record before { y = bit_xor (register before (rs1_of word)) y }) → IsRunBeside word before after ends.Done
unfolding need effect
write_y_is word y before after op is clear there h = some word y (WriteY (rs1_of word)) before after _ _ (write_y_row word op is ∙ rw clear refl) there (λ operand e. ((λ lines. refl), (λ line. rw (h, e) refl)))

pub jump_row : (word : ℕ) → op_of word ≡ 2 → op3_of word ≡ 0x38 → instr_of word ≡ option_map (Jmpl (rd_of word) (rs1_of word)) (operand_in word)
unfolding instr_of
jump_row word op is = rw (op, is) refl

pub jump_is : (word y : ℕ) (before after : Regs) (outcome : Outcome) → op_of word ≡ 2 → op3_of word ≡ 0x38 → Some y ≡ value_of (operand_in word) before
    → (after, outcome) ≡ jumped (rd_of word) ((register before (rs1_of word) + y) % 2 ^ 32) before → IsRunBeside word before after outcome
unfolding need effect
jump_is word y before after outcome op is there h =
    some word y _ before after outcome _ (jump_row word op is) there
    (λ operand e. ((λ lines. refl), (λ line. rw e (ap (λ (left : Regs × Outcome). (left.0, line, left.1)) (sym h)))))

trap_row : (word : ℕ) → op_of word ≡ 2 → op3_of word ≡ 0x3A → instr_of word ≡ only_if (annul_of word == 0) (option_map (TrapOn (cond_of word) (rs1_of word)) (short_operand_in 7 word))
unfolding instr_of
trap_row word op is = rw (op, is) refl

unset : (word : ℕ) → false ≡ (annul_of word == 1) → annul_of word ≡ 0
unset word h = let other = eqb-false _ _ (sym h) in omega arith

pub trap_not : (word : ℕ) (before : Regs) → op_of word ≡ 2 → op3_of word ≡ 0x3A → true ≡ (annul_of word == 1) → IsRunBeside word before before (ends.Trap 2)
trap_not word before op is h = outside word before (trap_row word op is ∙ rw (eqb-true _ _ (sym h)) refl)

pub trap_none : (word : ℕ) (before : Regs) → op_of word ≡ 2 → op3_of word ≡ 0x3A → false ≡ (annul_of word == 1) → None ≡ value_of (short_operand_in 7 word) before → IsRunBeside word before before (ends.Trap 2)
trap_none word before op is clear h = none word (TrapOn (cond_of word) (rs1_of word)) before _ (trap_row word op is ∙ rw (unset word clear) refl) h

pub trap_is : (word y : ℕ) (before after : Regs) (outcome : Outcome) → op_of word ≡ 2 → op3_of word ≡ 0x3A → false ≡ (annul_of word == 1) → Some y ≡ value_of (short_operand_in 7 word) before
    → (after, outcome) ≡ trap_on (holds (cond_of word) before) ((register before (rs1_of word) + y) % 2 ^ 32 % 2 ^ 7) before → IsRunBeside word before after outcome
unfolding need effect
trap_is word y before after outcome op is clear there h =
    some word y (TrapOn (cond_of word) (rs1_of word)) before after outcome _ (trap_row word op is ∙ rw (unset word clear) refl) there
    (λ operand e. ((λ lines. refl), (λ line. rw e (ap (λ (left : Regs × Outcome). (left.0, line, left.1)) (sym h)))))

-- ---- accesses

memory_row : (word op3 : ℕ) → op_of word ≡ 3 → op3_of word ≡ op3 → is_in accesses op3 ≡ true → instr_of word ≡ option_map (Memory op3 (rd_of word) (rs1_of word)) (operand_in word)
unfolding instr_of
memory_row word op3 op is row = rw (op, is, row) refl

pub access_none : (word op3 lines : ℕ) (state : Seen) → op_of word ≡ 3 → op3_of word ≡ op3 → is_in accesses op3 ≡ true → None ≡ value_of (operand_in word) state.regs → IsRunOf word lines state state (ends.Trap 2)
access_none word op3 lines state op is row h = none word _ state.regs _ (memory_row word op3 op is row) h lines state.copies state.calls

-- an access runs as its instruction does with each operand of that value
spelled : (word y lines : ℕ) (make : Operand → Instr) (before after : Seen) (outcome : Outcome) (found : Option Operand)
    → instr_of word ≡ option_map make found → Some y ≡ value_of found before.regs
    → ((operand : Operand) → operand_of operand before.regs ≡ y → IsRunWith (need_at (or_illegal (Some (make operand))) before.regs lines) (turn_at (or_illegal (Some (make operand))) before.regs lines) before after outcome)
    → IsRunOf word lines before after outcome
unfolding IsRunOf
spelled word y lines make before after outcome None row h each = cc
spelled word y lines make before after outcome (Some operand) row h each =
    let is : operand_of operand before.regs ≡ y = cc in
    let P : Option Instr → Type 0 = λ found. IsRunWith (need_at (or_illegal found) before.regs lines) (turn_at (or_illegal found) before.regs lines) before after outcome in
    subst P (sym row) (each operand is)

pub access_is : (word op3 y lines address : ℕ) (before after : Seen) (outcome : Outcome) → op_of word ≡ 3 → op3_of word ≡ op3 → is_in accesses op3 ≡ true → Some y ≡ value_of (operand_in word) before.regs
    → address ≡ (register before.regs (rs1_of word) + y) % 2 ^ 32
    → ((operand : Operand) → address ≡ address_of (rs1_of word) operand before.regs
    → IsRunWith (need_at (or_illegal (Some (Memory op3 (rd_of word) (rs1_of word) operand))) before.regs lines) (turn_at (or_illegal (Some (Memory op3 (rd_of word) (rs1_of word) operand))) before.regs lines) before after outcome)
    → IsRunOf word lines before after outcome
access_is word op3 y lines address before after outcome op is row there sum each =
    spelled word y lines _ before after outcome _ (memory_row word op3 op is row) there (λ operand e. each operand (rw e sum))

-- ---- an instruction and a turn

-- the run of a word is that of the instruction that it spells
pub one_is : (instr : Instr) (word lines : ℕ) (before after : Seen) (outcome : Outcome)
    → instr_of word ≡ Some instr → IsRunOf word lines before after outcome → IsRunWith (need instr before.regs lines) (run_of instr before.regs lines) before after outcome
unfolding IsRunOf
one_is instr word lines before after outcome is run =
    let P : Option Instr → Type 0 = λ found. IsRunWith (need_at (or_illegal found) before.regs lines) (turn_at (or_illegal found) before.regs lines) before after outcome in
    subst P is run

-- the run of the word at PC is the turn
pub turn_is : (code : List ℕ) (word lines : ℕ) (before after : Seen) (outcome : Outcome)
    → true ≡ nat_lt (before.regs.pc / 4) (length code) → word ≡ slice_index_or code (before.regs.pc / 4) word
    → IsRunOf word lines before after outcome → IsRunWith (need_of code before.regs lines) (turn_of code before.regs lines) before after outcome
unfolding IsRunOf need_of turn_of fetched
turn_is code word lines before after outcome within there run =
    let P : Option ℕ → Type 0 = λ found. IsRunWith (need_at (or_no_access found) before.regs lines) (turn_at (or_no_access found) before.regs lines) before after outcome in
    let look : slice_get code (before.regs.pc / 4) ≡ Some word = slice_get_read code (length code) (before.regs.pc / 4) word refl (ltb-true _ _ (sym within)) there in
    subst P (sym look) run

-- a turn past the end of the code
pub turn_past : (code : List ℕ) (lines : ℕ) (state : Seen)
    → false ≡ nat_lt (state.regs.pc / 4) (length code) → IsRunWith (need_of code state.regs lines) (turn_of code state.regs lines) state state (ends.Trap 1)
unfolding need_of turn_of fetched
turn_past code lines state past =
    let P : Option ℕ → Type 0 = λ found. IsRunWith (need_at (or_no_access found) state.regs lines) (turn_at (or_no_access found) state.regs lines) state state (ends.Trap 1) in
    let look : slice_get code (state.regs.pc / 4) ≡ None = slice_get_past code (state.regs.pc / 4) (ltb-false _ _ (sym past)) in
    subst P (sym look) ((λ line. refl), (λ l. refl), refl)

-- ---- a word outside the table

-- each of a list is the op3 of a row
abbrev are_rows : ℕ → List ℕ → Bool
are_rows op [] = true
are_rows op (op3 ∷ rest) = is_in rows (op + op3) && are_rows op rest

both : (a b : Bool) → a && b ≡ true → (a ≡ true) × (b ≡ true)
both true b e = (refl, e)
both false b e = cc

row_is : (op : ℕ) (list : List ℕ) (op3 : ℕ) → are_rows op list ≡ true → is_in list op3 ≡ true → is_in rows (op + op3) ≡ true
row_is op [] op3 all member = cc
row_is op (x ∷ xs) op3 all member = go (op3 == x) refl (λ later. row_is op xs op3 (both (is_in rows (op + x)) (are_rows op xs) all).1 later)
  where
    go : (b : Bool) → (op3 == x) ≡ b → (is_in xs op3 ≡ true → is_in rows (op + op3) ≡ true) → is_in rows (op + op3) ≡ true
    go true t later = let same : op3 ≡ x = eqb-true op3 x t in rw same (both (is_in rows (op + x)) (are_rows op xs) all).0
    go false f later = later (rw f at member)

-- an op3 that is in no row is in no part of the table
apart : (op : ℕ) (list : List ℕ) (row op3 : ℕ) → are_rows op list ≡ true → row ≡ op + op3 → is_in rows row ≡ false → is_in list op3 ≡ false
apart op list row op3 all is other = go (is_in list op3) refl
  where
    go : (b : Bool) → is_in list op3 ≡ b → b ≡ false
    go true e = let there : is_in rows row ≡ true = rw is (row_is op list op3 all e) in cc
    go false e = refl

one : (op row op3 n : ℕ) → is_in rows (op + n) ≡ true → row ≡ op + op3 → is_in rows row ≡ false → (op3 == n) ≡ false
one op row op3 n listed is other = go (op3 == n) refl
  where
    go : (b : Bool) → (op3 == n) ≡ b → b ≡ false
    go true t = let same : op3 ≡ n = eqb-true op3 n t in let there : is_in rows row ≡ true = rw (is, same) listed in cc
    go false f = refl

short_outside : (word : ℕ) → op_of word ≡ 0 → op2_of word ≢ 4 → op2_of word ≢ 2 → instr_of word ≡ None
unfolding instr_of
short_outside word op four two = rw (op, ne_eqb _ _ four, ne_eqb _ _ two) refl

long_outside : (word row : ℕ) → op_of word ≡ 2 → row ≡ 128 + op3_of word → is_in rows row ≡ false → instr_of word ≡ None
unfolding instr_of
long_outside word row op is other =
    let k = op3_of word in
    rw (op, apart 128 arithmetic row k refl is other, apart 128 shifts row k refl is other, one 128 row k 0x28 refl is other, one 128 row k 0x30 refl is other, one 128 row k 0x38 refl is other, one 128 row k 0x3A refl is other) refl

access_outside : (word row : ℕ) → op_of word ≡ 3 → row ≡ 192 + op3_of word → is_in rows row ≡ false → instr_of word ≡ None
unfolding instr_of
access_outside word row op is other = rw (op, apart 192 accesses row (op3_of word) refl is other) refl

pub outside_rows : (word row : ℕ) → row ≡ row_of word → is_in rows row ≡ false → row / 8 ≢ 2 → row / 8 ≢ 4 → row / 64 ≢ 1 → instr_of word ≡ None
outside_rows word row is other two four one = by_op (op_of word) refl
  where
    by_op : (op : ℕ) → op_of word ≡ op → instr_of word ≡ None
    by_op zero e = short_outside word e (λ h. four (omega arith)) (λ h. two (omega arith))
    by_op (suc zero) e = absurd (one (omega arith))
    by_op (suc (suc zero)) e = long_outside word row e (omega arith) other
    by_op (suc (suc (suc zero))) e = access_outside word row e (omega arith) other
    by_op (suc (suc (suc (suc n)))) e = absurd (omega arith)
