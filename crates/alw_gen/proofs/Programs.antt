-- The instructions of a workload are within the table, and their number.
use Rattle.std.proofs.Common.{◌≡◌, ℕ, zero, suc, ◌+◌, ◌-◌, ◌*◌, ◌/◌, ◌%◌, ◌^◌, ◌<◌, ◌≤◌, ◌==◌, Bool, true, false, if◌then◌else◌, List, [], ◌∷◌, ◌++◌, length, map, refl, sym, ap, ◌∙◌, arith, append_assoc, length-append}
use Rattle.std.proofs.lemmas.List.{append-nil, length-map, map-append}
use Rattle.std.specs.List.{AllByRecursion}
use Rattle.alw_num.specs.Draws.{drawn, drawn_number, drawn_times}
use Rattle.sparc_table.specs.declared.instructions.Operand.TheVariants.{Reg, Imm}
use Rattle.sparc_table.specs.declared.instructions.Instr.{Instr}
use Rattle.sparc_table.specs.declared.instructions.Instr.TheVariants.{Sethi, Arith, Memory}
use Rattle.sparc_table.specs.Table.{Fits}
use Rattle.sparc_asm.specs.Words.{instr_word}
use Rattle.sparc_asm.proofs.InstrWords.{spelled}
use Rattle.alw_image.specs.Numbers.{IsWord}
use Rattle.alw_gen.specs.Workloads.{address_drawn, set_g1, access, operation, operations, ending, block, block_length, blocks}
use Rattle.alw_num.proofs.Alls.{all_append}

-- ---- within the table

address_fits : (lines number : ℕ) → 1 ≤ lines → lines ≤ 1024 → address_drawn lines number < 2 ^ 32
address_fits lines number some few = omega (arith, low number lines some)
  where
    low : (n m : ℕ) → 1 ≤ m → n % m < m
    low n m l = search (arith)

set_fits : (address : ℕ) → address < 2 ^ 32 → AllByRecursion Fits (set_g1 address)
set_fits address l = ((omega arith, omega arith), ((refl, omega arith, omega arith, omega arith), tt))

access_fits : (kind : ℕ) → AllByRecursion Fits (access kind)
access_fits kind = by_test (kind == 0) (kind == 1) (kind == 2)
  where
    by_test : (a b c : Bool) → AllByRecursion Fits (if a then Memory 0x00 2 1 (Reg 0) ∷ Arith 0x00 3 3 (Reg 2) ∷ [] else (
        if b then Memory 0x04 3 1 (Reg 0) ∷ Arith 0x00 3 3 (Imm 1) ∷ [] else (
        if c then Memory 0x0F 3 1 (Reg 0) ∷ Sethi 0 0 ∷ [] else
        Memory 0x0D 2 1 (Reg 0) ∷ Sethi 0 0 ∷ [])))
    by_test true b c = ((refl, omega arith, omega arith, omega arith), ((refl, omega arith, omega arith, omega arith), tt))
    by_test false true c = ((refl, omega arith, omega arith, omega arith), ((refl, omega arith, omega arith, omega arith), tt))
    by_test false false true = ((refl, omega arith, omega arith, omega arith), ((omega arith, omega arith), tt))
    by_test false false false = ((refl, omega arith, omega arith, omega arith), ((omega arith, omega arith), tt))

pub operation_fits : (lines number : ℕ) → 1 ≤ lines → lines ≤ 1024 → AllByRecursion Fits (operation lines number)
operation_fits lines number some few = all_append Fits (set_g1 (address_drawn lines number)) _ (set_fits _ (address_fits lines number some few)) (access_fits (number / 2 ^ 24 % 4))

pub ending_fits : AllByRecursion Fits ending
ending_fits = ((refl, omega arith, omega arith, omega arith), ((omega arith, omega arith, omega arith), ((omega arith, omega arith, omega arith), tt)))

operations_fit : (lines size state : ℕ) → 1 ≤ lines → lines ≤ 1024 → AllByRecursion Fits (operations lines size state)
operations_fit lines zero state some few = tt
operations_fit lines (suc size) state some few = all_append Fits (operation lines (drawn_number (drawn state))) _ (operation_fits lines _ some few) (operations_fit lines size (drawn state) some few)

blocks_fit : (lines size nodes state : ℕ) → 1 ≤ lines → lines ≤ 1024 → AllByRecursion Fits (blocks lines size nodes state)
unfolding blocks
blocks_fit lines size zero state some few = tt
blocks_fit lines size (suc nodes) state some few = all_append Fits (block lines size state) _ (all_append Fits (operations lines size state) ending (operations_fit lines size state some few) ending_fits) (blocks_fit lines size nodes (drawn_times size state) some few)

words_of : (instrs : List Instr) → AllByRecursion Fits instrs → AllByRecursion IsWord (map instr_word instrs)
words_of [] fits = tt
words_of (i ∷ rest) fits = ((spelled i fits.0).1, words_of rest fits.1)

pub code_words : (lines size nodes state : ℕ) → 1 ≤ lines → lines ≤ 1024 → AllByRecursion IsWord (map instr_word (blocks lines size nodes state))
code_words lines size nodes state some few = words_of _ (blocks_fit lines size nodes state some few)

-- ---- how many

length-access : (kind : ℕ) → length (access kind) ≡ 2
length-access kind = by_test (kind == 0) (kind == 1) (kind == 2)
  where
    by_test : (a b c : Bool) → length (if a then Memory 0x00 2 1 (Reg 0) ∷ Arith 0x00 3 3 (Reg 2) ∷ [] else (
        if b then Memory 0x04 3 1 (Reg 0) ∷ Arith 0x00 3 3 (Imm 1) ∷ [] else (
        if c then Memory 0x0F 3 1 (Reg 0) ∷ Sethi 0 0 ∷ [] else
        Memory 0x0D 2 1 (Reg 0) ∷ Sethi 0 0 ∷ []))) ≡ 2
    by_test true b c = refl
    by_test false true c = refl
    by_test false false true = refl
    by_test false false false = refl

pub length-operation : (lines number : ℕ) → length (operation lines number) ≡ 4
length-operation lines number = omega (arith, length-access (number / 2 ^ 24 % 4))

length-operations : (lines size state : ℕ) → length (operations lines size state) ≡ 4 * size
length-operations lines zero state = refl
length-operations lines (suc size) state = length-append (operation lines (drawn_number (drawn state))) (operations lines size (drawn state)) ∙ omega (arith, length-operation lines (drawn_number (drawn state)), length-operations lines size (drawn state))

pub length-block : (lines size state : ℕ) → length (block lines size state) ≡ block_length size
length-block lines size state = length-append (operations lines size state) ending ∙ omega (arith, length-operations lines size state)

pub length-blocks : (lines size nodes state : ℕ) → length (blocks lines size nodes state) ≡ nodes * block_length size
unfolding blocks
length-blocks lines size zero state = omega arith
length-blocks lines size (suc nodes) state = length-append (block lines size state) (blocks lines size nodes (drawn_times size state)) ∙ omega (arith, length-block lines size state, length-blocks lines size nodes (drawn_times size state))

-- ---- what is put so far, and what is left to put, is the whole

pub put_more : (code after whole : List ℕ) (first rest left : List Instr) → after ≡ code ++ map instr_word first → left ≡ first ++ rest → code ++ map instr_word left ≡ whole → after ++ map instr_word rest ≡ whole
put_more code after whole first rest left grown parts so_far =
    ap (λ front. front ++ map instr_word rest) grown ∙ append_assoc code (map instr_word first) (map instr_word rest) ∙ ap (λ back. code ++ back) (sym (map-append instr_word first rest)) ∙ ap (λ (is : List Instr). code ++ map instr_word is) (sym parts) ∙ so_far

one_less : (n k : ℕ) → k < n → n - k ≡ suc (n - (k + 1))
one_less n k l = omega arith

-- one operation more
pub next_operation : (lines size k state : ℕ) → k < size → operations lines (size - k) state ≡ operation lines (drawn_number (drawn state)) ++ operations lines (size - (k + 1)) (drawn state)
next_operation lines size k state l = ap (λ (n : ℕ). operations lines n state) (one_less size k l)

pub next_draw : (size k state : ℕ) → k < size → drawn_times (size - k) state ≡ drawn_times (size - (k + 1)) (drawn state)
next_draw size k state l = ap (λ (n : ℕ). drawn_times n state) (one_less size k l)

-- one node more
pub next_block : (lines size nodes k state : ℕ) → k < nodes → blocks lines size (nodes - k) state ≡ block lines size state ++ blocks lines size (nodes - (k + 1)) (drawn_times size state)
unfolding blocks
next_block lines size nodes k state l = ap (λ (n : ℕ). blocks lines size n state) (one_less nodes k l)

-- there is room for a node's words where there is room for all that is left
pub block_room : (lines size nodes k state : ℕ) (code whole : List ℕ) → k < nodes → code ++ map instr_word (blocks lines size (nodes - k) state) ≡ whole → length whole ≤ 65536 → length code + block_length size ≤ 65536
block_room lines size nodes k state code whole l so_far room =
    let front = length-append code (map instr_word (blocks lines size (nodes - k) state)) in
    let left = length-map (blocks lines size (nodes - k) state) instr_word in
    let next = ap length (next_block lines size nodes k state l) in
    let parts = length-append (block lines size state) (blocks lines size (nodes - (k + 1)) (drawn_times size state)) in
    let first = length-block lines size state in
    let all = ap length so_far in
    omega (arith, front, left, next, parts, first, all)

pub pushed : {A : Type 0} (xs ys : List A) (x : A) → ys ≡ xs ++ x ∷ [] → length ys ≡ length xs + 1
pushed xs ys x e = ap length e ∙ length-append xs (x ∷ [])

-- ---- one operation more

pub operation_words : (lines size k state next number : ℕ) (code after whole : List ℕ) (instrs : List Instr) → k < size → next ≡ drawn state → number ≡ drawn_number next → instrs ≡ operation lines number → after ≡ code ++ map instr_word instrs → code ++ map instr_word (operations lines (size - k) state) ≡ whole
    → after ++ map instr_word (operations lines (size - (k + 1)) next) ≡ whole
operation_words lines size k state next number code after whole instrs l moved drawn_is are grown so_far =
    put_more code after whole (operation lines (drawn_number next)) (operations lines (size - (k + 1)) next) (operations lines (size - k) state)
    (grown ∙ ap (λ (i : List Instr). code ++ map instr_word i) (are ∙ ap (operation lines) drawn_is))
    (next_operation lines size k state l ∙ ap (λ (s : ℕ). operation lines (drawn_number s) ++ operations lines (size - (k + 1)) s) (sym moved)) so_far

pub operation_draws : (size k state next last : ℕ) → k < size → next ≡ drawn state → drawn_times (size - k) state ≡ last → drawn_times (size - (k + 1)) next ≡ last
operation_draws size k state next last l moved so_far = ap (drawn_times (size - (k + 1))) moved ∙ sym (next_draw size k state l) ∙ so_far

pub operation_count : (lines k number : ℕ) (code after first : List ℕ) (instrs : List Instr) → instrs ≡ operation lines number → after ≡ code ++ map instr_word instrs → length code ≡ length first + 4 * k → length after ≡ length first + 4 * (k + 1)
operation_count lines k number code after first instrs are grown so_far =
    let long = ap length grown ∙ length-append code (map instr_word instrs) in
    omega (arith, long, length-map instrs instr_word, ap length are, length-operation lines number)

-- one node more
pub block_words : (lines size nodes k state next : ℕ) (code after whole : List ℕ) → k < nodes → next ≡ drawn_times size state → after ≡ code ++ map instr_word (block lines size state) → code ++ map instr_word (blocks lines size (nodes - k) state) ≡ whole
    → after ++ map instr_word (blocks lines size (nodes - (k + 1)) next) ≡ whole
block_words lines size nodes k state next code after whole l moved grown so_far =
    put_more code after whole (block lines size state) (blocks lines size (nodes - (k + 1)) next) (blocks lines size (nodes - k) state) grown
    (next_block lines size nodes k state l ∙ ap (λ (s : ℕ). block lines size state ++ blocks lines size (nodes - (k + 1)) s) (sym moved)) so_far

-- nothing is left
pub all_put : (lines size nodes k state : ℕ) (code whole : List ℕ) → nodes ≤ k → code ++ map instr_word (blocks lines size (nodes - k) state) ≡ whole → code ≡ whole
unfolding blocks
all_put lines size nodes k state code whole l so_far =
    let none : nodes - k ≡ 0 = omega arith in
    sym (append-nil code) ∙ ap (λ (n : ℕ). code ++ map instr_word (blocks lines size n state)) (sym none) ∙ so_far
