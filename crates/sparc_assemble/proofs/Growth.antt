-- How many code words lines fill in: as many as they lay down.
use Rattle.std.proofs.Common.{◌≡◌, true, false, Bool, ℕ, ◌+◌, ◌/◌, ◌≤◌, ◌&&◌, ◌||◌, not, if◌then◌else◌, nat_le, List, [], length, map, Option, Some, None, Result, Ok, Err, refl, ap, ◌∙◌, arith, length-append}
use Rattle.std.proofs.lemmas.List.{length-map}
use Rattle.std.proofs.lemmas.Bool.{and_parts}
use Rattle.std.proofs.lemmas.Bool.Decides.{nat_tests}
use Rattle.alw_num.specs.declared.addresses.Width.{Width}
use Rattle.sparc_table.specs.declared.instructions.Instr.{Instr}
use Rattle.sparc_table.specs.declared.instructions.Instr.TheVariants as instr
use Rattle.sparc_asm.specs.declared.faults.Fault.{Fault}
use Rattle.sparc_asm.specs.declared.faults.Fault.TheVariants.{UnknownName, Redefined, Range, Unaligned, Overlap}
use Rattle.sparc_asm.specs.declared.encoding.Coded.{Coded}
use Rattle.sparc_asm.specs.declared.encoding.Coded.TheVariants.{One}
use Rattle.sparc_asm.specs.declared.statements.Statement.{Statement}
use Rattle.sparc_asm.specs.declared.statements.Statement.TheVariants as statement
use Rattle.sparc_asm.specs.declared.statements.Signed.{Signed}
use Rattle.sparc_asm.specs.Values.{above}
use Rattle.sparc_asm.specs.Encoding.{◌>>=◌, number_of, word_of, operand_of, call_distance, branch_distance, plain_operand, set_word, coded}
use Rattle.sparc_asm.specs.Words.{coded_words}
use Rattle.sparc_place.specs.Places.{Layout, is_unknown, label_again, statement_again, fits, is_aligned, overlaps, statement_fault, here_of, is_word, fault_with, labelled, laid, laid_with, place_of}
use Rattle.sparc_assemble.specs.Assembly.{Names, Filled, coded_fault, value_fault, value_fault_in, with_code, datum, modulus_of, filled, filled_in}

-- ---- words of a statement

pub record Counts (n : ℕ) (r : Result Coded Fault) : Type 0 where
  pub most : length (coded_words r) ≤ n
  pub all : coded_fault r ≡ None → length (coded_words r) ≡ n

counts : {A : Type 0} (n : ℕ) (r : Result A Fault) (next : A → Result Coded Fault) → ((x : A) → Counts n (next x)) → Counts n (r >>= next)
counts n (Err fault) next more = record { most = omega arith; all = λ none. absurd cc }
counts n (Ok x) next more = more x

one : (i : Instr) → Counts 1 (Ok (One i))
one i = record { most = omega arith; all = λ none. refl }

two : (rd word : ℕ) → Counts 2 (Ok (set_word rd word))
two rd word = record { most = omega arith; all = λ none. refl }

-- a statement fills in no more words than a program has, and without a fault as many as it lays down
pub record Grows (l after : Layout) (fault : Option Fault) (f : Filled) : Type 0 where
  pub room : length f.words ≤ 65536
  pub count : fault ≡ None → length f.words ≡ after.code

size_with : (number : ℕ) (words : List ℕ) (f : Filled) → length (with_code number words f).words ≡ length f.words + length words
size_with number words f = length-append f.words (map (λ word. (word, number)) words) ∙ ap (λ n. length f.words + n) (simp length-map)

by_code : (r : Result Coded Fault) (n number : ℕ) (l after : Layout) (f : Filled) → Counts n r → (not l.in_data && nat_le (l.code + n) 65536) ≡ true → length f.words ≡ l.code → after.code ≡ l.code + n → Grows l after (coded_fault r) (with_code number (coded_words r) f)
by_code r n number l after f c fit same next =
    let size = size_with number (coded_words r) f in
    let most : l.code + n ≤ 65536 = grind (arith, nat_tests, fit) in
    record { room = omega (arith, c.most); count = λ none. omega (arith, c.all none) }

by_nothing : (number : ℕ) (l after : Layout) (f : Filled) → length f.words ≡ l.code → l.code ≤ 65536 → after.code ≡ l.code → Grows l after None (with_code number [] f)
by_nothing number l after f same few next = let size = size_with number [] f in record { room = omega arith; count = λ none. omega arith }

by_start : (l after : Layout) (fault : Option Fault) (before f : Filled) → f.words ≡ before.words → length before.words ≡ l.code → l.code ≤ 65536 → after.code ≡ l.code → Grows l after fault f
by_start l after fault before f keeps same few next = record { room = omega (arith, ap length keeps); count = λ none. omega (arith, ap length keeps) }

-- values of data: in shared data no word, in code one each
abbrev fits_values : Bool → Layout → ℕ → Bool
fits_values true l n = true
fits_values false l n = nat_le (l.code + n) 65536

by_values : (l after : Layout) (number : ℕ) (b : Bool) (values : List ℕ) (n : ℕ) (fault : Option Fault) (f g : Filled) → l.in_data ≡ b → length values ≡ n → fits_values b l n ≡ true → after.code ≡ (if b then l.code else l.code + n) → g.words ≡ (if b then f.words else (with_code number values f).words) → length f.words ≡ l.code → l.code ≤ 65536 → Grows l after fault g
by_values l after number true values n fault f g is size fit next words same few = record { room = omega (arith, ap length words); count = λ none. omega (arith, ap length words) }
by_values l after number false values n fault f g is size fit next words same few =
    let longer = size_with number values f in
    let most : l.code + n ≤ 65536 = grind (arith, nat_tests, fit) in
    record { room = omega (arith, ap length words); count = λ none. omega (arith, ap length words) }

data_grows : (names : Names) (count number : ℕ) (l m : Layout) (width : Width) (values : List (List Signed)) (f : Filled) → fits l (statement.Data width values) ≡ true → m.code ≡ l.code → length f.words ≡ l.code → l.code ≤ 65536 → Grows l (laid l (statement.Data width values) m) (value_fault names count (place_of l (Some (statement.Data width values))) (statement.Data width values)) (filled names number (place_of l (Some (statement.Data width values))) (statement.Data width values) f)
data_grows names count number l m width values f fit alike same few = go l.in_data refl
  where
    found : List ℕ
    found = map (datum names (here_of l) (modulus_of width)) values

    fault : Option Fault
    fault = value_fault names count (place_of l (Some (statement.Data width values))) (statement.Data width values)

    go : (b : Bool) → l.in_data ≡ b → Grows l (laid l (statement.Data width values) m) fault (filled names number (place_of l (Some (statement.Data width values))) (statement.Data width values) f)
    go true e = by_values l (laid l (statement.Data width values) m) number true found (length values) fault f (filled names number (place_of l (Some (statement.Data width values))) (statement.Data width values) f) e (simp length-map) refl (rw (e, alike)) (rw e) same few
    go false e =
        let within = rw e at fit in
        by_values l (laid l (statement.Data width values) m) number false found (length values) fault f (filled names number (place_of l (Some (statement.Data width values))) (statement.Data width values) f) e (simp length-map) ((and_parts (is_word width) (nat_le (l.code + length values) 65536) within).1) (rw (e, alike)) (rw e) same few

-- any statement that stands where it fits
pub grows : (names : Names) (count number : ℕ) (l : Layout) (label : Option (List ℕ)) (s : Statement) (f : Filled) → fits l s ≡ true → length f.words ≡ l.code → l.code ≤ 65536 → Grows l (laid l s (labelled label l)) (value_fault names count (place_of l (Some s)) s) (filled names number (place_of l (Some s)) s f)
unfolding coded
grows names count number l label (statement.Arith op3 rs1 o rd) f fit same few = by_code (coded names (here_of l) (statement.Arith op3 rs1 o rd)) 1 number l _ f (counts 1 (plain_operand names (here_of l) o) _ (λ operand. one (instr.Arith op3 rd rs1 operand))) fit same refl
grows names count number l label (statement.Shift op3 rs1 o rd) f fit same few = by_code (coded names (here_of l) (statement.Shift op3 rs1 o rd)) 1 number l _ f (counts 1 (operand_of names (here_of l) 0 31 o) _ (λ operand. one (instr.Shift op3 rd rs1 operand))) fit same refl
grows names count number l label (statement.ReadY rd) f fit same few = by_code (coded names (here_of l) (statement.ReadY rd)) 1 number l _ f (one (instr.ReadY rd)) fit same refl
grows names count number l label (statement.WriteY rs1 o) f fit same few = by_code (coded names (here_of l) (statement.WriteY rs1 o)) 1 number l _ f (counts 1 (plain_operand names (here_of l) o) _ (λ operand. one (instr.WriteY rs1 operand))) fit same refl
grows names count number l label (statement.Jmpl address rd) f fit same few = by_code (coded names (here_of l) (statement.Jmpl address rd)) 1 number l _ f (counts 1 (plain_operand names (here_of l) address.offset) _ (λ operand. one (instr.Jmpl rd address.base operand))) fit same refl
grows names count number l label (statement.Call target) f fit same few = by_code (coded names (here_of l) (statement.Call target)) 1 number l _ f (counts 1 (call_distance names (here_of l) target) _ (λ disp. one (instr.Call disp))) fit same refl
grows names count number l label (statement.Branch annul condition target) f fit same few = by_code (coded names (here_of l) (statement.Branch annul condition target)) 1 number l _ f (counts 1 (branch_distance names (here_of l) target) _ (λ disp. one (instr.Branch annul condition disp))) fit same refl
grows names count number l label (statement.Trap condition address) f fit same few = by_code (coded names (here_of l) (statement.Trap condition address)) 1 number l _ f (counts 1 (operand_of names (here_of l) 0 127 address.offset) _ (λ operand. one (instr.TrapOn condition address.base operand))) fit same refl
grows names count number l label (statement.Sethi value rd) f fit same few = by_code (coded names (here_of l) (statement.Sethi value rd)) 1 number l _ f (counts 1 (number_of names (here_of l) 0 4194303 value) _ (λ imm. one (instr.Sethi rd (above imm)))) fit same refl
grows names count number l label (statement.SethiHigh value rd) f fit same few = by_code (coded names (here_of l) (statement.SethiHigh value rd)) 1 number l _ f (counts 1 (word_of names (here_of l) value) _ (λ word. one (instr.Sethi rd (word / 1024)))) fit same refl
grows names count number l label (statement.Memory op3 address rd) f fit same few = by_code (coded names (here_of l) (statement.Memory op3 address rd)) 1 number l _ f (counts 1 (plain_operand names (here_of l) address.offset) _ (λ operand. one (instr.Memory op3 rd address.base operand))) fit same refl
grows names count number l label (statement.Set value rd) f fit same few = by_code (coded names (here_of l) (statement.Set value rd)) 2 number l _ f (counts 2 (word_of names (here_of l) value) _ (λ word. two rd word)) fit same refl
grows names count number l label (statement.Mesh width height) f fit same few = by_nothing number l _ f same few refl
grows names count number l label (statement.Contexts n) f fit same few = by_nothing number l _ f same few refl
grows names count number l label (statement.Lines n) f fit same few = by_nothing number l _ f same few refl
grows names count number l label statement.Text f fit same few = by_nothing number l _ f same few refl
grows names count number l label (statement.Shared offset) f fit same few = by_nothing number l _ f same few refl
grows names count number l label (statement.Data width values) f fit same few = data_grows names count number l (labelled label l) width values f fit refl same few
grows names count number l label (statement.Skip n) f fit same few = by_nothing number l _ f same few refl
grows names count number l label (statement.Align unit) f fit same few = by_nothing number l _ f same few refl
grows names count number l label (statement.Equ name value) f fit same few = by_nothing number l _ f same few refl
grows names count number l label (statement.Start node slot address) f fit same few = by_start l _ _ f _ refl same few refl
grows names count number l label (statement.Always line) f fit same few = by_nothing number l _ f same few refl

-- ---- lines

fits_of : (l : Layout) (label : Option (List ℕ)) (s : Statement) → statement_fault l label s ≡ None → fits l s ≡ true
fits_of l label s none = go (is_unknown l s) (label_again l label || statement_again l label s) (fits l s) refl none
  where
    go : (u r b : Bool) → fits l s ≡ b → (if u then Some UnknownName else (if r then Some Redefined else (if not b then Some Range else (if not (is_aligned l s) then Some Unaligned else (if overlaps l s then Some Overlap else None))))) ≡ None → fits l s ≡ true
    go true r b e n = absurd cc
    go false true b e n = absurd cc
    go false false false e n = absurd cc
    go false false true e n = e

pub line_grows : (names : Names) (count number : ℕ) (l : Layout) (label : Option (List ℕ)) (s : Option Statement) (f : Filled) → fault_with l label s ≡ None → length f.words ≡ l.code → l.code ≤ 65536 → Grows l (laid_with l s (labelled label l)) (value_fault_in names count (place_of l s) s) (filled_in names number (place_of l s) s f)
line_grows names count number l label None f none same few = by_start l _ None f f refl same few refl
line_grows names count number l label (Some s) f none same few = grows names count number l label s f (fits_of l label s none) same few
