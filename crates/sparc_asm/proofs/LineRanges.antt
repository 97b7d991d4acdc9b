-- The lines that are read are within their ranges.
use Rattle.std.proofs.Common.{◌≡◌, true, false, Bool, ℕ, ◌+◌, ◌-◌, ◌*◌, ◌<◌, ◌≤◌, ◌==◌, ◌&&◌, if◌then◌else◌, nat_lt, IsTrue, List, [], ◌∷◌, length, slice_get, slice_index, zero, suc, Option, Some, None, Result, Ok, Err, subst, refl, sym, arith}
use Rattle.std.specs.Option.{option_map}
use Rattle.std.specs.Int.{is_in_range}
use Rattle.std.specs.Char.{is_ascii_digit}
use Rattle.std.specs.List.{list_all}
use Rattle.std.specs.Str.{bytes_eq}
use Rattle.std.proofs.lemmas.Bool.{true≢false}
use Rattle.std.proofs.lemmas.Bool.Decides.{nat_tests}
use Rattle.alw_text.specs.Lines.{lines_of}
use Rattle.sparc_lex.specs.declared.kinds.Token.{Token}
use Rattle.sparc_lex.specs.declared.kinds.TokenKind.{TokenKind}
use Rattle.sparc_lex.specs.declared.kinds.TokenKind.TheVariants as kind
use Rattle.sparc_lex.specs.Cut.{line_tokens, text_of}
use Rattle.sparc_table.specs.Table.{is_in, arithmetic, shifts, accesses}
use Rattle.sparc_asm.specs.declared.lexemes.Lexeme.{Lexeme}
use Rattle.sparc_asm.specs.declared.lexemes.Lexeme.TheVariants as lexeme
use Rattle.sparc_asm.specs.declared.mnemonics.Form.{Form}
use Rattle.sparc_asm.specs.declared.mnemonics.Form.TheVariants as form
use Rattle.sparc_asm.specs.declared.statements.Term.{Term}
use Rattle.sparc_asm.specs.declared.statements.Source.{Source}
use Rattle.sparc_asm.specs.declared.statements.Source.TheVariants as source
use Rattle.sparc_asm.specs.declared.statements.Statement.{Statement}
use Rattle.sparc_asm.specs.declared.statements.Statement.TheVariants as statement
use Rattle.sparc_asm.specs.declared.statements.Line.{Line}
use Rattle.sparc_asm.specs.declared.faults.AsmErr.{AsmErr}
use Rattle.sparc_asm.specs.Lexemes.{banked, short_register, long_register, two_characters, percented, literal, marked, worded, lexeme_of, lexeme_before, lexemes_of}
use Rattle.sparc_asm.specs.Mnemonics.{mnemonics, directives, row_of, form_of, directive_of}
use Rattle.sparc_asm.specs.Expressions.{term_of, expression_of, before_last, is_close, in_parens, operand_of, register_of, address_at, less, offset_of, address_of, address_in, in_brackets}
use Rattle.sparc_asm.specs.Statements.{◌>>=◌, is_comma, at_comma, values_of, nothing, three_operands, constant, load_of, store_of, annulled, trap_address, read_y_of, is_y, write_y_of, jmpl_of, sethi_of, sethi_to, compare_of, move_of, set_of, mesh_of, equ_of, start_of, statement_of, named, perhaps_statement, line_with, spelled_line}
use Rattle.sparc_asm.specs.Sources.{read_line, line_before, read_from, read_source}
use Rattle.sparc_asm.specs.Ranges.{SourceFits, AddressFits, StatementFits, FitsIn, LineFits, EachFits}

-- what was found has a property
abbrev Holds : {A : Type 0} → (A → Type 0) → Option A → Type 0
Holds P None = Unit {0}
Holds P (Some x) = P x

anything : {A : Type 0} (o : Option A) → Holds (λ x. Unit {0}) o
anything None = tt
anything (Some x) = tt

bound : {A B : Type 0} (P : A → Type 0) (Q : B → Type 0) (o : Option A) (next : A → Option B) → Holds P o → ((x : A) → P x → Holds Q (next x)) → Holds Q (o >>= next)
bound P Q None next h more = tt
bound P Q (Some x) next h more = more x h

mapped : {A B : Type 0} (P : A → Type 0) (Q : B → Type 0) (o : Option A) (f : A → B) → Holds P o → ((x : A) → P x → Q (f x)) → Holds Q (option_map f o)
mapped P Q None f h more = tt
mapped P Q (Some x) f h more = more x h

-- the same where what was found doesn't matter
made : {A B : Type 0} (Q : B → Type 0) (o : Option A) (f : A → B) → ((x : A) → Q (f x)) → Holds Q (option_map f o)
made Q None f more = tt
made Q (Some x) f more = more x

either : {A : Type 0} (P : A → Type 0) (b : Bool) (x y : Option A) → Holds P x → Holds P y → Holds P (if b then x else y)
either P true x y h k = h
either P false x y h k = k

given : {A : Type 0} (P : A → Type 0) (b : Bool) (x : A) → (b ≡ true → P x) → Holds P (if b then Some x else None)
given P true x h = h refl
given P false x h = tt

-- ---- lexemes

abbrev IsRegister : ℕ → Type 0
IsRegister r = r < 32

abbrev LexemeFits : Lexeme → Type 0
LexemeFits (lexeme.Register r) = r < 32
LexemeFits _ = Unit {0}

abbrev AllFit : List Lexeme → Type 0
AllFit [] = Unit {0}
AllFit (x ∷ xs) = LexemeFits x × AllFit xs

banked_fits : (start digit : ℕ) → start ≤ 24 → Holds IsRegister (banked start digit)
banked_fits start digit l = given IsRegister (is_in_range 48 55 digit) (start + (digit - 48)) (λ is. grind (arith, nat_tests, is))

short_fits : (bank digit : ℕ) → Holds IsRegister (short_register bank digit)
short_fits bank digit =
    either IsRegister (bank == 103) _ _ (banked_fits 0 digit (omega arith)) (
    either IsRegister (bank == 111) _ _ (banked_fits 8 digit (omega arith)) (
    either IsRegister (bank == 108) _ _ (banked_fits 16 digit (omega arith)) (
    either IsRegister (bank == 105) _ _ (banked_fits 24 digit (omega arith)) (
    either IsRegister (bank == 114) _ _ (given IsRegister (is_ascii_digit digit) (digit - 48) (λ is. grind (arith, nat_tests, is))) (
    either IsRegister (bank == 115 && digit == 112) (Some 14) _ (omega arith) (
    given IsRegister (bank == 102 && digit == 112) 30 (λ is. omega arith)))))))

long_fits : (tens units : ℕ) → Holds IsRegister (long_register tens units)
long_fits tens units = given IsRegister (is_in_range 49 51 tens && is_ascii_digit units && nat_lt (10 * (tens - 48) + (units - 48)) 32) (10 * (tens - 48) + (units - 48)) (λ is. grind (arith, nat_tests, is))

two_fit : (first second : ℕ) → Holds LexemeFits (two_characters first second)
two_fit first second =
    either LexemeFits (first == 104 && second == 105) (Some lexeme.High) _ tt (
    either LexemeFits (first == 108 && second == 111) (Some lexeme.Low) _ tt (
    mapped IsRegister LexemeFits (short_register first second) lexeme.Register (short_fits first second) (λ r l. l)))

percented_fits : (text : List ℕ) → Holds LexemeFits (percented text)
percented_fits text =
    either LexemeFits (length text == 2) _ _ (given LexemeFits (slice_index text 1 == 121) lexeme.Y (λ is. tt)) (
    either LexemeFits (length text == 3) _ _ (two_fit (slice_index text 1) (slice_index text 2)) (
    either LexemeFits (length text == 4 && slice_index text 1 == 114) _ None (mapped IsRegister LexemeFits (long_register (slice_index text 2) (slice_index text 3)) lexeme.Register (long_fits (slice_index text 2) (slice_index text 3)) (λ r l. l)) tt))

marked_fits : (byte : ℕ) → Holds LexemeFits (marked byte)
marked_fits byte =
    either LexemeFits (byte == 44) (Some lexeme.Comma) _ tt (
    either LexemeFits (byte == 58) (Some lexeme.Colon) _ tt (
    either LexemeFits (byte == 43) (Some lexeme.Plus) _ tt (
    either LexemeFits (byte == 45) (Some lexeme.Minus) _ tt (
    either LexemeFits (byte == 91) (Some lexeme.Open) _ tt (
    either LexemeFits (byte == 93) (Some lexeme.Close) _ tt (
    either LexemeFits (byte == 40) (Some lexeme.OpenParen) _ tt (
    given LexemeFits (byte == 41) lexeme.CloseParen (λ is. tt))))))))

worded_fits : (text : List ℕ) → Holds LexemeFits (worded text)
worded_fits [] = tt
worded_fits (first ∷ rest) = either LexemeFits (first == 46) (Some (lexeme.Directive rest)) (Some (lexeme.Name (first ∷ rest))) tt tt

lexeme_fits : (k : TokenKind) (text : List ℕ) → Holds LexemeFits (lexeme_of k text)
lexeme_fits kind.Word text = worded_fits text
lexeme_fits kind.Dot text = tt
lexeme_fits kind.Number text = made LexemeFits (literal text) lexeme.Number (λ n. tt)
lexeme_fits kind.Percent text = percented_fits text
lexeme_fits kind.Mark text = marked_fits (slice_index text 0)

before_fits : (o : Option Lexeme) (rest : Option (List Lexeme)) → Holds LexemeFits o → Holds AllFit rest → Holds AllFit (lexeme_before o rest)
before_fits None rest h k = tt
before_fits (Some x) None h k = tt
before_fits (Some x) (Some xs) h k = (h, k)

lexemes_fit : (text : List ℕ) (tokens : List Token) → Holds AllFit (lexemes_of text tokens)
lexemes_fit text [] = tt
lexemes_fit text (token ∷ rest) = before_fits (lexeme_of token.kind (text_of text token)) (lexemes_of text rest) (lexeme_fits token.kind (text_of text token)) (lexemes_fit text rest)

-- ---- parts of lines

abbrev PartsFit : List Lexeme × List Lexeme → Type 0
PartsFit parts = AllFit parts.0 × AllFit parts.1

parts_fit : (xs : List Lexeme) → AllFit xs → Holds PartsFit (at_comma xs)
parts_fit [] all = tt
parts_fit (x ∷ xs) all = either PartsFit (is_comma x) (Some ([], xs)) (option_map (λ (parts : List Lexeme × List Lexeme). (x ∷ parts.0, parts.1)) (at_comma xs)) (tt, all.1) (mapped PartsFit PartsFit (at_comma xs) (λ (parts : List Lexeme × List Lexeme). (x ∷ parts.0, parts.1)) (parts_fit xs all.1) (λ parts p. ((all.0, p.0), p.1)))

last_fits : (closes : Lexeme → Bool) (xs : List Lexeme) → AllFit xs → Holds AllFit (before_last closes xs)
last_fits closes [] all = tt
last_fits closes (last ∷ []) all = given AllFit (closes last) [] (λ is. tt)
last_fits closes (x ∷ y ∷ rest) all = mapped AllFit AllFit (before_last closes (y ∷ rest)) (λ inner. x ∷ inner) (last_fits closes (y ∷ rest) all.1) (λ inner p. (all.0, p))

register_fits : (xs : List Lexeme) → AllFit xs → Holds IsRegister (register_of xs)
register_fits (lexeme.Register r ∷ []) all = all.0
register_fits _ all = tt

operand_fits : (xs : List Lexeme) → AllFit xs → Holds SourceFits (operand_of xs)
operand_fits (lexeme.Register r ∷ []) all = all.0
operand_fits (lexeme.Low ∷ rest) all = made SourceFits (in_parens rest) source.Low (λ e. tt)
operand_fits xs all = made SourceFits (expression_of xs) source.Number (λ e. tt)

less_fits : (t : Option Term) → Holds SourceFits (less t)
less_fits None = tt
less_fits (Some t) = tt

offset_fits : (xs : List Lexeme) → AllFit xs → Holds SourceFits (offset_of xs)
offset_fits [] all = omega arith
offset_fits (lexeme.Plus ∷ rest) all = operand_fits rest all.1
offset_fits (lexeme.Minus ∷ last ∷ []) all = less_fits (term_of last)
offset_fits _ all = tt

address_fits : (xs : List Lexeme) → AllFit xs → Holds AddressFits (address_of xs)
address_fits (lexeme.Register r ∷ rest) all = mapped SourceFits AddressFits (offset_of rest) (address_at r) (offset_fits rest all.1) (λ o p. (all.0, p))
address_fits _ all = tt

address_in_fits : (o : Option (List Lexeme)) → Holds AllFit o → Holds AddressFits (address_in o)
address_in_fits None h = tt
address_in_fits (Some xs) h = address_fits xs h

brackets_fit : (xs : List Lexeme) → AllFit xs → Holds AddressFits (in_brackets xs)
brackets_fit (lexeme.Open ∷ rest) all = address_in_fits (before_last is_close rest) (last_fits is_close rest all.1)
brackets_fit _ all = tt

-- ---- statements

abbrev ThreeFit : ℕ × Source × ℕ → Type 0
ThreeFit o = (o.0 < 32) × SourceFits o.1 × (o.2 < 32)

three_fit : (xs : List Lexeme) → AllFit xs → Holds ThreeFit (three_operands xs)
three_fit xs all =
    bound PartsFit ThreeFit (at_comma xs) _ (parts_fit xs all) (λ parts p.
    bound PartsFit ThreeFit (at_comma parts.1) _ (parts_fit parts.1 p.1) (λ others q.
    bound IsRegister ThreeFit (register_of parts.0) _ (register_fits parts.0 p.0) (λ rs1 a.
    bound SourceFits ThreeFit (operand_of others.0) _ (operand_fits others.0 q.0) (λ operand b.
    bound IsRegister ThreeFit (register_of others.1) _ (register_fits others.1 q.1) (λ rd c. (a, b, c))))))

load_fits : (op3 : ℕ) (xs : List Lexeme) → IsTrue (is_in accesses op3) → AllFit xs → Holds StatementFits (load_of op3 xs)
load_fits op3 xs row all =
    bound PartsFit StatementFits (at_comma xs) _ (parts_fit xs all) (λ parts p.
    bound AddressFits StatementFits (in_brackets parts.0) _ (brackets_fit parts.0 p.0) (λ address a.
    bound IsRegister StatementFits (register_of parts.1) _ (register_fits parts.1 p.1) (λ rd b. (row, a, b))))

store_fits : (op3 : ℕ) (xs : List Lexeme) → IsTrue (is_in accesses op3) → AllFit xs → Holds StatementFits (store_of op3 xs)
store_fits op3 xs row all =
    bound PartsFit StatementFits (at_comma xs) _ (parts_fit xs all) (λ parts p.
    bound IsRegister StatementFits (register_of parts.0) _ (register_fits parts.0 p.0) (λ rd b.
    bound AddressFits StatementFits (in_brackets parts.1) _ (brackets_fit parts.1 p.1) (λ address a. (row, a, b))))

trap_fits : (xs : List Lexeme) → AllFit xs → Holds AddressFits (trap_address xs)
trap_fits (lexeme.Register r ∷ rest) all = address_fits (lexeme.Register r ∷ rest) all
trap_fits xs all = made AddressFits (expression_of xs) (λ number. address_at 0 (source.Number number)) (λ e. (omega arith, tt))

read_y_fits : (xs : List Lexeme) → AllFit xs → Holds StatementFits (read_y_of xs)
read_y_fits (lexeme.Y ∷ lexeme.Comma ∷ rest) all = mapped IsRegister StatementFits (register_of rest) statement.ReadY (register_fits rest all.1.1) (λ r l. l)
read_y_fits _ all = tt

write_y_fits : (xs : List Lexeme) → AllFit xs → Holds StatementFits (write_y_of xs)
write_y_fits xs all =
    bound PartsFit StatementFits (at_comma xs) _ (parts_fit xs all) (λ parts p.
    bound PartsFit StatementFits (at_comma parts.1) _ (parts_fit parts.1 p.1) (λ others q.
    bound IsRegister StatementFits (register_of parts.0) _ (register_fits parts.0 p.0) (λ rs1 a.
    bound SourceFits StatementFits (operand_of others.0) _ (operand_fits others.0 q.0) (λ operand b.
    given StatementFits (is_y others.1) (statement.WriteY rs1 operand) (λ is. (a, b))))))

jmpl_fits : (xs : List Lexeme) → AllFit xs → Holds StatementFits (jmpl_of xs)
jmpl_fits xs all =
    bound PartsFit StatementFits (at_comma xs) _ (parts_fit xs all) (λ parts p.
    bound AddressFits StatementFits (address_of parts.0) _ (address_fits parts.0 p.0) (λ address a.
    bound IsRegister StatementFits (register_of parts.1) _ (register_fits parts.1 p.1) (λ rd b. (a, b))))

sethi_of_fits : (rd : ℕ) (xs : List Lexeme) → rd < 32 → Holds StatementFits (sethi_of rd xs)
sethi_of_fits rd (lexeme.High ∷ rest) l = made StatementFits (in_parens rest) (λ value. statement.SethiHigh value rd) (λ e. l)
sethi_of_fits rd xs l = made StatementFits (expression_of xs) (λ value. statement.Sethi value rd) (λ e. l)

sethi_fits : (xs : List Lexeme) → AllFit xs → Holds StatementFits (sethi_to xs)
sethi_fits xs all =
    bound PartsFit StatementFits (at_comma xs) _ (parts_fit xs all) (λ parts p.
    bound IsRegister StatementFits (register_of parts.1) _ (register_fits parts.1 p.1) (λ rd b. sethi_of_fits rd parts.0 b))

compare_fits : (xs : List Lexeme) → AllFit xs → Holds StatementFits (compare_of xs)
compare_fits xs all =
    bound PartsFit StatementFits (at_comma xs) _ (parts_fit xs all) (λ parts p.
    bound IsRegister StatementFits (register_of parts.0) _ (register_fits parts.0 p.0) (λ rs1 a.
    bound SourceFits StatementFits (operand_of parts.1) _ (operand_fits parts.1 p.1) (λ operand b. (refl, a, b, omega arith))))

move_fits : (xs : List Lexeme) → AllFit xs → Holds StatementFits (move_of xs)
move_fits xs all =
    bound PartsFit StatementFits (at_comma xs) _ (parts_fit xs all) (λ parts p.
    bound SourceFits StatementFits (operand_of parts.0) _ (operand_fits parts.0 p.0) (λ operand b.
    bound IsRegister StatementFits (register_of parts.1) _ (register_fits parts.1 p.1) (λ rd a. (refl, omega arith, b, a))))

set_fits : (xs : List Lexeme) → AllFit xs → Holds StatementFits (set_of xs)
set_fits xs all =
    bound PartsFit StatementFits (at_comma xs) _ (parts_fit xs all) (λ parts p.
    bound (λ e. Unit {0}) StatementFits (expression_of parts.0) _ (anything (expression_of parts.0)) (λ value u.
    bound IsRegister StatementFits (register_of parts.1) _ (register_fits parts.1 p.1) (λ rd a. a)))

mesh_fits : (xs : List Lexeme) → Holds StatementFits (mesh_of xs)
mesh_fits xs =
    bound (λ p. Unit {0}) StatementFits (at_comma xs) _ (anything (at_comma xs)) (λ parts u.
    bound (λ e. Unit {0}) StatementFits (expression_of parts.0) _ (anything (expression_of parts.0)) (λ width v.
    bound (λ e. Unit {0}) StatementFits (expression_of parts.1) _ (anything (expression_of parts.1)) (λ height w. tt)))

equ_fits : (xs : List Lexeme) → Holds StatementFits (equ_of xs)
equ_fits (lexeme.Name name ∷ lexeme.Comma ∷ rest) = made StatementFits (expression_of rest) (statement.Equ name) (λ e. tt)
equ_fits _ = tt

start_fits : (xs : List Lexeme) → Holds StatementFits (start_of xs)
start_fits xs =
    bound (λ p. Unit {0}) StatementFits (at_comma xs) _ (anything (at_comma xs)) (λ parts u.
    bound (λ p. Unit {0}) StatementFits (at_comma parts.1) _ (anything (at_comma parts.1)) (λ others v.
    bound (λ e. Unit {0}) StatementFits (expression_of parts.0) _ (anything (expression_of parts.0)) (λ node w.
    bound (λ e. Unit {0}) StatementFits (expression_of others.0) _ (anything (expression_of others.0)) (λ slot x.
    bound (λ e. Unit {0}) StatementFits (expression_of others.1) _ (anything (expression_of others.1)) (λ address y. tt)))))

nothing_fits : (s : Statement) (xs : List Lexeme) → StatementFits s → Holds StatementFits (nothing s xs)
nothing_fits s [] fits = fits
nothing_fits s (x ∷ xs) fits = tt

-- ---- forms

abbrev form_fits : Form → Bool
form_fits (form.Arith op3) = is_in arithmetic op3
form_fits (form.Shift op3) = is_in shifts op3
form_fits (form.Load op3) = is_in accesses op3
form_fits (form.Store op3) = is_in accesses op3
form_fits (form.Branch condition) = nat_lt condition 16
form_fits (form.Trap condition) = nat_lt condition 16
form_fits _ = true

statement_fits : (f : Form) (xs : List Lexeme) → form_fits f ≡ true → AllFit xs → Holds StatementFits (statement_of f xs)
unfolding statement_of
statement_fits (form.Arith op3) xs row all = mapped ThreeFit StatementFits (three_operands xs) (λ (o : ℕ × Source × ℕ). statement.Arith op3 o.0 o.1 o.2) (three_fit xs all) (λ o p. (row, p.0, p.1, p.2))
statement_fits (form.Shift op3) xs row all = mapped ThreeFit StatementFits (three_operands xs) (λ (o : ℕ × Source × ℕ). statement.Shift op3 o.0 o.1 o.2) (three_fit xs all) (λ o p. (row, p.0, p.1, p.2))
statement_fits (form.Load op3) xs row all = load_fits op3 xs row all
statement_fits (form.Store op3) xs row all = store_fits op3 xs row all
statement_fits (form.Branch condition) xs row all = made StatementFits (expression_of (annulled xs).1) (statement.Branch (annulled xs).0 condition) (λ e. grind (arith, nat_tests, row))
statement_fits (form.Trap condition) xs row all = mapped AddressFits StatementFits (trap_address xs) (statement.Trap condition) (trap_fits xs all) (λ a p. (grind (arith, nat_tests, row), p))
statement_fits form.ReadY xs row all = read_y_fits xs all
statement_fits form.WriteY xs row all = write_y_fits xs all
statement_fits form.Jmpl xs row all = jmpl_fits xs all
statement_fits form.Call xs row all = made StatementFits (expression_of xs) statement.Call (λ e. tt)
statement_fits form.Sethi xs row all = sethi_fits xs all
statement_fits form.Nop xs row all = nothing_fits (statement.Sethi (constant 0) 0) xs (omega arith)
statement_fits form.Compare xs row all = compare_fits xs all
statement_fits form.Move xs row all = move_fits xs all
statement_fits form.Test xs row all = mapped IsRegister StatementFits (register_of xs) (λ r. statement.Arith 0x12 0 (source.Register r) 0) (register_fits xs all) (λ r l. (refl, omega arith, l, omega arith))
statement_fits form.Clear xs row all = mapped IsRegister StatementFits (register_of xs) (λ r. statement.Arith 0x02 0 (source.Register 0) r) (register_fits xs all) (λ r l. (refl, omega arith, omega arith, l))
statement_fits form.Jump xs row all = mapped AddressFits StatementFits (address_of xs) (λ address. statement.Jmpl address 0) (address_fits xs all) (λ a p. (p, omega arith))
statement_fits form.ReturnLeaf xs row all = nothing_fits (statement.Jmpl (address_at 15 (source.Number (constant 8))) 0) xs ((omega arith, tt), omega arith)
statement_fits form.Set xs row all = set_fits xs all
statement_fits form.Mesh xs row all = mesh_fits xs
statement_fits form.Contexts xs row all = made StatementFits (expression_of xs) statement.Contexts (λ e. tt)
statement_fits form.Lines xs row all = made StatementFits (expression_of xs) statement.Lines (λ e. tt)
statement_fits form.Text xs row all = nothing_fits statement.Text xs tt
statement_fits form.Shared xs row all = made StatementFits (expression_of xs) statement.Shared (λ e. tt)
statement_fits (form.Data width) xs row all = made StatementFits (values_of [] xs) (statement.Data width) (λ e. tt)
statement_fits form.Skip xs row all = made StatementFits (expression_of xs) statement.Skip (λ e. tt)
statement_fits form.Align xs row all = made StatementFits (expression_of xs) statement.Align (λ e. tt)
statement_fits form.Equ xs row all = equ_fits xs
statement_fits form.Start xs row all = start_fits xs
statement_fits form.Always xs row all = made StatementFits (expression_of xs) statement.Always (λ e. tt)

abbrev FormFits : Form → Type 0
FormFits f = form_fits f ≡ true

row_fits : (name : List ℕ) (table : List (List ℕ × Form)) → list_all (λ row. form_fits row.1) table ≡ true → Holds FormFits (row_of name table)
row_fits name [] all = tt
row_fits name (row ∷ rest) all = go (form_fits row.1) refl all (row_fits name rest)
  where
    go : (b : Bool) → form_fits row.1 ≡ b → (b && list_all (λ r. form_fits r.1) rest) ≡ true → (list_all (λ r. form_fits r.1) rest ≡ true → Holds FormFits (row_of name rest)) → Holds FormFits (row_of name (row ∷ rest))
    go true e all more = either FormFits (bytes_eq row.0 name) (Some row.1) (row_of name rest) e (more all)
    go false e all more = absurd (true≢false (sym all))

mnemonic_fits : (name : List ℕ) → Holds FormFits (form_of name)
unfolding form_of
mnemonic_fits name = row_fits name mnemonics refl

directive_fits : (name : List ℕ) → Holds FormFits (directive_of name)
unfolding directive_of
directive_fits name = row_fits name directives refl

-- ---- lines

named_fits : (o : Option Form) (xs : List Lexeme) → Holds FormFits o → AllFit xs → Holds FitsIn (named o xs)
named_fits None xs h all = tt
named_fits (Some f) xs h all = mapped StatementFits FitsIn (statement_of f xs) Some (statement_fits f xs h all) (λ s p. p)

perhaps_fits : (xs : List Lexeme) → AllFit xs → Holds FitsIn (perhaps_statement xs)
perhaps_fits [] all = tt
perhaps_fits (lexeme.Name name ∷ rest) all = named_fits (form_of name) rest (mnemonic_fits name) all.1
perhaps_fits (lexeme.Directive name ∷ rest) all = named_fits (directive_of name) rest (directive_fits name) all.1
perhaps_fits _ all = tt

line_fits : (xs : List Lexeme) → AllFit xs → Holds LineFits (spelled_line xs)
line_fits (lexeme.Name name ∷ lexeme.Colon ∷ rest) all = mapped FitsIn LineFits (perhaps_statement rest) (line_with (Some name)) (perhaps_fits rest all.1.1) (λ s p. p)
line_fits xs all = mapped FitsIn LineFits (perhaps_statement xs) (line_with None) (perhaps_fits xs all) (λ s p. p)

read_fits : (text : List ℕ) (number at : ℕ) (bytes : List ℕ) → Holds LineFits (read_line text number at bytes)
unfolding read_line
read_fits text number at bytes =
    bound (λ t. Unit {0}) LineFits (line_tokens number at bytes) _ (anything (line_tokens number at bytes)) (λ tokens u.
    bound AllFit LineFits (lexemes_of text tokens) spelled_line (lexemes_fit text tokens) (λ xs all. line_fits xs all))

abbrev LinesFit : Result (List Line) AsmErr → Type 0
LinesFit (Err e) = Unit {0}
LinesFit (Ok lines) = EachFits lines

put_before : (number : ℕ) (o : Option Line) (rest : Result (List Line) AsmErr) → Holds LineFits o → LinesFit rest → LinesFit (line_before number o rest)
put_before number None rest h more = tt
put_before number (Some line) (Err e) h more = tt
put_before number (Some line) (Ok lines) h more = (h, more)

from_fits : (text : List ℕ) (number at : ℕ) (rest : List (List ℕ)) → LinesFit (read_from text number at rest)
from_fits text number at [] = tt
from_fits text number at (bytes ∷ rest) = put_before number (read_line text number at bytes) (read_from text (number + 1) (at + (length bytes + 1)) rest) (read_fits text number at bytes) (from_fits text (number + 1) (at + (length bytes + 1)) rest)

source_fits : (text : List ℕ) → LinesFit (read_source text)
unfolding read_source
source_fits text = from_fits text 1 0 (lines_of text)

-- the lines of a source are within their ranges
pub lines_fit : (text : List ℕ) (lines : List Line) → read_source text ≡ Ok lines → EachFits lines
lines_fit text lines e = subst LinesFit e (source_fits text)

-- each of them
pub line_fits_at : (lines : List Line) (i : ℕ) (line : Line) → EachFits lines → slice_get lines i ≡ Some line → LineFits line
line_fits_at [] i line all at = absurd cc
line_fits_at (x ∷ xs) zero line all at = let same : x ≡ line = cc in subst LineFits same all.0
line_fits_at (x ∷ xs) (suc i) line all at = line_fits_at xs i line all.1 at
