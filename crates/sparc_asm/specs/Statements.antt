-- Statements and lines: which lexemes spell them.
use Rattle.std.specs.Prelude.{ℕ, Bool, true, false, if◌then◌else◌, List, [], ◌∷◌, ◌++◌, Option, Some, None, IsTrue, codes}
use Rattle.std.specs.Option.{option_map}
use Rattle.std.specs.Str.{bytes_eq}
use Rattle.sparc_asm.specs.declared.lexemes.Lexeme.{Lexeme}
use Rattle.sparc_asm.specs.declared.lexemes.Lexeme.TheVariants as lexeme
use Rattle.sparc_asm.specs.declared.mnemonics.Form.{Form}
use Rattle.sparc_asm.specs.declared.mnemonics.Form.TheVariants as form
use Rattle.sparc_asm.specs.declared.statements.Term.TheVariants as term
use Rattle.sparc_asm.specs.declared.statements.Signed.{Signed}
use Rattle.sparc_asm.specs.declared.statements.Source.{Source}
use Rattle.sparc_asm.specs.declared.statements.Source.TheVariants as source
use Rattle.sparc_asm.specs.declared.statements.Address.{Address}
use Rattle.sparc_asm.specs.declared.statements.Statement.{Statement}
use Rattle.sparc_asm.specs.declared.statements.Statement.TheVariants.{Arith, Shift, ReadY, WriteY, Jmpl, Call, Branch, Trap, Sethi, SethiHigh, Memory, Set, Mesh, Contexts, Lines, Text, Shared, Data, Skip, Align, Equ, Start, Always}
use Rattle.sparc_asm.specs.declared.statements.Line.{Line}
use Rattle.sparc_asm.specs.Mnemonics.{form_of, directive_of}
use Rattle.sparc_asm.specs.Expressions.{signed, expression_of, in_parens, operand_of, register_of, address_of, address_at, in_brackets}

infixl 10 ◌>>=◌
-- what the next step makes of what the last one found
abbrev pub ◌>>=◌ : {A B : Type 0} → Option A → (A → Option B) → Option B
None >>= next = None
Some x >>= next = next x

-- ---- operands between commas

abbrev pub is_comma : Lexeme → Bool
is_comma lexeme.Comma = true
is_comma _ = false

-- what stands before the first comma, and what stands behind it
abbrev pub at_comma : List Lexeme → Option (List Lexeme × List Lexeme)
at_comma [] = None
at_comma (first ∷ rest) = if is_comma first then Some ([], rest) else option_map (λ parts. (first ∷ parts.0, parts.1)) (at_comma rest)

-- a value before others
abbrev pub value_before : Option (List Signed) → Option (List (List Signed)) → Option (List (List Signed))
value_before None rest = None
value_before (Some value) rest = option_map (λ more. value ∷ more) rest

-- expressions between commas, one or more, where some lexemes stand before
abbrev pub values_of : List Lexeme → List Lexeme → Option (List (List Signed))
values_of front [] = option_map (λ value. value ∷ []) (expression_of front)
values_of front (first ∷ rest) =
    if is_comma first then value_before (expression_of front) (values_of [] rest)
    else values_of (front ++ first ∷ []) rest

-- nothing
abbrev pub nothing : {A : Type 0} → A → List Lexeme → Option A
nothing found [] = Some found
nothing found (first ∷ rest) = None

-- a register, an operand and a register
abbrev pub three_operands : List Lexeme → Option (ℕ × Source × ℕ)
three_operands lexemes = do
  parts ← at_comma lexemes
  others ← at_comma parts.1
  rs1 ← register_of parts.0
  operand ← operand_of others.0
  rd ← register_of others.1
  Some (rs1, operand, rd)

-- ---- instructions

-- the expression that is one number
abbrev pub constant : ℕ → List Signed
constant n = signed false (term.Number n) ∷ []

-- ADD and the like (B.11 to B.14, B.18)
abbrev pub arith_of : ℕ → List Lexeme → Option Statement
arith_of op3 lexemes = option_map (λ o. Arith op3 o.0 o.1 o.2) (three_operands lexemes)

-- SLL, SRL and SRA (B.12)
abbrev pub shift_of : ℕ → List Lexeme → Option Statement
shift_of op3 lexemes = option_map (λ o. Shift op3 o.0 o.1 o.2) (three_operands lexemes)

-- loads, LDSTUB and SWAP: an address in brackets and a register (B.2, B.7, B.8)
abbrev pub load_of : ℕ → List Lexeme → Option Statement
load_of op3 lexemes = do
  parts ← at_comma lexemes
  address ← in_brackets parts.0
  rd ← register_of parts.1
  Some (Memory op3 address rd)

-- stores: a register and an address in brackets (B.4)
abbrev pub store_of : ℕ → List Lexeme → Option Statement
store_of op3 lexemes = do
  parts ← at_comma lexemes
  rd ← register_of parts.0
  address ← in_brackets parts.1
  Some (Memory op3 address rd)

-- whether a branch is written with `,a`, and what stands behind that
abbrev pub annulled : List Lexeme → Bool × List Lexeme
annulled (lexeme.Comma ∷ lexeme.Name name ∷ rest) = if bytes_eq name (codes "a") then (true, rest) else (false, lexeme.Comma ∷ lexeme.Name name ∷ rest)
annulled lexemes = (false, lexemes)

-- Bicc: a target, where `,a` may stand first (B.21)
abbrev pub branch_of : ℕ → List Lexeme → Option Statement
branch_of condition lexemes = let parts = annulled lexemes in option_map (Branch parts.0 condition) (expression_of parts.1)

-- the address of a trap: an address, or an expression alone, which is added to register 0
abbrev pub trap_address : List Lexeme → Option Address
trap_address (lexeme.Register r ∷ rest) = address_of (lexeme.Register r ∷ rest)
trap_address lexemes = option_map (λ number. address_at 0 (source.Number number)) (expression_of lexemes)

-- `%y` and a register (B.28)
abbrev pub read_y_of : List Lexeme → Option Statement
read_y_of (lexeme.Y ∷ lexeme.Comma ∷ rest) = option_map ReadY (register_of rest)
read_y_of _ = None

abbrev pub is_y : List Lexeme → Bool
is_y (lexeme.Y ∷ []) = true
is_y _ = false

-- a register, an operand and `%y` (B.29)
abbrev pub write_y_of : List Lexeme → Option Statement
write_y_of lexemes = do
  parts ← at_comma lexemes
  others ← at_comma parts.1
  rs1 ← register_of parts.0
  operand ← operand_of others.0
  if is_y others.1 then Some (WriteY rs1 operand) else None

-- an address and a register (B.25)
abbrev pub jmpl_of : List Lexeme → Option Statement
jmpl_of lexemes = do
  parts ← at_comma lexemes
  address ← address_of parts.0
  rd ← register_of parts.1
  Some (Jmpl address rd)

-- the value of SETHI: `%hi` with an expression in parentheses, or an expression (B.9)
abbrev pub sethi_of : ℕ → List Lexeme → Option Statement
sethi_of rd (lexeme.High ∷ rest) = option_map (λ value. SethiHigh value rd) (in_parens rest)
sethi_of rd lexemes = option_map (λ value. Sethi value rd) (expression_of lexemes)

abbrev pub sethi_to : List Lexeme → Option Statement
sethi_to lexemes = do
  parts ← at_comma lexemes
  rd ← register_of parts.1
  sethi_of rd parts.0

-- ---- synthetic forms

-- SUBcc to register 0
abbrev pub compare_of : List Lexeme → Option Statement
compare_of lexemes = do
  parts ← at_comma lexemes
  rs1 ← register_of parts.0
  operand ← operand_of parts.1
  Some (Arith 0x14 rs1 operand 0)

-- OR of register 0 and an operand
abbrev pub move_of : List Lexeme → Option Statement
move_of lexemes = do
  parts ← at_comma lexemes
  operand ← operand_of parts.0
  rd ← register_of parts.1
  Some (Arith 0x02 0 operand rd)

-- ORcc of register 0 and a register, to register 0
abbrev pub test_of : List Lexeme → Option Statement
test_of lexemes = option_map (λ r. Arith 0x12 0 (source.Register r) 0) (register_of lexemes)

-- OR of register 0 and register 0
abbrev pub clear_of : List Lexeme → Option Statement
clear_of lexemes = option_map (λ r. Arith 0x02 0 (source.Register 0) r) (register_of lexemes)

-- SETHI and OR
abbrev pub set_of : List Lexeme → Option Statement
set_of lexemes = do
  parts ← at_comma lexemes
  value ← expression_of parts.0
  rd ← register_of parts.1
  Some (Set value rd)

-- ---- directives

-- two expressions
abbrev pub mesh_of : List Lexeme → Option Statement
mesh_of lexemes = do
  parts ← at_comma lexemes
  width ← expression_of parts.0
  height ← expression_of parts.1
  Some (Mesh width height)

-- a name and its value
abbrev pub equ_of : List Lexeme → Option Statement
equ_of (lexeme.Name name ∷ lexeme.Comma ∷ rest) = option_map (Equ name) (expression_of rest)
equ_of _ = None

-- node, slot and address
abbrev pub start_of : List Lexeme → Option Statement
start_of lexemes = do
  parts ← at_comma lexemes
  others ← at_comma parts.1
  node ← expression_of parts.0
  slot ← expression_of others.0
  address ← expression_of others.1
  Some (Start node slot address)

-- ---- statements and lines

-- the statement of a form with these operands: None where they don't fit it
unfoldable pub statement_of : Form → List Lexeme → Option Statement
statement_of (form.Arith op3) lexemes = arith_of op3 lexemes
statement_of (form.Shift op3) lexemes = shift_of op3 lexemes
statement_of (form.Load op3) lexemes = load_of op3 lexemes
statement_of (form.Store op3) lexemes = store_of op3 lexemes
statement_of (form.Branch condition) lexemes = branch_of condition lexemes
statement_of (form.Trap condition) lexemes = option_map (Trap condition) (trap_address lexemes)
statement_of form.ReadY lexemes = read_y_of lexemes
statement_of form.WriteY lexemes = write_y_of lexemes
statement_of form.Jmpl lexemes = jmpl_of lexemes
statement_of form.Call lexemes = option_map Call (expression_of lexemes)
statement_of form.Sethi lexemes = sethi_to lexemes
statement_of form.Nop lexemes = nothing (Sethi (constant 0) 0) lexemes
statement_of form.Compare lexemes = compare_of lexemes
statement_of form.Move lexemes = move_of lexemes
statement_of form.Test lexemes = test_of lexemes
statement_of form.Clear lexemes = clear_of lexemes
statement_of form.Jump lexemes = option_map (λ address. Jmpl address 0) (address_of lexemes)
statement_of form.ReturnLeaf lexemes = nothing (Jmpl (address_at 15 (source.Number (constant 8))) 0) lexemes
statement_of form.Set lexemes = set_of lexemes
statement_of form.Mesh lexemes = mesh_of lexemes
statement_of form.Contexts lexemes = option_map Contexts (expression_of lexemes)
statement_of form.Lines lexemes = option_map Lines (expression_of lexemes)
statement_of form.Text lexemes = nothing Text lexemes
statement_of form.Shared lexemes = option_map Shared (expression_of lexemes)
statement_of (form.Data width) lexemes = option_map (Data width) (values_of [] lexemes)
statement_of form.Skip lexemes = option_map Skip (expression_of lexemes)
statement_of form.Align lexemes = option_map Align (expression_of lexemes)
statement_of form.Equ lexemes = equ_of lexemes
statement_of form.Start lexemes = start_of lexemes
statement_of form.Always lexemes = option_map Always (expression_of lexemes)

-- a form whose only operand is an expression
abbrev pub takes_one : Form → Bool
takes_one form.Call = true
takes_one form.Contexts = true
takes_one form.Lines = true
takes_one form.Shared = true
takes_one form.Skip = true
takes_one form.Align = true
takes_one form.Always = true
takes_one _ = false

abbrev pub TakesOne : Form → Type 0
TakesOne f = IsTrue (takes_one f)

-- the statement with a name and operands
abbrev pub named : Option Form → List Lexeme → Option (Option Statement)
named None lexemes = None
named (Some f) lexemes = option_map Some (statement_of f lexemes)

-- a statement, or nothing
abbrev pub perhaps_statement : List Lexeme → Option (Option Statement)
perhaps_statement [] = Some None
perhaps_statement (lexeme.Name name ∷ rest) = named (form_of name) rest
perhaps_statement (lexeme.Directive name ∷ rest) = named (directive_of name) rest
perhaps_statement _ = None

-- a line with this label
abbrev pub line_with : Option (List ℕ) → Option Statement → Line
line_with label statement = record { label = label; statement = statement }

-- a line: a label with its colon or none, and a statement or none
abbrev pub spelled_line : List Lexeme → Option Line
spelled_line (lexeme.Name name ∷ lexeme.Colon ∷ rest) = option_map (line_with (Some name)) (perhaps_statement rest)
spelled_line lexemes = option_map (line_with None) (perhaps_statement lexemes)
