-- Expressions, operands and addresses: which lexemes spell them.
use Rattle.std.specs.Prelude.{ℕ, Bool, true, false, if◌then◌else◌, List, [], ◌∷◌, Option, Some, None}
use Rattle.std.specs.Option.{option_map}
use Rattle.sparc_asm.specs.declared.lexemes.Lexeme.{Lexeme}
use Rattle.sparc_asm.specs.declared.lexemes.Lexeme.TheVariants.{Name, Here, Number, Register, Low, Plus, Minus, Open, Close, OpenParen, CloseParen}
use Rattle.sparc_asm.specs.declared.statements.Term.{Term}
use Rattle.sparc_asm.specs.declared.statements.Term.TheVariants as term
use Rattle.sparc_asm.specs.declared.statements.Signed.{Signed}
use Rattle.sparc_asm.specs.declared.statements.Source.{Source}
use Rattle.sparc_asm.specs.declared.statements.Source.TheVariants as source
use Rattle.sparc_asm.specs.declared.statements.Address.{Address}

-- ---- expressions

-- a number, a name or the dot
abbrev pub term_of : Lexeme → Option Term
term_of (Number n) = Some (term.Number n)
term_of (Name name) = Some (term.Name name)
term_of Here = Some term.Here
term_of _ = None

-- whether what follows a sign is taken away
abbrev pub minus_of : Lexeme → Option Bool
minus_of Plus = Some false
minus_of Minus = Some true
minus_of _ = None

-- a term with its sign
abbrev pub signed : Bool → Term → Signed
signed minus t = record { minus = minus; term = t }

-- a term before the terms behind it
abbrev pub term_before : Bool → Option Term → Option (List Signed) → Option (List Signed)
term_before minus None rest = None
term_before minus (Some t) rest = option_map (λ terms. signed minus t ∷ terms) rest

-- what a sign stands before
abbrev pub behind_sign : Option Bool → (Bool → Option (List Signed)) → Option (List Signed)
behind_sign None next = None
behind_sign (Some minus) next = next minus

-- a term, and then any number of signs with a term each
abbrev pub sum_of : Bool → List Lexeme → Option (List Signed)
sum_of minus [] = None
sum_of minus (first ∷ []) = term_before minus (term_of first) (Some [])
sum_of minus (first ∷ sign ∷ rest) = term_before minus (term_of first) (behind_sign (minus_of sign) (λ next. sum_of next rest))

-- the same, where a minus may stand first
abbrev pub expression_of : List Lexeme → Option (List Signed)
expression_of (Minus ∷ rest) = sum_of true rest
expression_of lexemes = sum_of false lexemes

-- ---- operands

abbrev pub is_close_paren : Lexeme → Bool
is_close_paren CloseParen = true
is_close_paren _ = false

abbrev pub is_close : Lexeme → Bool
is_close Close = true
is_close _ = false

-- what stands before the last lexeme, where that one closes
abbrev pub before_last : (Lexeme → Bool) → List Lexeme → Option (List Lexeme)
before_last closes [] = None
before_last closes (last ∷ []) = if closes last then Some [] else None
before_last closes (first ∷ second ∷ rest) = option_map (λ inner. first ∷ inner) (before_last closes (second ∷ rest))

-- an expression that may be missing
abbrev pub expression_in : Option (List Lexeme) → Option (List Signed)
expression_in None = None
expression_in (Some lexemes) = expression_of lexemes

-- an expression in parentheses
abbrev pub in_parens : List Lexeme → Option (List Signed)
in_parens (OpenParen ∷ rest) = expression_in (before_last is_close_paren rest)
in_parens _ = None

-- a register, `%lo` with an expression in parentheses, or an expression
abbrev pub operand_of : List Lexeme → Option Source
operand_of (Register r ∷ []) = Some (source.Register r)
operand_of (Low ∷ rest) = option_map source.Low (in_parens rest)
operand_of lexemes = option_map source.Number (expression_of lexemes)

-- a register
abbrev pub register_of : List Lexeme → Option ℕ
register_of (Register r ∷ []) = Some r
register_of _ = None

-- ---- addresses

abbrev pub address_at : ℕ → Source → Address
address_at base offset = record { base = base; offset = offset }

-- a term that is taken away
abbrev pub less : Option Term → Option Source
less None = None
less (Some t) = Some (source.Number (signed true t ∷ []))

-- what stands behind an address's register
abbrev pub offset_of : List Lexeme → Option Source
offset_of [] = Some (source.Register 0)
offset_of (Plus ∷ rest) = operand_of rest
offset_of (Minus ∷ last ∷ []) = less (term_of last)
offset_of _ = None

-- a register, alone or with an operand that is added or a term that is taken away
abbrev pub address_of : List Lexeme → Option Address
address_of (Register r ∷ rest) = option_map (address_at r) (offset_of rest)
address_of _ = None

abbrev pub address_in : Option (List Lexeme) → Option Address
address_in None = None
address_in (Some lexemes) = address_of lexemes

-- an address in brackets
abbrev pub in_brackets : List Lexeme → Option Address
in_brackets (Open ∷ rest) = address_in (before_last is_close rest)
in_brackets _ = None
