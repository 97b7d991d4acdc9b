-- What a token says: a name, a register, a number or a mark.
use Rattle.std.specs.Prelude.{ℕ, ◌+◌, ◌-◌, ◌*◌, ◌^◌, ◌==◌, ◌&&◌, Bool, not, if◌then◌else◌, nat_lt, List, [], ◌∷◌, length, slice_index, Option, Some, None}
use Rattle.std.specs.Option.{option_map}
use Rattle.std.specs.Int.{is_in_range}
use Rattle.std.specs.Char.{digit_value, is_ascii_digit}
use Rattle.std.specs.List.{list_all}
use Rattle.std.specs.Str.Parse.{digits_value}
use Rattle.sparc_lex.specs.declared.kinds.Token.{Token}
use Rattle.sparc_lex.specs.declared.kinds.TokenKind.{TokenKind}
use Rattle.sparc_lex.specs.declared.kinds.TokenKind.TheVariants as kind
use Rattle.sparc_lex.specs.Cut.{text_of}
use Rattle.sparc_asm.specs.declared.lexemes.Lexeme.{Lexeme}
use Rattle.sparc_asm.specs.declared.lexemes.Lexeme.TheVariants.{Name, Directive, Here, Number, Register, Y, High, Low, Comma, Colon, Plus, Minus, Open, Close, OpenParen, CloseParen}

-- ---- registers

-- a bank's register with this digit, 0 to 7
abbrev pub banked : ℕ → ℕ → Option ℕ
banked start digit = if is_in_range 48 55 digit then Some (start + (digit - 48)) else None

-- the register with a name of two characters: `%g0` to `%i7`, `%r0` to `%r9`, `%sp` and `%fp`
abbrev pub short_register : ℕ → ℕ → Option ℕ
short_register bank digit =
    if bank == 103 then banked 0 digit else (
    if bank == 111 then banked 8 digit else (
    if bank == 108 then banked 16 digit else (
    if bank == 105 then banked 24 digit else (
    if bank == 114 then (if is_ascii_digit digit then Some (digit - 48) else None) else (
    if bank == 115 && digit == 112 then Some 14 else (
    if bank == 102 && digit == 112 then Some 30 else None))))))

-- the register `%r10` to `%r31` with these two digits
abbrev pub long_register : ℕ → ℕ → Option ℕ
long_register tens units =
    if is_in_range 49 51 tens && is_ascii_digit units && nat_lt (10 * (tens - 48) + (units - 48)) 32 then Some (10 * (tens - 48) + (units - 48)) else None

-- `%hi`, `%lo` or a register
abbrev pub two_characters : ℕ → ℕ → Option Lexeme
two_characters first second =
    if first == 104 && second == 105 then Some High else (
    if first == 108 && second == 111 then Some Low else
    option_map Register (short_register first second))

-- what stands behind a `%`
abbrev pub percented : List ℕ → Option Lexeme
percented text =
    if length text == 2 then (if slice_index text 1 == 121 then Some Y else None) else (
    if length text == 3 then two_characters (slice_index text 1) (slice_index text 2) else (
    if length text == 4 && slice_index text 1 == 114 then option_map Register (long_register (slice_index text 2) (slice_index text 3)) else None))

-- ---- numbers and marks

-- digits in a base, one or more
abbrev pub is_numeral : ℕ → List ℕ → Bool
is_numeral base text = not (length text == 0) && list_all (λ digit. nat_lt (digit_value digit) base) text

-- the number that digits write, up to 4294967295
abbrev pub number_in : ℕ → List ℕ → Option ℕ
number_in base text = if is_numeral base text && nat_lt (digits_value base text) (2 ^ 32) then Some (digits_value base text) else None

-- what follows `0x`
abbrev pub behind_0x : List ℕ → Option (List ℕ)
behind_0x [] = None
behind_0x (zero_digit ∷ []) = None
behind_0x (zero_digit ∷ mark ∷ digits) = if zero_digit == 48 && mark == 120 then Some digits else None

-- a number in hexadecimal, or in decimal where leading zeros count for nothing
abbrev pub number_as : List ℕ → Option (List ℕ) → Option ℕ
number_as text (Some digits) = number_in 16 digits
number_as text None = number_in 10 text

abbrev pub literal : List ℕ → Option ℕ
literal text = number_as text (behind_0x text)

-- one of `,` `:` `+` `-` `[` `]` `(` `)`
abbrev pub marked : ℕ → Option Lexeme
marked byte =
    if byte == 44 then Some Comma else (
    if byte == 58 then Some Colon else (
    if byte == 43 then Some Plus else (
    if byte == 45 then Some Minus else (
    if byte == 91 then Some Open else (
    if byte == 93 then Some Close else (
    if byte == 40 then Some OpenParen else (
    if byte == 41 then Some CloseParen else None)))))))

-- ---- lexemes

-- a name, or one with a dot before it
abbrev pub worded : List ℕ → Option Lexeme
worded [] = None
worded (first ∷ rest) = if first == 46 then Some (Directive rest) else Some (Name (first ∷ rest))

-- what a token with this text says: None where it says nothing
abbrev pub lexeme_of : TokenKind → List ℕ → Option Lexeme
lexeme_of kind.Word text = worded text
lexeme_of kind.Dot text = Some Here
lexeme_of kind.Number text = option_map Number (literal text)
lexeme_of kind.Percent text = percented text
lexeme_of kind.Mark text = marked (slice_index text 0)

-- a lexeme before others
abbrev pub lexeme_before : Option Lexeme → Option (List Lexeme) → Option (List Lexeme)
lexeme_before None rest = None
lexeme_before (Some lexeme) rest = option_map (λ lexemes. lexeme ∷ lexemes) rest

-- what tokens of a source say: None where one of them says nothing
abbrev pub lexemes_of : List ℕ → List Token → Option (List Lexeme)
lexemes_of source [] = Some []
lexemes_of source (token ∷ rest) = lexeme_before (lexeme_of token.kind (text_of source token)) (lexemes_of source rest)
