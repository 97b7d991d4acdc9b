-- The characters of a source, by the classes that tokens are made of.
use Rattle.std.specs.Prelude.{ℕ, ◌==◌, ◌||◌, Bool, codes}
use Rattle.std.specs.List.{list_any}
use Rattle.std.specs.Char.{is_ascii_alphabetic, is_ascii_digit, is_ascii_alphanumeric, is_ascii_hexdigit}
use Rattle.std.specs.Int.{is_in_range}
use Rattle.sparc_lex.specs.declared.characters.Class.{Class}
use Rattle.sparc_lex.specs.declared.characters.Class.TheVariants.{Blank, Letter, Digit, Hexadecimal, LetterOrDigit, NamePart}

-- a byte is of a class: blanks are space, CR and tab; a name has letters, digits and `_`
abbrev pub is_of : Class → ℕ → Bool
is_of Blank byte = (byte == 32 || byte == 13) || byte == 9
is_of Letter byte = is_ascii_alphabetic byte
is_of Digit byte = is_ascii_digit byte
is_of Hexadecimal byte = is_ascii_hexdigit byte
is_of LetterOrDigit byte = is_ascii_alphanumeric byte
is_of NamePart byte = is_ascii_alphanumeric byte || byte == 95

-- a name begins with a letter or `_`
abbrev pub begins_name : ℕ → Bool
begins_name byte = is_ascii_alphabetic byte || byte == 95

-- one of `,` `:` `+` `-` `[` `]` `(` `)`
abbrev pub is_mark : ℕ → Bool
is_mark byte = list_any (λ mark. byte == mark) (codes ",:+-[]()")

-- printable ASCII, and the blanks
abbrev pub is_allowed : ℕ → Bool
is_allowed byte = is_in_range 32 126 byte || is_of Blank byte
