-- The one spelling of a word in hexadecimal: `0x` and eight lower-case digits.
use Rattle.std.specs.Prelude.{ℕ, zero, suc, ◌+◌, ◌/◌, ◌%◌, List, [], ◌∷◌, ◌++◌, if◌then◌else◌, nat_lt, codes}

-- the lower-case digit of a number below 16
abbrev pub hex_digit : ℕ → ℕ
hex_digit n = if nat_lt n 10 then 48 + n else 87 + n

-- the lowest digits of a number, as many as `count`, the highest of them first
abbrev pub low_digits : ℕ → ℕ → List ℕ
low_digits zero n = []
low_digits (suc count) n = low_digits count (n / 16) ++ hex_digit (n % 16) ∷ []

-- the eight digits of a word
unfoldable pub hex_digits : ℕ → List ℕ
hex_digits n = low_digits 8 n

-- the same behind `0x`
abbrev pub hex_word : ℕ → List ℕ
hex_word n = codes "0x" ++ hex_digits n

-- a byte: `0x` and two digits
abbrev pub hex_byte : ℕ → List ℕ
hex_byte n = codes "0x" ++ (hex_digit (n / 16) ∷ hex_digit (n % 16) ∷ [])
