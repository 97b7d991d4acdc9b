-- Words and numbers are ASCII, and so UTF-8; and so are texts made of them.
use Rattle.std.proofs.Common.{◌≡◌, ◌+◌, ◌-◌, ◌<◌, ◌^◌, ◌==◌, ℕ, zero, suc, ◌/◌, ◌%◌, nat_lt, List, [], ◌∷◌, ◌++◌, Bool, true, false, cond, codes, slice_index_or, refl, arith}
use Rattle.std.specs.Fmt.{digits, digits_onto, decimal, digit_glyph}
use Rattle.std.specs.Str.{IsAscii, IsUtf8}
use Rattle.std.proofs.lemmas.Str.{IsUtf8-append, IsUtf8-from_ascii}
use Rattle.std.proofs.lemmas.Grind.{common_steps}
use Rattle.alw_text.specs.Numbers.{hex_digit, hex_digits, hex_byte, hex_word, low_digits}

-- ---- bytes below 128

pub none_ascii : IsAscii []
none_ascii i = omega arith

pub front_ascii : (byte : ℕ) (rest : List ℕ) → byte < 128 → IsAscii rest → IsAscii (byte ∷ rest)
front_ascii byte rest low ascii zero = low
front_ascii byte rest low ascii (suc i) = ascii i

either_ascii : (b : Bool) (one other : List ℕ) → IsAscii one → IsAscii other → IsAscii (cond b one other)
either_ascii true one other h k = h
either_ascii false one other h k = k

pub either_low : (b : Bool) (one other : ℕ) → one < 128 → other < 128 → cond b one other < 128
either_low true one other h k = h
either_low false one other h k = k

-- ---- words that are written out

abbrev pub are_low : List ℕ → Bool
are_low [] = true
are_low (byte ∷ rest) = cond (nat_lt byte 128) (are_low rest) false

low_step : (byte : ℕ) (rest : List ℕ) (low : Bool) → nat_lt byte 128 ≡ low → cond low (are_low rest) false ≡ true
    → (are_low rest ≡ true → IsAscii rest) → IsAscii (byte ∷ rest)
low_step byte rest true is h more = front_ascii byte rest (grind (arith, common_steps)) (more h)
low_step byte rest false is h more = absurd cc

pub low_ascii : (bytes : List ℕ) → are_low bytes ≡ true → IsAscii bytes
low_ascii [] h = none_ascii
low_ascii (byte ∷ rest) h = low_step byte rest (nat_lt byte 128) refl h (low_ascii rest)

pub word_low : (bytes : List ℕ) → are_low bytes ≡ true → IsUtf8 bytes
word_low bytes low = IsUtf8-from_ascii bytes (low_ascii bytes low)

-- all names of a table
abbrev pub names_low : List (List ℕ) → Bool
names_low [] = true
names_low (name ∷ rest) = cond (are_low name) (names_low rest) false

pub name_low : (names : List (List ℕ)) → names_low names ≡ true → (k : ℕ) → IsUtf8 (slice_index_or names k [])
name_low [] low k = word_low [] refl
name_low (name ∷ rest) low k = go (are_low name) refl low (λ more n. name_low rest more n) k
  where
    go : (b : Bool) → are_low name ≡ b → cond b (names_low rest) false ≡ true → (names_low rest ≡ true → (n : ℕ) → IsUtf8 (slice_index_or rest n []))
        → (k : ℕ) → IsUtf8 (slice_index_or (name ∷ rest) k [])
    go true is more others zero = word_low name is
    go true is more others (suc k) = others more k
    go false is more others k = absurd cc

-- ---- texts in pieces

pub joined : (one other : List ℕ) → IsUtf8 one → IsUtf8 other → IsUtf8 (one ++ other)
joined one other h k = IsUtf8-append one other h k

-- a word that is written out, and what follows it
pub behind_word : (bytes rest : List ℕ) → are_low bytes ≡ true → IsUtf8 rest → IsUtf8 (bytes ++ rest)
behind_word bytes rest low more = IsUtf8-append bytes rest (word_low bytes low) more

pub either : (b : Bool) (one other : List ℕ) → IsUtf8 one → IsUtf8 other → IsUtf8 (cond b one other)
either true one other h k = h
either false one other h k = k

-- ---- numbers

glyph_low : (d : ℕ) → d < 10 → digit_glyph false d < 128
glyph_low d low = grind (arith, common_steps)

digits_ascii : (most n : ℕ) (rest : List ℕ) → IsAscii rest → IsAscii (digits_onto most 10 false n rest)
digits_ascii zero n rest h = h
digits_ascii (suc most) n rest h =
    let front = front_ascii (digit_glyph false (n % 10)) rest (glyph_low (n % 10) (omega arith)) h in
    either_ascii (n / 10 == 0) _ _ front (digits_ascii most (n / 10) _ front)

pub decimal_utf8 : (n : ℕ) → IsUtf8 (decimal n)
unfolding digits
decimal_utf8 n = IsUtf8-from_ascii (decimal n) (digits_ascii 64 n [] none_ascii)

digit_low : (d : ℕ) → d < 16 → hex_digit d < 128
digit_low d low = grind (arith, common_steps)

last_ascii : (n : ℕ) → IsAscii (hex_digit (n % 16) ∷ [])
last_ascii n = front_ascii (hex_digit (n % 16)) [] (digit_low (n % 16) (omega arith)) none_ascii

low_digits_utf8 : (count n : ℕ) → IsUtf8 (low_digits count n)
low_digits_utf8 zero n = IsUtf8-from_ascii [] none_ascii
low_digits_utf8 (suc count) n = IsUtf8-append (low_digits count (n / 16)) _ (low_digits_utf8 count (n / 16)) (IsUtf8-from_ascii _ (last_ascii n))

pub word_utf8 : (n : ℕ) → IsUtf8 (hex_word n)
unfolding hex_digits
word_utf8 n = behind_word (codes "0x") (hex_digits n) refl (low_digits_utf8 8 n)

pub byte_utf8 : (n : ℕ) → n < 2 ^ 8 → IsUtf8 (hex_byte n)
byte_utf8 n low =
    let two = front_ascii (hex_digit (n / 16)) (hex_digit (n % 16) ∷ []) (digit_low (n / 16) (omega arith)) (last_ascii n) in
    behind_word (codes "0x") (hex_digit (n / 16) ∷ hex_digit (n % 16) ∷ []) refl (IsUtf8-from_ascii _ two)
