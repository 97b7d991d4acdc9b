-- Texts without an LF, and lines, which end with their one LF: where two lines stand at the front of one text, they are the same line.
use Rattle.std.proofs.Common.{◌≡◌, ℕ, zero, suc, ◌/◌, ◌%◌, ◌==◌, Bool, true, false, cond, List, [], ◌∷◌, ◌++◌, drop, slice_index, refl, sym, ap, subst, ◌∙◌, arith}
use Rattle.std.specs.Prelude.{slice_index_or}
use Rattle.std.specs.Fmt.{decimal, digits, digits_onto, digit_glyph}
use Rattle.std.specs.List.{flat_map}
use Rattle.std.proofs.lemmas.Bool.{false≢true}
use Rattle.std.proofs.lemmas.Bool.Decides.{nat_tests}
use Rattle.alw_text.specs.Numbers.{hex_digit, low_digits, hex_digits, hex_word, hex_byte}

-- ---- a text in a line

-- a text has no LF, as a test
abbrev pub is_unbroken : List ℕ → Bool
is_unbroken [] = true
is_unbroken (byte ∷ rest) = cond (byte == 10) false (is_unbroken rest)

-- no byte of a text is an LF
pub record IsUnbroken (text : List ℕ) : Type 0 where
  pub test : is_unbroken text ≡ true

-- a fixed text
pub plain : (text : List ℕ) → is_unbroken text ≡ true → IsUnbroken text
plain text test = record { test = test }

unbroken : (a b : List ℕ) → is_unbroken a ≡ true → is_unbroken b ≡ true → is_unbroken (a ++ b) ≡ true
unbroken [] b one other = other
unbroken (byte ∷ a) b one other = go (byte == 10) one (unbroken a b)
  where
    go : (feeds : Bool) → cond feeds false (is_unbroken a) ≡ true → (is_unbroken a ≡ true → is_unbroken b ≡ true → is_unbroken (a ++ b) ≡ true)
        → cond feeds false (is_unbroken (a ++ b)) ≡ true
    go true is more = is
    go false is more = more is other

-- one behind the other
pub beside : {a b : List ℕ} → IsUnbroken a → IsUnbroken b → IsUnbroken (a ++ b)
beside {a} {b} one other = record { test = unbroken a b one.test other.test }

-- a text behind a fixed one
pub fronted : (front : List ℕ) {text : List ℕ} → is_unbroken front ≡ true → IsUnbroken text → IsUnbroken (front ++ text)
fronted front test text = beside (plain front test) text

-- one of two texts
pub either : (b : Bool) {one other : List ℕ} → IsUnbroken one → IsUnbroken other → IsUnbroken (cond b one other)
either true one other = one
either false one other = other

-- texts of the members of a list
pub unbroken_each : {X : Type 0} (text : X → List ℕ) → ((x : X) → IsUnbroken (text x)) → (xs : List X) → IsUnbroken (flat_map text xs)
unbroken_each text each [] = plain [] refl
unbroken_each text each (x ∷ xs) = beside (each x) (unbroken_each text each xs)

-- no text of a table has an LF, as a test
abbrev pub are_unbroken : List (List ℕ) → Bool
are_unbroken [] = true
are_unbroken (name ∷ rest) = cond (is_unbroken name) (are_unbroken rest) false

-- a member of such a table, or nothing behind its end
pub unbroken_name : (names : List (List ℕ)) → are_unbroken names ≡ true → (place : ℕ) → IsUnbroken (slice_index_or names place [])
unbroken_name [] are place = plain [] refl
unbroken_name (name ∷ rest) are place = go (is_unbroken name) refl are place (unbroken_name rest)
  where
    go : (b : Bool) → is_unbroken name ≡ b → cond b (are_unbroken rest) false ≡ true → (place : ℕ)
        → (are_unbroken rest ≡ true → (place : ℕ) → IsUnbroken (slice_index_or rest place [])) → IsUnbroken (slice_index_or (name ∷ rest) place [])
    go true is all zero more = plain name is
    go true is all (suc place) more = more all place
    go false is all place more = absurd (false≢true all)

-- ---- numbers

glyph : (n : ℕ) → (digit_glyph false (n % 10) == 10) ≡ false
glyph n = grind (arith, nat_tests)

-- a byte more in front
pub longer : (byte : ℕ) (text : List ℕ) → (byte == 10) ≡ false → is_unbroken text ≡ true → is_unbroken (byte ∷ text) ≡ true
longer byte text other test = rw other test

figures : (k n : ℕ) (text : List ℕ) → is_unbroken text ≡ true → is_unbroken (digits_onto k 10 false n text) ≡ true
figures zero n text test = test
figures (suc k) n text test =
    let here = longer (digit_glyph false (n % 10)) text (glyph n) test in
    go (digit_glyph false (n % 10) ∷ text) _ (n / 10 == 0) here (figures k (n / 10) (digit_glyph false (n % 10) ∷ text) here)
  where
    go : (one other : List ℕ) (last : Bool) → is_unbroken one ≡ true → is_unbroken other ≡ true → is_unbroken (cond last one other) ≡ true
    go one other true is more = is
    go one other false is more = more

-- a number in decimal
pub number : (n : ℕ) → IsUnbroken (decimal n)
unfolding digits
number n = record { test = figures 64 n [] refl }

hex_glyph : (n : ℕ) → (hex_digit n == 10) ≡ false
hex_glyph n = grind (arith, nat_tests)

low : (count n : ℕ) → IsUnbroken (low_digits count n)
low zero n = plain [] refl
low (suc count) n = beside (low count (n / 16)) (record { test = longer (hex_digit (n % 16)) [] (hex_glyph (n % 16)) refl })

-- a word in hexadecimal
pub word : (n : ℕ) → IsUnbroken (hex_word n)
unfolding hex_digits
word n = fronted (48 ∷ 120 ∷ []) refl (low 8 n)

-- a byte in hexadecimal
pub byte_word : (n : ℕ) → IsUnbroken (hex_byte n)
byte_word n =
    let last = longer (hex_digit (n % 16)) [] (hex_glyph (n % 16)) refl in
    fronted (48 ∷ 120 ∷ []) refl (record { test = longer (hex_digit (n / 16)) (hex_digit (n % 16) ∷ []) (hex_glyph (n / 16)) last })

-- ---- lines

abbrev is_nothing : List ℕ → Bool
is_nothing [] = true
is_nothing (byte ∷ rest) = false

-- a text is a line, as a test
abbrev pub is_line : List ℕ → Bool
is_line [] = false
is_line (byte ∷ rest) = cond (byte == 10) (is_nothing rest) (is_line rest)

-- a text ends with its one LF
pub record IsLine (text : List ℕ) : Type 0 where
  pub test : is_line text ≡ true

ended : (a b : List ℕ) → is_unbroken a ≡ true → is_line b ≡ true → is_line (a ++ b) ≡ true
ended [] b one other = other
ended (byte ∷ a) b one other = go (byte == 10) one (ended a b)
  where
    go : (feeds : Bool) → cond feeds false (is_unbroken a) ≡ true → (is_unbroken a ≡ true → is_line b ≡ true → is_line (a ++ b) ≡ true)
        → cond feeds (is_nothing (a ++ b)) (is_line (a ++ b)) ≡ true
    go true is more = absurd (false≢true is)
    go false is more = more is other

-- a line with more in front
pub before : {a b : List ℕ} → IsUnbroken a → IsLine b → IsLine (a ++ b)
before {a} {b} one other = record { test = ended a b one.test other.test }

-- a line with a fixed text in front
pub begun : (front : List ℕ) {text : List ℕ} → is_unbroken front ≡ true → IsLine text → IsLine (front ++ text)
begun front test line = before (plain front test) line

-- an LF alone is a line
pub feed : IsLine (10 ∷ [])
feed = record { test = refl }

nothing : (text : List ℕ) → is_nothing text ≡ true → text ≡ []
nothing [] is = refl
nothing (byte ∷ rest) is = absurd (false≢true is)

same_line : (a b u v : List ℕ) → is_line a ≡ true → is_line b ≡ true → a ++ u ≡ b ++ v → (a ≡ b) × (u ≡ v)
same_line [] b u v one other e = absurd (false≢true one)
same_line (x ∷ a) [] u v one other e = absurd (false≢true other)
same_line (x ∷ a) (y ∷ b) u v one other e =
    let first : x ≡ y = ap (λ (t : List ℕ). slice_index t 0) e in
    go (x == 10) one (ap (λ (k : ℕ). k == 10) first) other first (ap (drop 1) e) (same_line a b u v)
  where
    go : (feeds : Bool) → cond feeds (is_nothing a) (is_line a) ≡ true → feeds ≡ (y == 10) → cond (y == 10) (is_nothing b) (is_line b) ≡ true → x ≡ y
        → a ++ u ≡ b ++ v → (is_line a ≡ true → is_line b ≡ true → a ++ u ≡ b ++ v → (a ≡ b) × (u ≡ v)) → (x ∷ a ≡ y ∷ b) × (u ≡ v)
    go feeds is same also first rest more = by feeds is (subst (λ (t : Bool). cond t (is_nothing b) (is_line b) ≡ true) (sym same) also)
      where
        by : (t : Bool) → cond t (is_nothing a) (is_line a) ≡ true → cond t (is_nothing b) (is_line b) ≡ true → (x ∷ a ≡ y ∷ b) × (u ≡ v)
        by true empty none =
            let left = nothing a empty in
            let right = nothing b none in
            (let same : x ∷ a ≡ y ∷ b = cc (first, left, right) in same, sym (ap (λ (t : List ℕ). t ++ u) left) ∙ rest ∙ ap (λ (t : List ℕ). t ++ v) right)
        by false line also =
            let r = more line also rest in
            (let same : x ∷ a ≡ y ∷ b = cc (first, r.0) in same, r.1)

-- the first line of a text is one line, and the rest is one rest
pub one_line : {a b u v : List ℕ} → IsLine a → IsLine b → a ++ u ≡ b ++ v → (a ≡ b) × (u ≡ v)
one_line {a} {b} {u} {v} one other e = same_line a b u v one.test other.test e
