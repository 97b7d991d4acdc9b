-- Numbers and registers that a line writes.
use Rattle.std.proofs.Common.{◌≡◌, true, false, Bool, ℕ, zero, suc, ◌+◌, ◌*◌, ◌/◌, ◌%◌, ◌^◌, ◌<◌, ◌≤◌, ◌==◌, ◌&&◌, cond, List, [], ◌∷◌, ◌++◌, length, Some, None, refl, sym, ap, ◌∙◌, arith}
use Rattle.std.specs.Prelude.{min, if◌then◌else◌, nat_lt}
use Rattle.std.specs.Fmt.{decimal}
use Rattle.std.specs.Char.{digit_value}
use Rattle.std.specs.Int.{is_in_range}
use Rattle.std.specs.List.{list_all, prefix_len}
use Rattle.std.specs.Str.Parse.{AllDigits, IsNumeral, digits_value}
use Rattle.std.proofs.Math.Nat.{pow-suc}
use Rattle.std.proofs.lemmas.Bool.Decides.{nat_tests}
use Rattle.std.proofs.lemmas.Fmt.{decimal_is_IsNumeral, length-decimal-le}
use Rattle.std.proofs.lemmas.Int.Digits.{digits_value_push}
use Rattle.std.proofs.lemmas.List.Folds.{list_all-append}
use Rattle.std.proofs.lemmas.Str.Parse.{digit_from_value}
use Rattle.alw_text.specs.Numbers.{hex_digit, low_digits, hex_digits, hex_word}
use Rattle.alw_text.proofs.Numerals.{length-low_digits, length-hex_digits}
use Rattle.sparc_lex.specs.declared.characters.Class.TheVariants.{Blank, Digit, Hexadecimal, LetterOrDigit}
use Rattle.sparc_lex.specs.declared.kinds.TokenKind.TheVariants.{Number, Percent}
use Rattle.sparc_lex.specs.Characters.{is_of, begins_name}
use Rattle.sparc_lex.specs.Cut.{run_of, hex_run, number_length}
use Rattle.sparc_asm.specs.declared.lexemes.Lexeme.{Lexeme}
use Rattle.sparc_asm.specs.declared.lexemes.Lexeme.TheVariants as lexeme
use Rattle.sparc_asm.specs.Lexemes.{lexeme_of, number_in, behind_0x, banked}
use Rattle.sparc_asm.proofs.Reading.{read}
use Rattle.sparc_text.specs.Statements.{register_text}
use Rattle.law_sources.proofs.Pieces.{is_plain, IsPlain, Stops, Piece, Front, run_over, run_is, token}

-- ---- decimal numbers

-- what a byte is that is a digit
pub record IsFigure (byte : ℕ) : Type 0 where
  pub solid : is_of Blank byte ≡ false
  pub no_name : begins_name byte ≡ false
  pub no_dot : (byte == 46) ≡ false
  pub no_x : (byte == 120) ≡ false
  pub digit : is_of Digit byte ≡ true
  pub plain : is_plain byte ≡ true

figure : (byte : ℕ) → digit_value byte < 10 → IsFigure byte
figure byte low =
    let range = digit_from_value byte low in
    record {
      solid = grind (arith, nat_tests);
      no_name = grind (arith, nat_tests);
      no_dot = grind (arith, nat_tests);
      no_x = grind (arith, nat_tests);
      digit = grind (arith, nat_tests);
      plain = grind (arith, nat_tests);
    }

all_figures : (text : List ℕ) → AllDigits 10 text → (list_all (is_of Digit) text ≡ true) × (list_all is_plain text ≡ true)
all_figures [] all = (refl, refl)
all_figures (byte ∷ rest) all =
    let this = figure byte all.0 in
    let more = all_figures rest all.1 in
    (rw (this.digit, more.0), rw (this.plain, more.1))

digits_end : (rest : List ℕ) → Stops rest → prefix_len (is_of Digit) rest ≡ 0
digits_end [] ends = refl
digits_end (byte ∷ rest) ends = rw ends.2

no_hex : (text rest : List ℕ) → AllDigits 10 text → Stops rest → hex_run (text ++ rest) ≡ 0
no_hex [] [] all ends = refl
no_hex [] (byte ∷ rest) all ends = rw ends.3
no_hex (byte ∷ text) rest all ends = rw (figure byte all.0).no_x

not_hex : (first : ℕ) (text : List ℕ) → AllDigits 10 text → behind_0x (first ∷ text) ≡ None
not_hex first [] all = refl
not_hex first (byte ∷ text) all = go (first == 48)
  where
    go : (b : Bool) → (if b && (byte == 120) then Some text else None) ≡ None
    go true = rw (figure byte all.0).no_x
    go false = refl

not_hex_length : (first : ℕ) (rest : List ℕ) → hex_run rest ≡ 0 → number_length first rest ≡ 1 + run_of Digit rest
not_hex_length first rest none = rw none (go (first == 48))
  where
    go : (b : Bool) → (if b && false then 2 + 0 else 1 + run_of Digit rest) ≡ 1 + run_of Digit rest
    go true = refl
    go false = refl

figures : (n : ℕ) (text : List ℕ) → n < 2 ^ 32 → IsNumeral 10 text → digits_value 10 text ≡ n → length text ≤ 10 → Piece text (lexeme.Number n ∷ []) 10
figures n [] small numeral value size = absurd (omega arith)
figures n (first ∷ text) small numeral value size =
    let all = all_figures (first ∷ text) numeral.1 in
    let this = figure first numeral.1.0 in
    record {
      plain = all.1;
      size = size;
      reads = λ rest more ends said.
          let none : hex_run (text ++ rest) ≡ 0 = no_hex text rest numeral.1.1 ends in
          let run : run_of Digit (text ++ rest) ≡ length text = run_is Digit text rest (all_figures text numeral.1.1).0 (digits_end rest ends) in
          let says : number_in 10 (first ∷ text) ≡ Some n = sym (read 10 (first ∷ text) n ((numeral, omega (arith, value)), sym value) small) in
          token first text rest Number (1 + length text) (lexeme.Number n) more this.solid (rw (this.no_name, this.no_dot, this.digit, not_hex_length first (text ++ rest) none, run)) refl (rw (not_hex first text numeral.1.1, says)) said;
    }

pub decimal_piece : (n : ℕ) → n < 2 ^ 32 → Piece (decimal n) (lexeme.Number n ∷ []) 10
decimal_piece n small =
    let is = decimal_is_IsNumeral n (omega arith) in
    figures n (decimal n) small is.0 is.1 (length-decimal-le 10 n (omega arith) (omega arith) (omega arith))

-- ---- hexadecimal words

-- what a digit's byte is
pub record IsHex (d : ℕ) : Type 0 where
  pub hex : is_of Hexadecimal (hex_digit d) ≡ true
  pub value : digit_value (hex_digit d) ≡ d
  pub plain : is_plain (hex_digit d) ≡ true

hex : (d : ℕ) → d < 16 → IsHex d
hex d low = record { hex = grind (arith, nat_tests); value = grind (arith, nat_tests); plain = grind (arith, nat_tests) }

pub record AreHex (count n : ℕ) : Type 0 where
  pub hex : list_all (is_of Hexadecimal) (low_digits count n) ≡ true
  pub digits : AllDigits 16 (low_digits count n)
  pub plain : IsPlain (low_digits count n)

more_digits : (base : ℕ) (text : List ℕ) (byte : ℕ) → AllDigits base text → digit_value byte < base → AllDigits base (text ++ byte ∷ [])
more_digits base [] byte all low = (low, tt)
more_digits base (first ∷ text) byte all low = (all.0, more_digits base text byte all.1 low)

are_hex : (count n : ℕ) → AreHex count n
are_hex zero n = record { hex = refl; digits = tt; plain = refl }
are_hex (suc count) n =
    let last = hex (n % 16) (omega arith) in
    let front = are_hex count (n / 16) in
    record {
      hex = list_all-append (is_of Hexadecimal) (low_digits count (n / 16)) (hex_digit (n % 16) ∷ []) ∙ rw (front.hex, last.hex);
      digits = more_digits 16 (low_digits count (n / 16)) (hex_digit (n % 16)) front.digits (omega (arith, last.value));
      plain = list_all-append is_plain (low_digits count (n / 16)) (hex_digit (n % 16) ∷ []) ∙ rw (front.plain, last.plain);
    }

hex_value : (count n : ℕ) → n < 16 ^ count → digits_value 16 (low_digits count n) ≡ n
hex_value zero n small = omega arith
hex_value (suc count) n small =
    let power : 16 ^ suc count ≡ 16 ^ count * 16 = pow-suc 16 count in
    let more = hex_value count (n / 16) (omega arith) in
    let last = hex (n % 16) (omega arith) in
    omega (arith, digits_value_push 16 (low_digits count (n / 16)) (hex_digit (n % 16)), more, last.value)

hex_read : (n : ℕ) → n < 2 ^ 32 → number_in 16 (hex_digits n) ≡ Some n
unfolding hex_digits
hex_read n small =
    let value = hex_value 8 n small in
    sym (read 16 (hex_digits n) n (((omega (arith, length-hex_digits n), (are_hex 8 n).digits), omega (arith, value)), sym value) small)

pub hex_front : (n : ℕ) → n < 2 ^ 32 → Front (hex_word n) (lexeme.Number n ∷ []) 10
unfolding hex_digits
hex_front n small = record {
  plain = (are_hex 8 n).plain;
  size = omega (arith, length-low_digits 8 n);
  reads = λ rest more said.
      let eight : min (run_of Hexadecimal (hex_digits n ++ rest)) 8 ≡ 8 = omega (arith, run_over Hexadecimal (hex_digits n) rest (are_hex 8 n).hex, length-low_digits 8 n) in
      token 48 (120 ∷ hex_digits n) rest Number 10 (lexeme.Number n) more refl (rw eight) (omega (arith, length-low_digits 8 n)) (rw (hex_read n small)) said;
}

pub hex_plain : (n : ℕ) → IsPlain (hex_digits n)
unfolding hex_digits
hex_plain n = (are_hex 8 n).plain

-- ---- registers

letters_end : (rest : List ℕ) → Stops rest → prefix_len (is_of LetterOrDigit) rest ≡ 0
letters_end [] ends = refl
letters_end (byte ∷ rest) ends = rw ends.1

-- `%` with letters and digits behind it
pub percent_piece : (text : List ℕ) (says : Lexeme) (most : ℕ) → list_all (is_of LetterOrDigit) text ≡ true → IsPlain text → 1 ≤ length text → 1 + length text ≤ most → lexeme_of Percent (37 ∷ text) ≡ Some says → Piece (37 ∷ text) (says ∷ []) most
percent_piece text says most letters plain some size is = record {
  plain = plain;
  size = omega arith;
  reads = λ rest more ends said.
      let run : run_of LetterOrDigit (text ++ rest) ≡ length text = run_is LetterOrDigit text rest letters (letters_end rest ends) in
      let any : (length text == 0) ≡ false = grind (arith, nat_tests) in
      token 37 text rest Percent (1 + length text) says more refl (rw (run, any)) refl is said;
}

banked_is : (start r : ℕ) → start + r % 8 ≡ r → banked start (48 + r % 8) ≡ Some r
banked_is start r is =
    let range : is_in_range 48 55 (48 + r % 8) ≡ true = grind (arith, nat_tests) in
    rw range (ap Some (omega arith))

-- the byte of a register's digit
record IsOctal (byte : ℕ) : Type 0 where
  letter : is_of LetterOrDigit byte ≡ true
  plain : is_plain byte ≡ true
  no_o : (byte == 111) ≡ false

octal : (r : ℕ) → IsOctal (48 + r % 8)
octal r = record { letter = grind (arith, nat_tests); plain = grind (arith, nat_tests); no_o = grind (arith, nat_tests) }

pub register_piece : (r : ℕ) → r < 32 → Piece (register_text r) (lexeme.Register r ∷ []) 3
unfolding register_text
register_piece r small = go (nat_lt r 8) (nat_lt r 16) (nat_lt r 24) refl refl refl
  where
    digit : IsOctal (48 + r % 8)
    digit = octal r

    go : (a b c : Bool) → nat_lt r 8 ≡ a → nat_lt r 16 ≡ b → nat_lt r 24 ≡ c → Piece (37 ∷ cond a 103 (cond b 111 (cond c 108 105)) ∷ (48 + r % 8) ∷ []) (lexeme.Register r ∷ []) 3
    go true b c e f g =
        let below : r < 8 = grind (arith, nat_tests) in
        percent_piece (103 ∷ (48 + r % 8) ∷ []) (lexeme.Register r) 3 (rw digit.letter) (rw digit.plain) (omega arith) (omega arith) (rw (banked_is 0 r (omega arith)))
    go false true c e f g =
        let range : (8 ≤ r) × (r < 16) = (grind (arith, nat_tests), grind (arith, nat_tests)) in
        percent_piece (111 ∷ (48 + r % 8) ∷ []) (lexeme.Register r) 3 (rw digit.letter) (rw digit.plain) (omega arith) (omega arith) (rw (banked_is 8 r (omega arith)))
    go false false true e f g =
        let range : (16 ≤ r) × (r < 24) = (grind (arith, nat_tests), grind (arith, nat_tests)) in
        percent_piece (108 ∷ (48 + r % 8) ∷ []) (lexeme.Register r) 3 (rw digit.letter) (rw digit.plain) (omega arith) (omega arith) (rw (digit.no_o, banked_is 16 r (omega arith)))
    go false false false e f g =
        let range : 24 ≤ r = grind (arith, nat_tests) in
        percent_piece (105 ∷ (48 + r % 8) ∷ []) (lexeme.Register r) 3 (rw digit.letter) (rw digit.plain) (omega arith) (omega arith) (rw (banked_is 24 r (omega arith)))
