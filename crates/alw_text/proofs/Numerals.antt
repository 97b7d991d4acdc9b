-- Reading and writing numbers digit by digit.
use Rattle.std.proofs.Common.{◌≡◌, ◌≢◌, ◌==◌, false, ℕ, zero, suc, ◌+◌, ◌-◌, ◌*◌, ◌/◌, ◌%◌, ◌^◌, ◌<◌, ◌≤◌, List, [], ◌∷◌, ◌++◌, length, get_or, set, take, drop, refl, sym, ap, ◌∙◌, subst, ⊎_elim, arith, append_assoc, length-append, add-one}
use Rattle.std.specs.Fmt.{decimal}
use Rattle.std.specs.Char.{digit_value}
use Rattle.std.specs.Str.Parse.{AllDigits, IsNumeral, digits_value}
use Rattle.std.proofs.Math.ListN.{get_or-append}
use Rattle.std.proofs.Math.Nat.{pow-suc}
use Rattle.std.proofs.lemmas.Bool.{cases_lt}
use Rattle.std.proofs.lemmas.Bool.Decides.{nat_tests}
use Rattle.std.proofs.lemmas.List.{append-nil, drop_all, take_more, take_all, drop-set, get_or-append_right}
use Rattle.std.proofs.lemmas.Int.Digits.{digits_value_more}
use Rattle.std.proofs.lemmas.Fmt.{decimal_digit, decimal_step, decimal_is_IsNumeral, decimal-digits_value, first_decimal}
use Rattle.std.proofs.lemmas.Str.Parse.{numerals_by_value, tells_digits, digits_value-take-le}
use Rattle.alw_text.specs.Numbers.{hex_digit, low_digits, hex_digits}

-- digits without a leading zero are what is written of their number
pub spelled : (bytes : List ℕ) → IsNumeral 10 bytes → digits_value 10 bytes < 2 ^ 64 → (get_or bytes 0 0 ≡ 48 → length bytes ≡ 1) → bytes ≡ decimal (digits_value 10 bytes)
spelled bytes numeral small one = sym (decimal-digits_value (numerals_by_value _ tells_digits) bytes numeral.1 numeral.0 one small)

pub length-low_digits : (count n : ℕ) → length (low_digits count n) ≡ count
length-low_digits zero n = refl
length-low_digits (suc count) n = omega (arith, length-append (low_digits count (n / 16)) (hex_digit (n % 16) ∷ []), length-low_digits count (n / 16))

pub length-hex_digits : (n : ℕ) → length (hex_digits n) ≡ 8
unfolding hex_digits
length-hex_digits n = length-low_digits 8 n

digit_below : (base : ℕ) (bytes : List ℕ) (i : ℕ) → AllDigits base bytes → i < length bytes → digit_value (get_or bytes i 0) < base
digit_below base [] i all l = absurd (omega arith)
digit_below base (b ∷ bs) zero all l = all.0
digit_below base (b ∷ bs) (suc i) all l = digit_below base bs i all.1 (omega arith)

-- where one more digit can't be read, the whole is no number below the bound
pub stops : (base : ℕ) (bytes : List ℕ) (i number : ℕ) → 2 ≤ base → i < length bytes → number ≡ digits_value base (take i bytes) → ¬ ((digit_value (get_or bytes i 0) < base) × (number * base + digit_value (get_or bytes i 0) < 2 ^ 64)) → ¬ (IsNumeral base bytes × (digits_value base bytes < 2 ^ 64))
stops base bytes i number low l is stop whole =
    let e : digits_value base (take (i + 1) bytes) ≡ number * base + digit_value (get_or bytes i 0) = digits_value_more base bytes i l ∙ ap (λ k. k * base + digit_value (get_or bytes i 0)) (sym is) in
    let le = digits_value-take-le base bytes (i + 1) (omega arith) in
    stop (digit_below base bytes i whole.0.1 l, omega (arith, whole.1))

-- no spelling of a number begins with a zero and goes on
pub no_zero : (bytes : List ℕ) (n : ℕ) → n < 2 ^ 64 → bytes ≡ decimal n → get_or bytes 0 0 ≡ 48 → length bytes ≡ 1
no_zero bytes zero l e z = ap length e ∙ ap length (decimal_digit 0 (omega arith))
no_zero bytes (suc n) l e z = absurd (omega (arith, first_decimal (suc n) (omega arith) l, ap (λ b. get_or b 0 0) e))

-- what doesn't read as digits is no spelling
pub no_number : (bytes : List ℕ) → ¬ (IsNumeral 10 bytes × (digits_value 10 bytes < 2 ^ 64)) → (n : ℕ) → n < 2 ^ 64 → bytes ≢ decimal n
no_number bytes other n l e =
    let is = decimal_is_IsNumeral n l in
    other (rw e (is.0, omega (arith, is.1)))

-- one more digit before those that are written
pub write_more : (n rest at : ℕ) (buffer : List ℕ) → n < 2 ^ 64 → rest < 2 ^ 64 → 10 ≤ rest → 1 ≤ at → at ≤ length buffer → decimal n ≡ decimal rest ++ drop at buffer → decimal n ≡ decimal (rest / 10) ++ drop (at - 1) (set buffer (at - 1) (48 + rest % 10))
write_more n rest at buffer l m ten some within e =
    e ∙ rw (decimal_step rest ten m, append_assoc) (ap (λ t. decimal (rest / 10) ++ t) (sym (drop-set buffer (at - 1) (48 + rest % 10) (omega arith) ∙ ap (λ k. (48 + rest % 10) ∷ drop k buffer) (let back : at - 1 + 1 ≡ at = omega arith in back))))

pub write_last : (n rest at : ℕ) (buffer : List ℕ) → rest < 10 → 1 ≤ at → at ≤ length buffer → decimal n ≡ decimal rest ++ drop at buffer → drop (at - 1) (set buffer (at - 1) (48 + rest % 10)) ≡ decimal n
write_last n rest at buffer ten some within e =
    let back : at - 1 + 1 ≡ at = omega arith in
    let same : rest % 10 ≡ rest = omega arith in
    drop-set buffer (at - 1) (48 + rest % 10) (omega arith) ∙ rw (back, same) (sym (e ∙ rw (decimal_digit rest ten)))

-- eight digits, read and written
pub low_digits-get : (count n i : ℕ) → i < count → (d : ℕ) × (d < 16) × (get_or (low_digits count n) i 0 ≡ hex_digit d)
low_digits-get zero n i l = absurd (omega arith)
low_digits-get (suc count) n i l = ⊎_elim
    (λ front. let r = low_digits-get count (n / 16) i front in (r.0, r.1, get_or-append (low_digits count (n / 16)) (hex_digit (n % 16) ∷ []) 0 i (omega (arith, length-low_digits count (n / 16))) ∙ r.2))
    (λ last. (n % 16, omega arith, get_or-append_right (low_digits count (n / 16)) (hex_digit (n % 16) ∷ []) count i 0 (length-low_digits count (n / 16)) last ∙ rw (let here : i - count ≡ 0 = omega arith in here)))
    (cases_lt i count)

pub low_digits-more : (count word d : ℕ) → d < 16 → low_digits (count + 1) (word * 16 + d) ≡ low_digits count word ++ hex_digit d ∷ []
low_digits-more count word d l =
    let high : (word * 16 + d) / 16 ≡ word = omega arith in
    let low : (word * 16 + d) % 16 ≡ d = omega arith in
    rw (add-one, high, low)

pub hex_digits-is : (n : ℕ) → n < 2 ^ 32 → hex_digits n ≡ hex_digit (n / 2 ^ 28) ∷ hex_digit (n / 2 ^ 24 % 16) ∷ hex_digit (n / 2 ^ 20 % 16) ∷ hex_digit (n / 2 ^ 16 % 16) ∷ hex_digit (n / 2 ^ 12 % 16) ∷ hex_digit (n / 2 ^ 8 % 16) ∷ hex_digit (n / 2 ^ 4 % 16) ∷ hex_digit (n % 16) ∷ []
unfolding hex_digits
hex_digits-is n l =
    let second : n / 16 / 16 ≡ n / 256 = omega arith in
    let third : n / 256 / 16 ≡ n / 4096 = omega arith in
    let fourth : n / 4096 / 16 ≡ n / 65536 = omega arith in
    let fifth : n / 65536 / 16 ≡ n / 1048576 = omega arith in
    let sixth : n / 1048576 / 16 ≡ n / 16777216 = omega arith in
    let seventh : n / 16777216 / 16 ≡ n / 268435456 = omega arith in
    let top : n / 268435456 % 16 ≡ n / 268435456 = omega arith in
    rw (second, third, fourth, fifth, sixth, seventh, top)

-- what reads as eight digits is the word's spelling, and what doesn't is none's
pub read_all : (bytes digits : List ℕ) (i word : ℕ) → bytes ≡ 48 ∷ 120 ∷ digits → length digits ≡ 8 → i ≡ 8 → take i digits ≡ low_digits i word → bytes ≡ 48 ∷ 120 ∷ hex_digits word
unfolding hex_digits
read_all bytes digits i word e eight all read = e ∙ ap (λ ds. 48 ∷ 120 ∷ ds) (sym (take_all i digits (omega arith)) ∙ read ∙ ap (λ k. low_digits k word) all)

pub other_length : (bytes digits : List ℕ) → bytes ≡ 48 ∷ 120 ∷ digits → length digits ≢ 8 → (n : ℕ) → n < 2 ^ 32 → bytes ≢ 48 ∷ 120 ∷ hex_digits n
other_length bytes digits e other n l is = other (let same : length digits ≡ length (hex_digits n) = omega (arith, ap length e, ap length is) in same ∙ length-hex_digits n)

pub no_digit : (bytes digits : List ℕ) (i : ℕ) → bytes ≡ 48 ∷ 120 ∷ digits → i < 8 → ((d : ℕ) → d < 16 → get_or digits i 0 ≢ hex_digit d) → (n : ℕ) → n < 2 ^ 32 → bytes ≢ 48 ∷ 120 ∷ hex_digits n
unfolding hex_digits
no_digit bytes digits i e l bad n m is =
    let r = low_digits-get 8 n i l in
    let same : digits ≡ low_digits 8 n = cc (e, is) in
    bad r.0 r.1 (ap (λ t. get_or t i 0) same ∙ r.2)

pub more_digits : (digits : List ℕ) (i word d : ℕ) → i < length digits → d < 16 → get_or digits i 0 ≡ hex_digit d → take i digits ≡ low_digits i word → take (i + 1) digits ≡ low_digits (i + 1) (word * 16 + d)
more_digits digits i word d l m here read = take_more digits i 0 l ∙ ap (λ t. t ++ get_or digits i 0 ∷ []) read ∙ ap (λ b. low_digits i word ++ b ∷ []) here ∙ sym (low_digits-more i word d m)

-- what eight digits are proved by
pub ruleset hex_word_digits = hex_digits-is

pub write_first : (n : ℕ) (buffer : List ℕ) → length buffer ≡ 20 → decimal n ≡ decimal n ++ drop 20 buffer
write_first n buffer e = sym (ap (λ t. decimal n ++ t) (drop_all 20 buffer (omega arith)) ∙ append-nil (decimal n))

pub shorter : (n : ℕ) → 10 ≤ n → n < 2 ^ 64 → length (decimal n) ≡ length (decimal (n / 10)) + 1
shorter n ten l = omega (arith, ap length (decimal_step n ten l), length-append (decimal (n / 10)) ((48 + n % 10) ∷ []))

pub next_power : (word d i : ℕ) → word < 16 ^ i → d < 16 → word * 16 + d < 16 ^ (i + 1)
next_power word d i l m = let e : 16 ^ (i + 1) ≡ 16 ^ i * 16 = rw add-one (pow-suc 16 i) in omega arith

pub found : (bytes : List ℕ) (n : ℕ) → ((IsNumeral 10 bytes × (digits_value 10 bytes < 2 ^ 64)) × (n ≡ digits_value 10 bytes)) → ¬ ((1 < length bytes) × (get_or bytes 0 0 ≡ 48)) → bytes ≡ decimal n
found bytes n read plain = spelled bytes read.0.0 read.0.1 (λ z. ⊎_elim (λ one. absurd (plain (one, z))) (λ few. let one : length bytes ≡ 1 = omega (arith, read.0.0.0) in one) (cases_lt 1 (length bytes))) ∙ ap decimal (sym read.1)

pub leading_zero : (bytes : List ℕ) → (1 < length bytes) × (get_or bytes 0 0 ≡ 48) → (n : ℕ) → n < 2 ^ 64 → bytes ≢ decimal n
leading_zero bytes zeros n l e = absurd (omega (arith, no_zero bytes n l e zeros.1, zeros.0))

pub whole : (base : ℕ) (bytes : List ℕ) (i number : ℕ) → (length bytes == 0) ≡ false → length bytes ≤ i → AllDigits base (take i bytes) → number ≡ digits_value base (take i bytes) → number < 2 ^ 64 → (IsNumeral base bytes × (digits_value base bytes < 2 ^ 64)) × (number ≡ digits_value base bytes)
whole base bytes i number some end digits is small =
    let all = take_all i bytes end in
    let value : number ≡ digits_value base bytes = is ∙ ap (digits_value base) all in
    (((grind (arith, nat_tests), let P : List ℕ → Type 0 = AllDigits base in subst P all digits), omega arith), value)
