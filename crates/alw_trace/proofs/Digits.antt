-- A number is read digit by digit: what it grows by, and what no number goes on with.
use Rattle.std.proofs.Common.{◌≡◌, ◌≢◌, ℕ, zero, suc, ◌+◌, ◌-◌, ◌*◌, ◌/◌, ◌%◌, ◌^◌, ◌<◌, ◌≤◌, Option, Some, None, List, [], ◌∷◌, ◌++◌, length, take, drop, get_or, refl, sym, ap, subst, ◌∙◌, arith, length-append}
use Rattle.std.specs.Prelude.{IfSome, IfNone, SomeIff}
use Rattle.std.proofs.lemmas.List.{take_at, get_or-append_right, append-nil}
use Rattle.std.proofs.lemmas.Int.Digits.{digits_value_more}
use Rattle.std.proofs.lemmas.Str.{digit_value_digit}
use Rattle.std.proofs.lemmas.Str.Parse.{digit_from_value, digits_value-take-le}
use Rattle.std.proofs.lemmas.Fmt.{decimal_digit, decimal_step, decimal_is_IsNumeral}
use Rattle.std.specs.Fmt.{decimal}
use Rattle.std.specs.Char.{digit_value}
use Rattle.std.specs.Str.Parse.{AllDigits, digits_value}
use Rattle.alw_text.proofs.Numerals.{no_zero}

abbrev IsNoDigit : ℕ → Type 0
IsNoDigit byte = (digit : ℕ) → digit < 10 → byte ≢ 48 + digit

-- no spelling of a number is this one, a byte and more
abbrev NoneGoesOn : ℕ → ℕ → Type 0
NoneGoesOn number byte = (n : ℕ) → (behind : List ℕ) → n < 2 ^ 64 → decimal n ≢ decimal number ++ byte ∷ behind

digits_of : (n : ℕ) → n < 2 ^ 64 → AllDigits 10 (decimal n)
digits_of n l = (decimal_is_IsNumeral n l).0.1

value_is : (byte digit : ℕ) → byte ≡ 48 + digit → digit < 10 → digit_value byte ≡ digit
value_is byte digit is low = let range : (48 ≤ byte) × (byte ≤ 57) = (omega (arith, is), omega (arith, is)) in omega (arith, digit_value_digit byte range)

-- ---- one digit more

pub longer_is : (number digit byte more : ℕ) → 1 ≤ number → byte ≡ 48 + digit → digit < 10 → more ≡ number * 10 + digit → more < 2 ^ 64 → decimal more ≡ decimal number ++ byte ∷ []
longer_is number digit byte more some is low e small =
    let ten : 10 ≤ more = omega (arith, e) in
    let tens : more / 10 ≡ number = omega (arith, e) in
    let ones : 48 + more % 10 ≡ byte = omega (arith, e, is) in
    decimal_step more ten small ∙ rw (tens, ones) refl

digit_in : (front : List ℕ) (byte : ℕ) (rest : List ℕ) → AllDigits 10 (front ++ byte ∷ rest) → digit_value byte < 10
digit_in [] byte rest all = all.0
digit_in (d ∷ front) byte rest all = digit_in front byte rest all.1

isnt_digit : (byte : ℕ) → IsNoDigit byte → digit_value byte < 10 → ⊥
isnt_digit byte none value = let range = digit_from_value byte value in none (byte - 48) (omega (arith, range)) (omega (arith, range))

pub no_digit : (number byte : ℕ) → IsNoDigit byte → NoneGoesOn number byte
no_digit number byte none n behind l e = isnt_digit byte none (digit_in (decimal number) byte behind (subst (λ (ds : List ℕ). AllDigits 10 ds) e (digits_of n l)))

pub behind_zero : (number byte : ℕ) → number ≡ 0 → NoneGoesOn number byte
behind_zero number byte none n behind l e =
    let is : decimal n ≡ 48 ∷ byte ∷ behind = e ∙ rw (none, decimal_digit 0 (omega arith)) refl in
    absurd (omega (arith, no_zero (decimal n) n l refl (ap (λ (ds : List ℕ). get_or ds 0 0) is), ap length is))

pub too_large : (number digit byte : ℕ) → byte ≡ 48 + digit → digit < 10 → number < 2 ^ 64 → ((number * 10 + digit < 2 ^ 64) → ⊥) → NoneGoesOn number byte
too_large number digit byte is low small large n behind l e =
    let i = length (decimal number) in
    let within : i < length (decimal n) = omega (arith, ap length e, length-append (decimal number) (byte ∷ behind)) in
    let front : take i (decimal n) ≡ decimal number = ap (take i) e ∙ take_at (decimal number) (byte ∷ behind) i refl in
    let at : get_or (decimal n) i 0 ≡ byte = ap (λ (ds : List ℕ). get_or ds i 0) e ∙ get_or-append_right (decimal number) (byte ∷ behind) i i 0 refl (omega arith) ∙ (let none : i - i ≡ 0 = omega arith in rw none refl) in
    let value : digits_value 10 (take i (decimal n)) ≡ number = ap (digits_value 10) front ∙ (decimal_is_IsNumeral number small).1 in
    let last : digit_value (get_or (decimal n) i 0) ≡ digit = ap digit_value at ∙ value_is byte digit is low in
    large (omega (arith, digits_value_more 10 (decimal n) i within, digits_value-take-le 10 (decimal n) (i + 1) (omega arith), (decimal_is_IsNumeral n l).1, value, last))

-- ---- what is answered

positive : (n : ℕ) → (n ≡ 0 → ⊥) → 1 ≤ n
positive zero isnt = absurd (isnt refl)
positive (suc n) isnt = omega arith

pub longer_some : (number digit byte : ℕ) (result : Option ℕ) → (number ≡ 0 → ⊥) → (byte ≡ 48 + digit) × (digit < 10)
    → SomeIff result (number * 10 + digit < 2 ^ 64) (number * 10 + digit) → IfSome result (λ more. decimal more ≡ decimal number ++ byte ∷ [])
longer_some number digit byte None some is e = tt
longer_some number digit byte (Some more) some is e = longer_is number digit byte more (positive number some) is.0 is.1 e.1 (omega (arith, e.0, e.1))

pub longer_none : (number digit byte : ℕ) (result : Option ℕ) → number < 2 ^ 64 → (byte ≡ 48 + digit) × (digit < 10)
    → SomeIff result (number * 10 + digit < 2 ^ 64) (number * 10 + digit) → IfNone result (NoneGoesOn number byte)
longer_none number digit byte None small is e = too_large number digit byte is.0 is.1 small e
longer_none number digit byte (Some more) small is e = tt

-- ---- before a byte that is no digit

-- digits that end with another byte are the front of those before it
front_of : (a b : List ℕ) (byte stop : ℕ) (x y : List ℕ) → AllDigits 10 a → stop < 48 → byte ≢ stop → a ++ byte ∷ x ≡ b ++ stop ∷ y → (more : List ℕ) × (b ≡ a ++ byte ∷ more)
front_of [] [] byte stop x y all low other e = absurd (other (ap (λ (t : List ℕ). get_or t 0 0) e))
front_of [] (c ∷ b) byte stop x y all low other e = (b, ap (λ (k : ℕ). k ∷ b) (sym (ap (λ (t : List ℕ). get_or t 0 0) e)))
front_of (d ∷ a) [] byte stop x y all low other e = absurd (omega (arith, digit_from_value d all.0, ap (λ (t : List ℕ). get_or t 0 0) e))
front_of (d ∷ a) (c ∷ b) byte stop x y all low other e =
    let rest = front_of a b byte stop x y all.1 low other (ap (drop 1) e) in
    (rest.0, ap (λ (k : ℕ). k ∷ b) (sym (ap (λ (t : List ℕ). get_or t 0 0) e)) ∙ ap (λ (t : List ℕ). d ∷ t) rest.1)

ends_before : (a b : List ℕ) (stop : ℕ) (y : List ℕ) → AllDigits 10 a → stop < 48 → a ≢ b ++ stop ∷ y
ends_before [] [] stop y all low e = absurd (omega (arith, ap length e))
ends_before [] (c ∷ b) stop y all low e = absurd (omega (arith, ap length e))
ends_before (d ∷ a) [] stop y all low e = absurd (omega (arith, digit_from_value d all.0, ap (λ (t : List ℕ). get_or t 0 0) e))
ends_before (d ∷ a) (c ∷ b) stop y all low e = ends_before a b stop y all.1 low (ap (drop 1) e)

begins : (ds : List ℕ) (stop first : ℕ) (x y : List ℕ) → 0 < length ds → AllDigits 10 ds → first ∷ x ≡ ds ++ stop ∷ y → digit_value first < 10
begins [] stop first x y some all e = absurd (omega arith)
begins (d ∷ ds) stop first x y some all e = subst (λ (k : ℕ). digit_value k < 10) (sym (ap (λ (t : List ℕ). get_or t 0 0) e)) all.0

-- no number stands before such a byte
abbrev NoNumber : ℕ → List ℕ → Type 0
NoNumber stop text = (n : ℕ) → (rest : List ℕ) → n < 2 ^ 64 → text ≢ decimal n ++ stop ∷ rest

pub none_at_first : (text behind : List ℕ) (first stop : ℕ) → text ≡ first ∷ behind → IsNoDigit first → NoNumber stop text
none_at_first text behind first stop split none n rest l e =
    let numeral = (decimal_is_IsNumeral n l).0 in
    isnt_digit first none (begins (decimal n) stop first behind rest numeral.0 numeral.1 (sym split ∙ e))

pub none_further : (text rest behind : List ℕ) (number byte stop : ℕ) → number < 2 ^ 64 → stop < 48 → text ≡ decimal number ++ rest → rest ≡ byte ∷ behind → byte ≢ stop → NoneGoesOn number byte → NoNumber stop text
none_further text rest behind number byte stop small low read split other none n left l e =
    let front = front_of (decimal number) (decimal n) byte stop behind left (digits_of number small) low other (sym (read ∙ ap (λ (t : List ℕ). decimal number ++ t) split) ∙ e) in
    none n front.0 l front.1

pub none_at_end : (text rest : List ℕ) (number stop : ℕ) → number < 2 ^ 64 → stop < 48 → text ≡ decimal number ++ rest → length rest ≡ 0 → NoNumber stop text
none_at_end text [] number stop small low read empty n left l e =
    ends_before (decimal number) (decimal n) stop left (digits_of number small) low (sym (read ∙ append-nil (decimal number)) ∙ e)
none_at_end text (byte ∷ rest) number stop small low read empty n left l e = absurd (omega (arith, empty))

-- ---- what is read

pub first_read : (text behind : List ℕ) (first digit : ℕ) → text ≡ first ∷ behind → first ≡ 48 + digit → digit < 10 → text ≡ decimal digit ++ behind
first_read text behind first digit split is low = split ∙ rw (decimal_digit digit low, is) refl
