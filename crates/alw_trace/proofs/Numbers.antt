-- A number before a byte that is no digit is read in one way.
use Rattle.std.proofs.Common.{◌≡◌, ◌≢◌, ℕ, ◌+◌, ◌^◌, ◌<◌, ◌==◌, true, false, List, [], ◌∷◌, ◌++◌, length, take, drop, nat_lt, Some, refl, sym, ap, ◌∙◌, arith, length-append}
use Rattle.std.specs.List.{position, position_or_len}
use Rattle.std.proofs.lemmas.Bool.{lt-ltb}
use Rattle.std.proofs.lemmas.Bool.Decides.{nat_tests}
use Rattle.std.proofs.lemmas.List.{take_at, drop_at, append_cancel_left}
use Rattle.std.specs.Fmt.{decimal}
use Rattle.std.specs.Char.{digit_value}
use Rattle.std.specs.Str.Parse.{AllDigits, digits_value}
use Rattle.std.proofs.lemmas.Fmt.{decimal_is_IsNumeral}

no_digit : (stop byte : ℕ) → stop < 48 → digit_value byte < 10 → (byte == stop) ≡ false
no_digit stop byte low digit = grind (arith, nat_tests)

same : (stop : ℕ) → (stop == stop) ≡ true
same stop = grind (arith, nat_tests)

place : (digits rest : List ℕ) (stop : ℕ) → AllDigits 10 digits → stop < 48 → position_or_len (λ byte. byte == stop) (digits ++ stop ∷ rest) ≡ length digits
place [] rest stop all low = rw (same stop)
place (d ∷ digits) rest stop all low = rw (no_digit stop d low all.0) (let more = place digits rest stop all.1 low in omega (arith, more))

found : (n : ℕ) (rest : List ℕ) (stop : ℕ) → n < 2 ^ 64 → stop < 48 → position (λ byte. byte == stop) (decimal n ++ stop ∷ rest) ≡ Some (length (decimal n))
found n rest stop l low =
    let at = place (decimal n) rest stop (decimal_is_IsNumeral n l).0.1 low in
    let within : nat_lt (length (decimal n)) (length (decimal n ++ stop ∷ rest)) ≡ true =
    lt-ltb _ _ (omega (arith, length-append (decimal n) (stop ∷ rest))) in
    rw (at, within)

same_place : (a b : ℕ) → Some a ≡ Some b → a ≡ b
same_place a b e = cc

-- one number, and one rest
pub one_number : (n m stop : ℕ) (one other : List ℕ) → n < 2 ^ 64 → m < 2 ^ 64 → stop < 48 → decimal n ++ stop ∷ one ≡ decimal m ++ stop ∷ other
    → (n ≡ m) × (one ≡ other)
one_number n m stop one other l k low is =
    let long : length (decimal n) ≡ length (decimal m) =
    same_place _ _ (sym (found n one stop l low) ∙ ap (position (λ byte. byte == stop)) is ∙ found m other stop k low) in
    let front : decimal n ≡ decimal m = sym (take_at (decimal n) (stop ∷ one) (length (decimal n)) refl) ∙ ap (take (length (decimal n))) is
    ∙ take_at (decimal m) (stop ∷ other) (length (decimal n)) (sym long) in
    let value : n ≡ m = sym (decimal_is_IsNumeral n l).1 ∙ ap (digits_value 10) front ∙ (decimal_is_IsNumeral m k).1 in
    let behind : stop ∷ one ≡ stop ∷ other = sym (drop_at (decimal n) (stop ∷ one) (length (decimal n)) refl) ∙ ap (drop (length (decimal n))) is
    ∙ drop_at (decimal m) (stop ∷ other) (length (decimal n)) (sym long) in
    (value, ap (drop 1) behind)

pub rest_is : (n m stop : ℕ) (one other : List ℕ) → n < 2 ^ 64 → m < 2 ^ 64 → stop < 48 → decimal n ++ stop ∷ one ≡ decimal m ++ stop ∷ other → one ≡ other
rest_is n m stop one other l k low is = (one_number n m stop one other l k low is).1

-- ---- behind a fixed text

pub no_number_behind : (text front behind : List ℕ) (stop : ℕ) → text ≡ front ++ behind
    → ((n : ℕ) → (rest : List ℕ) → n < 2 ^ 64 → behind ≢ decimal n ++ stop ∷ rest)
    → (n : ℕ) → (rest : List ℕ) → n < 2 ^ 64 → text ≢ front ++ (decimal n ++ stop ∷ rest)
no_number_behind text front behind stop e none n rest l is = none n rest l (append_cancel_left front behind (decimal n ++ stop ∷ rest) (sym e ∙ is))

-- what follows a number behind a fixed text is one thing
pub rest_behind : (text front one other : List ℕ) (n m stop : ℕ) → n < 2 ^ 64 → m < 2 ^ 64 → stop < 48 → text ≡ front ++ (decimal n ++ stop ∷ one)
    → text ≡ front ++ (decimal m ++ stop ∷ other) → one ≡ other
rest_behind text front one other n m stop l k low e is =
    rest_is n m stop one other l k low (append_cancel_left front (decimal n ++ stop ∷ one) (decimal m ++ stop ∷ other) (sym e ∙ is))
