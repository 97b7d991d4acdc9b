-- Reading expressions, operands and statements.
use Rattle.std.proofs.Common.{◌≡◌, true, false, Bool, ℕ, suc, ◌+◌, ◌-◌, ◌<◌, ◌≤◌, if◌then◌else◌, List, [], ◌∷◌, ◌++◌, length, take, drop, position, ltb, cond, ⊎_elim, Option, Some, None, refl, sym, ap, ◌∙◌, arith, append_assoc}
use Rattle.std.specs.Option.{option_map}
use Rattle.sparc_asm.specs.declared.lexemes.Lexeme.{Lexeme}
use Rattle.sparc_asm.specs.declared.statements.Term.{Term}
use Rattle.sparc_asm.specs.declared.statements.Signed.{Signed}
use Rattle.sparc_asm.specs.Expressions.{term_of, minus_of, signed, sum_of, expression_of, before_last}
use Rattle.std.specs.List.{position_or_len}
use Rattle.std.proofs.lemmas.Bool.{cases_lt, lt-ltb, le-ltb}
use Rattle.std.proofs.Math.Seq.{take-length}
use Rattle.std.proofs.lemmas.List.{append-nil, drop-drop, length-drop, length-take-le}
use Rattle.sparc_asm.specs.Statements.{is_comma, at_comma, value_before, values_of}
use Rattle.sparc_asm.proofs.Reading.{map_append}

pub before_last-append : (closes : Lexeme → Bool) (inner : List Lexeme) (last : Lexeme) → before_last closes (inner ++ last ∷ []) ≡ (if closes last then Some inner else None)
before_last-append closes [] last = refl
before_last-append closes (x ∷ []) last = go (closes last) refl
  where
    go : (b : Bool) → closes last ≡ b → before_last closes (x ∷ last ∷ []) ≡ (if closes last then Some (x ∷ []) else None)
    go true e = rw e
    go false e = rw e
before_last-append closes (x ∷ y ∷ rest) last = ap (option_map (λ inner. x ∷ inner)) (before_last-append closes (y ∷ rest) last) ∙ go (closes last)
  where
    go : (b : Bool) → option_map (λ inner. x ∷ inner) (if b then Some (y ∷ rest) else None) ≡ (if b then Some (x ∷ y ∷ rest) else None)
    go true = refl
    go false = refl

pub closed : (closes : Lexeme → Bool) (lexemes inner : List Lexeme) (last : Lexeme) → lexemes ≡ inner ++ last ∷ [] → true ≡ closes last → before_last closes lexemes ≡ Some inner
closed closes lexemes inner last e shut = ap (before_last closes) e ∙ before_last-append closes inner last ∙ ap (λ b. if b then Some inner else None) (sym shut)

pub not_closed : (closes : Lexeme → Bool) (lexemes inner : List Lexeme) (last : Lexeme) → lexemes ≡ inner ++ last ∷ [] → false ≡ closes last → before_last closes lexemes ≡ None
not_closed closes lexemes inner last e other = ap (before_last closes) e ∙ before_last-append closes inner last ∙ ap (λ b. if b then Some inner else None) (sym other)

-- the step of a sum's loop: a term is pushed, and a sign stands behind it
pub more_terms : (minus next : Bool) (rest behind after : List Lexeme) (first sign : Lexeme) (term : Term) (old new : List Signed) → rest ≡ first ∷ behind → behind ≡ sign ∷ after → Some term ≡ term_of first → Some next ≡ minus_of sign → new ≡ old ++ signed minus term ∷ [] → option_map (λ terms. old ++ terms) (sum_of minus rest) ≡ option_map (λ terms. new ++ terms) (sum_of next after)
more_terms minus next rest behind after first sign term old new e f is turn pushed =
    let whole : rest ≡ first ∷ sign ∷ after = e ∙ ap (λ xs. first ∷ xs) f in
    ap (λ xs. option_map (λ terms. old ++ terms) (sum_of minus xs)) whole
    ∙ rw (sym is, sym turn) (map_append old (signed minus term) (sum_of next after))
    ∙ ap (λ front. option_map (λ terms. front ++ terms) (sum_of next after)) (sym pushed)

pub two_off : (rest behind after : List Lexeme) (first sign : Lexeme) → rest ≡ first ∷ behind → behind ≡ sign ∷ after → length rest ≡ length after + 2
two_off rest behind after first sign e f = omega (arith, ap length e, ap length f)

-- the slice from a place on
pub rest_at : (lexemes : List Lexeme) (at : ℕ) → take (length lexemes - at) (drop at lexemes) ≡ drop at lexemes
rest_at lexemes at = sym (ap (λ n. take n (drop at lexemes)) (length-drop at lexemes)) ∙ take-length (drop at lexemes)

-- what stands behind them, by its place
pub two_on : (lexemes behind after : List Lexeme) (at : ℕ) (first sign : Lexeme) → drop at lexemes ≡ first ∷ behind → behind ≡ sign ∷ after → after ≡ drop (at + 2) lexemes
two_on lexemes behind after at first sign e f = sym (ap (drop 2) (e ∙ ap (λ xs. first ∷ xs) f)) ∙ drop-drop 2 at lexemes

abbrev Found : List Lexeme → Type 0
Found lexemes = position_or_len is_comma lexemes < length lexemes → at_comma lexemes ≡ Some (take (position_or_len is_comma lexemes) lexemes, drop (position_or_len is_comma lexemes + 1) lexemes)

found_more : (first : Lexeme) (rest : List Lexeme) → Found rest → Found (first ∷ rest)
found_more first rest before = go (is_comma first) refl
  where
    count : ℕ
    count = position_or_len is_comma rest

    front : 1 + count ≡ suc count
    front = omega arith

    behind : suc count + 1 ≡ suc (count + 1)
    behind = omega arith

    go : (b : Bool) → is_comma first ≡ b → Found (first ∷ rest)
    go true e = rw e (λ l. refl)
    go false e = rw (e, front) (λ l. rw (before (omega arith), behind))

-- what stands before the first comma and behind it, by its place
comma_here : (lexemes : List Lexeme) → Found lexemes
comma_here [] l = absurd (omega arith)
comma_here (first ∷ rest) l = found_more first rest (comma_here rest) l

abbrev Missed : List Lexeme → Type 0
Missed lexemes = length lexemes ≤ position_or_len is_comma lexemes → at_comma lexemes ≡ None

missed_more : (first : Lexeme) (rest : List Lexeme) → Missed rest → Missed (first ∷ rest)
missed_more first rest before = go (is_comma first) refl
  where
    go : (b : Bool) → is_comma first ≡ b → Missed (first ∷ rest)
    go true e = rw e (λ l. absurd (omega arith))
    go false e = rw e (λ l. rw (before (omega arith)))

comma_past : (lexemes : List Lexeme) → Missed lexemes
comma_past [] l = refl
comma_past (first ∷ rest) l = missed_more first rest (comma_past rest) l

-- the same by what `position` answers
pub parted : (lexemes front rest behind : List Lexeme) (at : ℕ) → Some at ≡ position is_comma lexemes → front ≡ take at lexemes → rest ≡ drop at lexemes → behind ≡ drop 1 rest → at_comma lexemes ≡ Some (front, behind)
parted lexemes front rest behind at found f r b = ⊎_elim
    (λ l. let is : ltb (position_or_len is_comma lexemes) (length lexemes) ≡ true = lt-ltb _ _ l in
    let place : at ≡ position_or_len is_comma lexemes = let same = rw is at found in cc in
    comma_here lexemes l ∙ rw (f, b, r, place, drop-drop 1 (position_or_len is_comma lexemes) lexemes))
    (λ l. let is : ltb (position_or_len is_comma lexemes) (length lexemes) ≡ false = le-ltb _ _ l in
    let other = rw is at found in absurd cc)
    (cases_lt (position_or_len is_comma lexemes) (length lexemes))

pub unparted : (lexemes : List Lexeme) → None ≡ position is_comma lexemes → at_comma lexemes ≡ None
unparted lexemes none = ⊎_elim
    (λ l. let is : ltb (position_or_len is_comma lexemes) (length lexemes) ≡ true = lt-ltb _ _ l in
    let other = rw is at none in absurd cc)
    (λ l. comma_past lexemes l)
    (cases_lt (position_or_len is_comma lexemes) (length lexemes))

-- what stands behind the first comma, by its place
behind_comma : (lexemes front behind : List Lexeme) → at_comma lexemes ≡ Some (front, behind) → behind ≡ drop (length front + 1) lexemes
behind_comma lexemes front behind e = ⊎_elim
    (λ l. let parts : List Lexeme × List Lexeme = (front, behind) in
    let found : List Lexeme × List Lexeme = (take (position_or_len is_comma lexemes) lexemes, drop (position_or_len is_comma lexemes + 1) lexemes) in
    let both : Some parts ≡ Some found = sym e ∙ comma_here lexemes l in
    let same : parts ≡ found = cc in
    let size : length front ≡ position_or_len is_comma lexemes = ap (λ (p : List Lexeme × List Lexeme). length p.0) same ∙ length-take-le (position_or_len is_comma lexemes) lexemes (omega (arith, l)) in
    ap (λ (p : List Lexeme × List Lexeme). p.1) same ∙ ap (λ n. drop (n + 1) lexemes) (sym size))
    (λ l. let none = comma_past lexemes l in absurd cc)
    (cases_lt (position_or_len is_comma lexemes) (length lexemes))

pub next_value : (lexemes front behind : List Lexeme) (at : ℕ) → at_comma (drop at lexemes) ≡ Some (front, behind) → behind ≡ drop (at + (length front + 1)) lexemes
next_value lexemes front behind at e = behind_comma (drop at lexemes) front behind e ∙ drop-drop (length front + 1) at lexemes

values_at-comma : (front lexemes a b : List Lexeme) → at_comma lexemes ≡ Some (a, b) → values_of front lexemes ≡ value_before (expression_of (front ++ a)) (values_of [] b)
values_at-comma front [] a b e = absurd cc
values_at-comma front (first ∷ rest) a b e = go (is_comma first) refl (at_comma rest) refl e (values_at-comma (front ++ first ∷ []) rest)
  where
    go : (c : Bool) → is_comma first ≡ c → (r : Option (List Lexeme × List Lexeme)) → at_comma rest ≡ r → cond {A = Option (List Lexeme × List Lexeme)} c (Some ([], rest)) (option_map (λ parts. (first ∷ parts.0, parts.1)) r) ≡ Some (a, b) → ((a' b' : List Lexeme) → at_comma rest ≡ Some (a', b') → values_of (front ++ first ∷ []) rest ≡ value_before (expression_of ((front ++ first ∷ []) ++ a')) (values_of [] b')) → values_of front (first ∷ rest) ≡ value_before (expression_of (front ++ a)) (values_of [] b)
    go true e r f g more =
        let left : List Lexeme × List Lexeme = ([], rest) in
        let right : List Lexeme × List Lexeme = (a, b) in
        let same : left ≡ right = cc in
        let none : [] ≡ a = ap (λ (p : List Lexeme × List Lexeme). p.0) same in
        let behind : rest ≡ b = ap (λ (p : List Lexeme × List Lexeme). p.1) same in
        rw (e, sym none, sym behind, append-nil front)
    go false e None f g more = absurd cc
    go false e (Some parts) f g more =
        let left : List Lexeme × List Lexeme = (first ∷ parts.0, parts.1) in
        let right : List Lexeme × List Lexeme = (a, b) in
        let same : left ≡ right = cc in
        let longer : first ∷ parts.0 ≡ a = ap (λ (p : List Lexeme × List Lexeme). p.0) same in
        let behind : parts.1 ≡ b = ap (λ (p : List Lexeme × List Lexeme). p.1) same in
        rw (e, more parts.0 parts.1 f, append_assoc front (first ∷ []) parts.0, sym longer, sym behind)

values_of-last : (front lexemes : List Lexeme) → at_comma lexemes ≡ None → values_of front lexemes ≡ option_map (λ value. value ∷ []) (expression_of (front ++ lexemes))
values_of-last front [] e = rw (append-nil front)
values_of-last front (first ∷ rest) e = go (is_comma first) refl (at_comma rest) refl e (values_of-last (front ++ first ∷ []) rest)
  where
    go : (c : Bool) → is_comma first ≡ c → (r : Option (List Lexeme × List Lexeme)) → at_comma rest ≡ r → cond {A = Option (List Lexeme × List Lexeme)} c (Some ([], rest)) (option_map (λ parts. (first ∷ parts.0, parts.1)) r) ≡ None → (at_comma rest ≡ None → values_of (front ++ first ∷ []) rest ≡ option_map (λ value. value ∷ []) (expression_of ((front ++ first ∷ []) ++ rest))) → values_of front (first ∷ rest) ≡ option_map (λ value. value ∷ []) (expression_of (front ++ first ∷ rest))
    go true e r f g more = absurd cc
    go false e None f g more = rw (e, more f, append_assoc front (first ∷ []) rest)
    go false e (Some parts) f g more = absurd cc

-- the step of a list's loop: the value before a comma is pushed
pub more_values : (lexemes front behind : List Lexeme) (value : List Signed) (old new : List (List Signed)) → at_comma lexemes ≡ Some (front, behind) → Some value ≡ expression_of front → new ≡ old ++ value ∷ [] → option_map (λ more. old ++ more) (values_of [] lexemes) ≡ option_map (λ more. new ++ more) (values_of [] behind)
more_values lexemes front behind value old new at is pushed =
    ap (option_map (λ more. old ++ more)) (values_at-comma [] lexemes front behind at ∙ ap (λ v. value_before v (values_of [] behind)) (sym is))
    ∙ map_append old value (values_of [] behind)
    ∙ ap (λ front. option_map (λ more. front ++ more) (values_of [] behind)) (sym pushed)

pub no_value : (whole lexemes front behind : List Lexeme) (old : List (List Signed)) → at_comma lexemes ≡ Some (front, behind) → None ≡ expression_of front → values_of [] whole ≡ option_map (λ more. old ++ more) (values_of [] lexemes) → None ≡ values_of [] whole
no_value whole lexemes front behind old at is read = sym (read ∙ ap (option_map (λ more. old ++ more)) (values_at-comma [] lexemes front behind at ∙ ap (λ v. value_before v (values_of [] behind)) (sym is)))

-- the last value
pub last_value : (whole lexemes : List Lexeme) (value : List Signed) (old new : List (List Signed)) → at_comma lexemes ≡ None → Some value ≡ expression_of lexemes → new ≡ old ++ value ∷ [] → values_of [] whole ≡ option_map (λ more. old ++ more) (values_of [] lexemes) → Some new ≡ values_of [] whole
last_value whole lexemes value old new last is pushed read = sym (read ∙ ap (option_map (λ more. old ++ more)) (values_of-last [] lexemes last ∙ ap (option_map (λ v. v ∷ [])) (sym is)) ∙ ap Some (sym pushed))

pub no_last : (whole lexemes : List Lexeme) (old : List (List Signed)) → at_comma lexemes ≡ None → None ≡ expression_of lexemes → values_of [] whole ≡ option_map (λ more. old ++ more) (values_of [] lexemes) → None ≡ values_of [] whole
no_last whole lexemes old last is read = sym (read ∙ ap (option_map (λ more. old ++ more)) (values_of-last [] lexemes last ∙ ap (option_map (λ v. v ∷ [])) (sym is)))
