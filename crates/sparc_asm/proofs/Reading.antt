-- Reading numbers and lexemes.
use Rattle.std.proofs.Common.{◌≡◌, true, false, Bool, ℕ, zero, suc, ◌+◌, ◌^◌, ◌<◌, ◌==◌, ◌&&◌, nat_lt, List, [], ◌∷◌, ◌++◌, length, drop, slice_get, Option, Some, None, refl, sym, ap, ◌∙◌, arith, append_assoc, add-one, length-append}
use Rattle.std.specs.Option.{option_map}
use Rattle.std.specs.Char.{digit_value}
use Rattle.std.specs.List.{list_all}
use Rattle.std.specs.Str.Parse.{AllDigits, IsNumeral, digits_value}
use Rattle.std.proofs.lemmas.Bool.{lt-ltb, ltb-true, true≢false}
use Rattle.std.proofs.lemmas.Bool.Decides.{nat_tests}
use Rattle.sparc_lex.specs.declared.kinds.Token.{Token}
use Rattle.sparc_lex.specs.Cut.{text_of}
use Rattle.sparc_asm.specs.declared.lexemes.Lexeme.{Lexeme}
use Rattle.sparc_asm.specs.Lexemes.{is_numeral, number_in, lexeme_of, lexeme_before, lexemes_of}

all_true : (base : ℕ) (text : List ℕ) → AllDigits base text → list_all (λ digit. nat_lt (digit_value digit) base) text ≡ true
all_true base [] all = refl
all_true base (c ∷ cs) all = rw (lt-ltb (digit_value c) base all.0) (all_true base cs all.1)

all_digits : (base : ℕ) (text : List ℕ) → list_all (λ digit. nat_lt (digit_value digit) base) text ≡ true → AllDigits base text
all_digits base [] e = tt
all_digits base (c ∷ cs) e = go (nat_lt (digit_value c) base) refl e (all_digits base cs)
  where
    go : (b : Bool) → nat_lt (digit_value c) base ≡ b → (b && list_all (λ digit. nat_lt (digit_value digit) base) cs) ≡ true → (list_all (λ digit. nat_lt (digit_value digit) base) cs ≡ true → AllDigits base cs) → AllDigits base (c ∷ cs)
    go true here rest more = (ltb-true (digit_value c) base here, more rest)
    go false here rest more = absurd (true≢false (sym rest))

numeral_true : (base : ℕ) (text : List ℕ) → IsNumeral base text → is_numeral base text ≡ true
numeral_true base text numeral =
    let some : (length text == 0) ≡ false = grind (arith, nat_tests, numeral.0) in
    rw (some, all_true base text numeral.1)

numeral_is : (base : ℕ) (text : List ℕ) → is_numeral base text ≡ true → IsNumeral base text
numeral_is base [] e = absurd (true≢false (sym e))
numeral_is base (c ∷ cs) e =
    let some : (length (c ∷ cs) == 0) ≡ false = grind (arith, nat_tests) in
    (omega arith, all_digits base (c ∷ cs) (rw some at e))

pub read : (base : ℕ) (text : List ℕ) (number : ℕ) → ((IsNumeral base text × (digits_value base text < 2 ^ 64)) × (number ≡ digits_value base text)) → number < 2 ^ 32 → Some number ≡ number_in base text
read base text number is small =
    let fits : nat_lt (digits_value base text) (2 ^ 32) ≡ true = lt-ltb _ _ (omega (arith, is.1)) in
    rw (numeral_true base text is.0.0, fits) (ap Some is.1)

pub unread : (base : ℕ) (text : List ℕ) → ¬ (IsNumeral base text × (digits_value base text < 2 ^ 64)) → None ≡ number_in base text
unread base text bad = go (is_numeral base text) refl (nat_lt (digits_value base text) (2 ^ 32)) refl
  where
    go : (a : Bool) → is_numeral base text ≡ a → (b : Bool) → nat_lt (digits_value base text) (2 ^ 32) ≡ b → None ≡ number_in base text
    go false e b f = rw e
    go true e false f = rw (e, f)
    go true e true f = absurd (bad (numeral_is base text e, omega (arith, ltb-true _ _ f)))

-- a list from one of its places on
pub drop_get : {A : Type 0} (xs : List A) (i : ℕ) (x : A) → slice_get xs i ≡ Some x → drop i xs ≡ x ∷ drop (i + 1) xs
drop_get [] i x at = absurd cc
drop_get (y ∷ ys) zero x at = let same : y ≡ x = cc in ap (λ z. z ∷ ys) same
drop_get (y ∷ ys) (suc i) x at = rw add-one (drop_get ys i x at ∙ rw add-one)

pub map_append : {A : Type 0} (old : List A) (x : A) (rest : Option (List A)) → option_map (λ xs. old ++ xs) (option_map (λ xs. x ∷ xs) rest) ≡ option_map (λ xs. (old ++ x ∷ []) ++ xs) rest
map_append old x None = refl
map_append old x (Some xs) = ap Some (sym (append_assoc old (x ∷ []) xs))

-- the step of a line's loop: a token's lexeme is pushed
pub more_lexemes : (source : List ℕ) (tokens : List Token) (i : ℕ) (token : Token) (text : List ℕ) (lexeme : Lexeme) (old new : List Lexeme) → slice_get tokens i ≡ Some token → text ≡ text_of source token → Some lexeme ≡ lexeme_of token.kind text → new ≡ old ++ lexeme ∷ [] → option_map (λ rest. old ++ rest) (lexemes_of source (drop i tokens)) ≡ option_map (λ rest. new ++ rest) (lexemes_of source (drop (i + 1) tokens))
more_lexemes source tokens i token text lexeme old new at says is pushed =
    let this : lexeme_of token.kind (text_of source token) ≡ Some lexeme = sym (is ∙ ap (lexeme_of token.kind) says) in
    ap (λ xs. option_map (λ rest. old ++ rest) (lexemes_of source xs)) (drop_get tokens i token at)
    ∙ ap (λ l. option_map (λ rest. old ++ rest) (lexeme_before l (lexemes_of source (drop (i + 1) tokens)))) this
    ∙ map_append old lexeme (lexemes_of source (drop (i + 1) tokens))
    ∙ ap (λ front. option_map (λ rest. front ++ rest) (lexemes_of source (drop (i + 1) tokens))) (sym pushed)

pub no_lexeme : (source : List ℕ) (tokens : List Token) (i : ℕ) (token : Token) (text : List ℕ) (old : List Lexeme) → slice_get tokens i ≡ Some token → text ≡ text_of source token → None ≡ lexeme_of token.kind text → lexemes_of source tokens ≡ option_map (λ rest. old ++ rest) (lexemes_of source (drop i tokens)) → None ≡ lexemes_of source tokens
no_lexeme source tokens i token text old at says is read =
    let this : lexeme_of token.kind (text_of source token) ≡ None = sym (is ∙ ap (lexeme_of token.kind) says) in
    sym (read
    ∙ ap (λ xs. option_map (λ rest. old ++ rest) (lexemes_of source xs)) (drop_get tokens i token at)
    ∙ ap (λ l. option_map (λ rest. old ++ rest) (lexeme_before l (lexemes_of source (drop (i + 1) tokens)))) this)

pub pushed_length : {A : Type 0} (old new : List A) (x : A) → new ≡ old ++ x ∷ [] → length new ≡ length old + 1
pushed_length old new x e = omega (arith, ap length e, length-append old (x ∷ []))
