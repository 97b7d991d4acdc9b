-- What the bytes of a line say, wherever they stand in a source.
use Rattle.std.proofs.Common.{◌≡◌, true, false, Bool, ℕ, zero, suc, ◌+◌, ◌-◌, ◌≤◌, ◌==◌, ◌&&◌, not, cond, List, [], ◌∷◌, ◌++◌, length, take, drop, Option, Some, None, refl, sym, ap, ◌∙◌, arith}
use Rattle.std.specs.Prelude.{if◌then◌else◌, min}
use Rattle.std.specs.Option.{option_map}
use Rattle.std.proofs.lemmas.List.{drop-drop, take-append-le}
use Rattle.std.proofs.lemmas.Bool.Decides.{nat_tests}
use Rattle.std.proofs.lemmas.List.Sums.{prefix_len-le-length}
use Rattle.sparc_lex.specs.declared.characters.Class.TheVariants.{Blank, Letter, Digit, Hexadecimal, LetterOrDigit, NamePart}
use Rattle.sparc_lex.specs.declared.kinds.Token.{Token}
use Rattle.sparc_lex.specs.declared.kinds.TokenKind.{TokenKind}
use Rattle.sparc_lex.specs.declared.kinds.TokenKind.TheVariants.{Word, Dot, Number, Percent, Mark}
use Rattle.sparc_lex.specs.Characters.{is_of, begins_name, is_mark}
use Rattle.sparc_lex.specs.Cut.{run_of, hex_run, number_length, dotted, percented, token_from, token_before, cut_from, text_of}
use Rattle.sparc_asm.specs.declared.lexemes.Lexeme.{Lexeme}
use Rattle.sparc_asm.specs.Lexemes.{lexeme_of, lexeme_before, lexemes_of}
use Rattle.sparc_asm.specs.Statements.{◌>>=◌}

-- what a token at the front of a text says, before what stands behind it
abbrev pub said_before : List ℕ → Option (TokenKind × ℕ) → (ℕ → Option (List Lexeme)) → Option (List Lexeme)
said_before text None next = None
said_before text (Some token) next = lexeme_before (lexeme_of token.0 (take token.1 text)) (next (token.1 - 1))

-- what bytes say, where `inside` of them belong to a token before
abbrev pub lexed : ℕ → List ℕ → Option (List Lexeme)
lexed inside [] = Some []
lexed (suc inside) (byte ∷ rest) = lexed inside rest
lexed zero (byte ∷ rest) = if is_of Blank byte then lexed 0 rest else said_before (byte ∷ rest) (token_from byte rest) (λ inside. lexed inside rest)

-- ---- no token is longer than what it is cut from

abbrev Within : ℕ → Option (TokenKind × ℕ) → Type 0
Within most None = Unit {0}
Within most (Some token) = (1 ≤ token.1) × (token.1 ≤ most)

hex_within : (rest : List ℕ) → 1 ≤ hex_run rest → 1 + hex_run rest ≤ length rest
hex_within [] some = absurd (omega arith)
hex_within (byte ∷ rest) some = go (byte == 120) some
  where
    go : (b : Bool) → 1 ≤ cond b (min (run_of Hexadecimal rest) 8) 0 → 1 + cond b (min (run_of Hexadecimal rest) 8) 0 ≤ suc (length rest)
    go true some = omega (arith, prefix_len-le-length (is_of Hexadecimal) rest)
    go false some = omega arith

number_within : (first : ℕ) (rest : List ℕ) → (1 ≤ number_length first rest) × (number_length first rest ≤ 1 + length rest)
number_within first rest = go (first == 48) (hex_run rest == 0) refl
  where
    go : (b c : Bool) → (hex_run rest == 0) ≡ c → (1 ≤ cond (b && not c) (2 + hex_run rest) (1 + run_of Digit rest)) × (cond (b && not c) (2 + hex_run rest) (1 + run_of Digit rest) ≤ 1 + length rest)
    go true false e = let some : 1 ≤ hex_run rest = grind (arith, nat_tests) in (omega arith, omega (arith, hex_within rest some))
    go true true e = (omega arith, omega (arith, prefix_len-le-length (is_of Digit) rest))
    go false c e = (omega arith, omega (arith, prefix_len-le-length (is_of Digit) rest))

dotted_within : (most letters : ℕ) → letters ≤ most → Within (1 + most) (Some (dotted letters))
dotted_within most letters l = go (letters == 0)
  where
    go : (b : Bool) → Within (1 + most) (Some (cond b (Dot, 1) (Word, 1 + letters)))
    go true = (omega arith, omega arith)
    go false = (omega arith, omega arith)

percented_within : (most letters : ℕ) → letters ≤ most → Within (1 + most) (percented letters)
percented_within most letters l = go (letters == 0)
  where
    go : (b : Bool) → Within (1 + most) (cond b None (Some (Percent, 1 + letters)))
    go true = tt
    go false = (omega arith, omega arith)

within : (first : ℕ) (rest : List ℕ) → Within (1 + length rest) (token_from first rest)
within first rest = go (begins_name first) (first == 46) (is_of Digit first) (first == 37) (is_mark first)
  where
    go : (a b c d e : Bool) → Within (1 + length rest) (cond a (Some (Word, 1 + run_of NamePart rest)) (cond b (Some (dotted (run_of Letter rest))) (cond c (Some (Number, number_length first rest)) (cond d (percented (run_of LetterOrDigit rest)) (cond e (Some (Mark, 1)) None)))))
    go true b c d e = (omega arith, omega (arith, prefix_len-le-length (is_of NamePart) rest))
    go false true c d e = dotted_within (length rest) (run_of Letter rest) (prefix_len-le-length (is_of Letter) rest)
    go false false true d e = number_within first rest
    go false false false true e = percented_within (length rest) (run_of LetterOrDigit rest) (prefix_len-le-length (is_of LetterOrDigit) rest)
    go false false false false true = (omega arith, omega arith)
    go false false false false false = tt

-- ---- the tokens of a line of a source say what its bytes say

behind_none : (lexeme : Option Lexeme) → None ≡ lexeme_before lexeme None
behind_none None = refl
behind_none (Some lexeme) = refl

first_said : (source : List ℕ) (token : Token) (tokens : Option (List Token)) → (option_map (λ ts. token ∷ ts) tokens >>= lexemes_of source) ≡ lexeme_before (lexeme_of token.kind (text_of source token)) (tokens >>= lexemes_of source)
first_said source token None = behind_none (lexeme_of token.kind (text_of source token))
first_said source token (Some tokens) = refl

text_is : (source : List ℕ) (line at count : ℕ) (kind : TokenKind) (bytes tail : List ℕ) → drop at source ≡ bytes ++ tail → count ≤ length bytes → text_of source (record { line = line; start = at; end = at + count; kind = kind }) ≡ take count bytes
text_is source line at count kind bytes tail stands l =
    let size : at + count - at ≡ count = omega arith in
    rw (size, stands) (take-append-le count bytes tail l)

one_further : (source : List ℕ) (at byte : ℕ) (rest tail : List ℕ) → drop at source ≡ (byte ∷ rest) ++ tail → drop (at + 1) source ≡ rest ++ tail
one_further source at byte rest tail stands = sym (drop-drop 1 at source) ∙ ap (drop 1) stands

pub says_is : (source : List ℕ) (line at inside : ℕ) (bytes tail : List ℕ) → drop at source ≡ bytes ++ tail → (cut_from line at inside bytes >>= lexemes_of source) ≡ lexed inside bytes
says_is source line at inside [] tail stands = refl
says_is source line at (suc inside) (byte ∷ rest) tail stands = says_is source line (at + 1) inside rest tail (one_further source at byte rest tail stands)
says_is source line at zero (byte ∷ rest) tail stands = go (is_of Blank byte) (token_from byte rest) (within byte rest) (λ inside. says_is source line (at + 1) inside rest tail (one_further source at byte rest tail stands))
  where
    go : (b : Bool) (o : Option (TokenKind × ℕ)) → Within (1 + length rest) o → ((inside : ℕ) → (cut_from line (at + 1) inside rest >>= lexemes_of source) ≡ lexed inside rest)
        → (cond b (cut_from line (at + 1) 0 rest) (token_before line at o (λ inside. cut_from line (at + 1) inside rest)) >>= lexemes_of source) ≡ cond b (lexed 0 rest) (said_before (byte ∷ rest) o (λ inside. lexed inside rest))
    go true o l more = more 0
    go false None l more = refl
    go false (Some token) l more =
        first_said source (record { line = line; start = at; end = at + token.1; kind = token.0 }) (cut_from line (at + 1) (token.1 - 1) rest)
        ∙ rw (text_is source line at token.1 token.0 (byte ∷ rest) tail stands (omega arith), more (token.1 - 1))
