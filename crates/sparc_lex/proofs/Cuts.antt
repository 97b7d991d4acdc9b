-- Cutting a line byte by byte and token by token, and a source line by line.
use Rattle.std.proofs.Common.{◌≡◌, true, false, ℕ, zero, suc, ◌+◌, ◌-◌, ◌<◌, ◌≤◌, List, [], ◌∷◌, ◌++◌, length, take, drop, Option, Some, None, Result, Ok, Err, refl, sym, ap, ◌∙◌, arith, append_assoc, add-zero, ⊎_elim, ltb, subst, length-append}
use Rattle.std.specs.Option.{option_map}
use Rattle.std.specs.List.{position_or_len}
use Rattle.std.proofs.lemmas.Bool.{cases_lt, lt-ltb, le-ltb}
use Rattle.std.proofs.lemmas.List.{length-take-le, drop_all}
use Rattle.alw_text.specs.Lines.{is_line_feed, lines_of, line_end, next_line}
use Rattle.alw_text.proofs.Splits.{lines_of-drop}
use Rattle.sparc_lex.specs.declared.characters.Class.TheVariants.{Blank}
use Rattle.alw_text.specs.declared.lines.Span.{Span}
use Rattle.sparc_lex.specs.declared.kinds.Token.{Token}
use Rattle.sparc_lex.specs.declared.kinds.TokenKind.{TokenKind}
use Rattle.sparc_lex.specs.declared.kinds.LexErr.{LexErr}
use Rattle.sparc_lex.specs.declared.kinds.LexErr.TheVariants.{Syntax, NoMemory}
use Rattle.sparc_lex.specs.Characters.{is_of}
use Rattle.sparc_lex.specs.Cut.{token_from, cut_from, line_tokens, tokens_before, tokens_of_lines, AppendsLine, Answers}

-- bytes of a token that stands already
skipped : (line at inside : ℕ) (bytes : List ℕ) → cut_from line at inside bytes ≡ cut_from line (at + inside) 0 (drop inside bytes)
skipped line at zero bytes = rw (add-zero)
skipped line at (suc inside) [] = refl
skipped line at (suc inside) (byte ∷ rest) = let place : at + 1 + inside ≡ at + suc inside = omega arith in skipped line (at + 1) inside rest ∙ ap (λ p. cut_from line p 0 (drop inside rest)) place

pub cut-token : (line at byte : ℕ) (rest : List ℕ) (kind : TokenKind) (count : ℕ) → is_of Blank byte ≡ false → token_from byte rest ≡ Some (kind, count) → 1 ≤ count → cut_from line at 0 (byte ∷ rest) ≡ option_map (λ tokens. record { line = line; start = at; end = at + count; kind = kind } ∷ tokens) (cut_from line (at + count) 0 (drop count (byte ∷ rest)))
cut-token line at byte rest kind zero solid is some = absurd (omega arith)
cut-token line at byte rest kind (suc count) solid is some =
    let back : suc count - 1 ≡ count = omega arith in
    let place : at + 1 + count ≡ at + suc count = omega arith in
    rw (solid, is, back, skipped line (at + 1) count rest, place)

map_append : (old : List Token) (token : Token) (rest : Option (List Token)) → option_map (λ tokens. old ++ tokens) (option_map (λ tokens. token ∷ tokens) rest) ≡ option_map (λ tokens. (old ++ token ∷ []) ++ tokens) rest
map_append old token None = refl
map_append old token (Some tokens) = ap Some (sym (append_assoc old (token ∷ []) tokens))

-- one more token
pub appended : (line at byte : ℕ) (rest : List ℕ) (kind : TokenKind) (count : ℕ) (old : List Token) → is_of Blank byte ≡ false → token_from byte rest ≡ Some (kind, count) → 1 ≤ count → option_map (λ tokens. old ++ tokens) (cut_from line at 0 (byte ∷ rest)) ≡ option_map (λ tokens. (old ++ record { line = line; start = at; end = at + count; kind = kind } ∷ []) ++ tokens) (cut_from line (at + count) 0 (drop count (byte ∷ rest)))
appended line at byte rest kind count old solid is some = ap (option_map (λ tokens. old ++ tokens)) (cut-token line at byte rest kind count solid is some) ∙ map_append old (record { line = line; start = at; end = at + count; kind = kind }) (cut_from line (at + count) 0 (drop count (byte ∷ rest)))

-- the step of a line's loop: a token is pushed, and the bytes behind it are left
pub token_step : (line at : ℕ) (rest : List ℕ) (first : ℕ) (behind after : List ℕ) (kind : TokenKind) (count : ℕ) (old new : List Token) → rest ≡ first ∷ behind → is_of Blank first ≡ false → token_from first behind ≡ Some (kind, count) → 1 ≤ count → new ≡ old ++ record { line = line; start = at; end = at + count; kind = kind } ∷ [] → after ≡ drop count rest → option_map (λ tokens. old ++ tokens) (cut_from line at 0 rest) ≡ option_map (λ tokens. new ++ tokens) (cut_from line (at + count) 0 after)
token_step line at rest first behind after kind count old new e solid is some pushed left = rw (pushed, left, e) (appended line at first behind kind count old solid is some)

-- behind the last line no place is looked at
same_place : (source : List ℕ) (from line : ℕ) → from < length source → tokens_of_lines (line + 1) (from + (length (take (line_end source from - from) (drop from source)) + 1)) (lines_of (drop (next_line source from) source)) ≡ tokens_of_lines (line + 1) (next_line source from) (lines_of (drop (next_line source from) source))
same_place source from line l = ⊎_elim here past (cases_lt count (length (drop from source)))
  where
    count : ℕ
    count = position_or_len is_line_feed (drop from source)

    here : count < length (drop from source) → tokens_of_lines (line + 1) (from + (length (take (line_end source from - from) (drop from source)) + 1)) (lines_of (drop (next_line source from) source)) ≡ tokens_of_lines (line + 1) (next_line source from) (lines_of (drop (next_line source from) source))
    here within =
        let found : ltb count (length (drop from source)) ≡ true = lt-ltb _ _ within in
        let distance : from + count - from ≡ count = omega arith in
        let place : from + (count + 1) ≡ from + count + 1 = omega arith in
        let size : length (take count (drop from source)) ≡ count = length-take-le count (drop from source) (omega arith) in
        rw (found, distance, size, place)

    past : length (drop from source) ≤ count → tokens_of_lines (line + 1) (from + (length (take (line_end source from - from) (drop from source)) + 1)) (lines_of (drop (next_line source from) source)) ≡ tokens_of_lines (line + 1) (next_line source from) (lines_of (drop (next_line source from) source))
    past end =
        let none : ltb count (length (drop from source)) ≡ false = le-ltb _ _ end in
        rw (none, drop_all (length source) source (omega arith))

-- the lines from a place on: the first, and those behind it
pub next_lines : (source : List ℕ) (from line : ℕ) → from < length source → tokens_of_lines line from (lines_of (drop from source)) ≡ tokens_before line (line_tokens line from (take (line_end source from - from) (drop from source))) (tokens_of_lines (line + 1) (next_line source from) (lines_of (drop (next_line source from) source)))
next_lines source from line l = ap (tokens_of_lines line from) (lines_of-drop source from l) ∙ ap (tokens_before line (line_tokens line from (take (line_end source from - from) (drop from source)))) (same_place source from line l)

pub line_read : (line : ℕ) (old new : List Token) (first : Option (List Token)) (behind : Result (List Token) LexErr) → option_map (λ tokens. old ++ tokens) first ≡ Some new → tokens_before line (Some old) (tokens_before (line + 1) first behind) ≡ tokens_before (line + 1) (Some new) behind
line_read line old new None behind e = absurd cc
line_read line old new (Some tokens) (Err e') e = refl
line_read line old new (Some tokens) (Ok more) e = let same : old ++ tokens ≡ new = cc in ap Ok (sym (append_assoc old tokens more) ∙ ap (λ t. t ++ more) same)

-- what a line's answer says of the whole
pub line_refused : (line : ℕ) (wanted : Result (List Token) LexErr) (old new : List Token) (first : Option (List Token)) (behind : Result (List Token) LexErr) (e : LexErr) → wanted ≡ tokens_before line (Some old) (tokens_before (line + 1) first behind) → AppendsLine (line + 1) first old new (Err e) → Answers wanted (Err e)
line_refused line wanted old new first behind NoMemory is answer = tt
line_refused line wanted old new first behind (Syntax refused) is answer = is ∙ rw (answer.1, answer.0)

-- the step of a source's loop
pub lines_step : (source : List ℕ) (from line : ℕ) (span : Span) (old new : List Token) (wanted : Result (List Token) LexErr) → span ≡ record { start = from; end = line_end source from; next = next_line source from } → from < length source → wanted ≡ tokens_before line (Some old) (tokens_of_lines (line + 1) from (lines_of (drop from source))) → option_map (λ tokens. old ++ tokens) (line_tokens (line + 1) span.start (take (span.end - span.start) (drop span.start source))) ≡ Some new → wanted ≡ tokens_before (line + 1) (Some new) (tokens_of_lines (line + 1 + 1) span.next (lines_of (drop span.next source)))
lines_step source from line span old new wanted is some before cut =
    let cut' = rw is at cut in
    rw is (before ∙ ap (tokens_before line (Some old)) (next_lines source from (line + 1) some) ∙ line_read line old new _ _ cut')

pub lines_refused : (source : List ℕ) (from line : ℕ) (span : Span) (old new : List Token) (wanted : Result (List Token) LexErr) (e : LexErr) → span ≡ record { start = from; end = line_end source from; next = next_line source from } → from < length source → wanted ≡ tokens_before line (Some old) (tokens_of_lines (line + 1) from (lines_of (drop from source))) → AppendsLine (line + 1) (line_tokens (line + 1) span.start (take (span.end - span.start) (drop span.start source))) old new (Err e) → Answers wanted (Err e)
lines_refused source from line span old new wanted e is some before cut =
    let cut' = subst (λ (s : Span). AppendsLine (line + 1) (line_tokens (line + 1) s.start (take (s.end - s.start) (drop s.start source))) old new (Err e)) is cut in
    line_refused line wanted old new _ _ e (before ∙ ap (tokens_before line (Some old)) (next_lines source from (line + 1) some)) cut'

-- nothing is cut yet
pub lines_start : (lines : List (List ℕ)) (none : List Token) → none ≡ [] → tokens_of_lines 1 0 lines ≡ tokens_before 0 (Some none) (tokens_of_lines 1 0 lines)
lines_start lines none empty = rw empty (go (tokens_of_lines 1 0 lines))
  where
    go : (r : Result (List Token) LexErr) → r ≡ tokens_before 0 (Some []) r
    go (Ok tokens) = refl
    go (Err e) = refl

pub pushed : (old new : List Token) (token : Token) → new ≡ old ++ token ∷ [] → length new ≡ length old + 1
pushed old new token e = omega (arith, ap length e, length-append old (token ∷ []))
