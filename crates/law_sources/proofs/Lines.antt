-- Lines of a source: where they end, and what each is read as.
use Rattle.std.proofs.Common.{◌≡◌, true, false, Bool, ℕ, ◌+◌, ◌*◌, ◌≤◌, ◌==◌, ◌&&◌, List, [], ◌∷◌, ◌++◌, length, drop, Option, Some, None, Ok, refl, sym, ap, subst, ◌∙◌, arith, append_assoc, length-append}
use Rattle.std.specs.Prelude.{nat_le}
use Rattle.std.specs.List.{list_all, position_or_len}
use Rattle.std.proofs.lemmas.Bool.{le-leb}
use Rattle.std.proofs.lemmas.Bool.Decides.{nat_tests}
use Rattle.std.proofs.lemmas.List.{append-nil, drop-drop, drop_at, take_at}
use Rattle.std.proofs.lemmas.List.Folds.{list_all-append}
use Rattle.alw_text.specs.Lines.{is_line_feed, lines_of}
use Rattle.sparc_lex.specs.declared.kinds.Token.{Token}
use Rattle.sparc_lex.specs.Characters.{is_allowed}
use Rattle.sparc_lex.specs.Cut.{cut_from, code_of, line_tokens}
use Rattle.sparc_asm.specs.declared.lexemes.Lexeme.{Lexeme}
use Rattle.sparc_asm.specs.declared.statements.Line.{Line}
use Rattle.sparc_asm.specs.declared.statements.Statement.{Statement}
use Rattle.sparc_asm.specs.Lexemes.{lexemes_of}
use Rattle.sparc_asm.specs.Statements.{◌>>=◌, spelled_line}
use Rattle.sparc_asm.specs.Sources.{read_line, read_from}
use Rattle.law_sources.specs.Parsed.{line_of}
use Rattle.law_sources.proofs.Lexed.{lexed, says_is}
use Rattle.law_sources.proofs.Pieces.{is_plain, IsPlain}
use Rattle.law_sources.proofs.Spelled.{IsSaid}

-- ---- bytes

record IsOrdinary (byte : ℕ) : Type 0 where
  allowed : is_allowed byte ≡ true
  no_mark : (byte == 33) ≡ false

ordinary : (byte : ℕ) → is_plain byte ≡ true → IsOrdinary byte
ordinary byte plain = record { allowed = grind (arith, nat_tests); no_mark = grind (arith, nat_tests) }

no_feed : (byte : ℕ) → is_allowed byte ≡ true → is_line_feed byte ≡ false
no_feed byte allowed = grind (arith, nat_tests)

-- a test of all bytes, of the first and of the rest
first_holds : (test : ℕ → Bool) (byte : ℕ) (rest : List ℕ) → list_all test (byte ∷ rest) ≡ true → (test byte ≡ true) × (list_all test rest ≡ true)
first_holds test byte rest all = go (test byte) refl all
  where
    go : (b : Bool) → test byte ≡ b → (b && list_all test rest) ≡ true → (test byte ≡ true) × (list_all test rest ≡ true)
    go true e all = (e, all)
    go false e all = absurd cc

pub all_allowed : (text : List ℕ) → IsPlain text → list_all is_allowed text ≡ true
all_allowed [] plain = refl
all_allowed (byte ∷ rest) plain =
    let first = first_holds is_plain byte rest plain in
    rw ((ordinary byte first.0).allowed, all_allowed rest first.1)

-- what stands behind a line's statement: nothing, or a comment
abbrev pub IsBehind : List ℕ → Type 0
IsBehind [] = Unit {0}
IsBehind (byte ∷ rest) = (byte == 33) ≡ true

comment_at : (code behind : List ℕ) → IsPlain code → IsBehind behind → position_or_len (λ byte. byte == 33) (code ++ behind) ≡ length code
comment_at [] [] plain is = refl
comment_at [] (byte ∷ behind) plain is = rw is
comment_at (byte ∷ code) behind plain is =
    let first = first_holds is_plain byte code plain in
    let more = comment_at code behind first.1 is in
    rw ((ordinary byte first.0).no_mark) (omega arith)

code_is : (code behind : List ℕ) → IsPlain code → IsBehind behind → code_of (code ++ behind) ≡ code
code_is code behind plain is = rw (comment_at code behind plain is) (take_at code behind (length code) refl)

-- ---- a line

-- the bytes of a line, and what it is read as wherever it stands
pub record IsLine (text : List ℕ) (line : Line) : Type 0 where
  pub allowed : list_all is_allowed text ≡ true
  pub size : length text ≤ 79
  pub reads : (source tail : List ℕ) (number at : ℕ) → drop at source ≡ text ++ tail → read_line source number at text ≡ Some line

regrouped : (source : List ℕ) (tokens : Option (List Token)) → (tokens >>= (λ ts. lexemes_of source ts >>= spelled_line)) ≡ ((tokens >>= lexemes_of source) >>= spelled_line)
regrouped source None = refl
regrouped source (Some tokens) = refl

read_as : (code behind source tail : List ℕ) (number at : ℕ) (says : List Lexeme) (line : Line) → IsPlain code → IsBehind behind → list_all is_allowed behind ≡ true → length (code ++ behind) ≤ 79
    → lexed 0 code ≡ Some says → spelled_line says ≡ Some line → drop at source ≡ (code ++ behind) ++ tail → read_line source number at (code ++ behind) ≡ Some line
unfolding read_line line_tokens
read_as code behind source tail number at says line plain is allowed short said spelled stands =
    let small : nat_le (length (code ++ behind)) 1000 ≡ true = le-leb _ _ (omega arith) in
    let all : list_all is_allowed (code ++ behind) ≡ true = list_all-append is_allowed code behind ∙ rw (all_allowed code plain, allowed) in
    let tokens = says_is source number at 0 code (behind ++ tail) (stands ∙ append_assoc code behind tail) in
    rw (small, all, code_is code behind plain is, regrouped source (cut_from number at 0 code), tokens, said) spelled

both_allowed : (code behind : List ℕ) → IsPlain code → list_all is_allowed behind ≡ true → list_all is_allowed (code ++ behind) ≡ true
both_allowed code behind plain allowed = list_all-append is_allowed code behind ∙ rw (all_allowed code plain, allowed)

-- a statement and nothing else
pub bare : (text : List ℕ) (s : Statement) → IsSaid text s → IsLine text (line_of s)
bare text s is = subst (λ (t : List ℕ). IsLine t (line_of s)) (append-nil text) (record {
  allowed = both_allowed text [] is.piece.plain refl;
  size = omega (arith, length-append text [], is.piece.size);
  reads = λ source tail number at stands.
      read_as text [] source tail number at is.says (line_of s) is.piece.plain tt refl (omega (arith, length-append text [], is.piece.size)) said is.spelled stands;
})
  where
    said : lexed 0 text ≡ Some is.says
    said = rw (append-nil text, append-nil is.says) at (is.piece.reads [] [] tt refl)

-- a statement and a comment
pub commented : (text comment : List ℕ) (s : Statement) → IsSaid text s → list_all is_allowed comment ≡ true → length comment ≤ 18 → IsLine (text ++ (32 ∷ 33 ∷ comment)) (line_of s)
commented text comment s is allowed short = subst (λ (t : List ℕ). IsLine t (line_of s)) (append_assoc text (32 ∷ []) (33 ∷ comment)) (record {
  allowed = both_allowed code (33 ∷ comment) plain allowed;
  size = size;
  reads = λ source tail number at stands. read_as code (33 ∷ comment) source tail number at is.says (line_of s) plain refl allowed size said is.spelled stands;
})
  where
    code : List ℕ
    code = text ++ (32 ∷ [])

    plain : IsPlain code
    plain = list_all-append is_plain text (32 ∷ []) ∙ rw is.piece.plain

    size : length (code ++ (33 ∷ comment)) ≤ 79
    size = omega (arith, length-append code (33 ∷ comment), length-append text (32 ∷ []), is.piece.size)

    said : lexed 0 code ≡ Some is.says
    said = rw (append-nil is.says) at (is.piece.reads (32 ∷ []) [] (refl, refl, refl, refl) refl)

-- ---- lines one after another

first_line : (text rest : List ℕ) → list_all is_allowed text ≡ true → lines_of (text ++ (10 ∷ rest)) ≡ text ∷ lines_of rest
first_line [] rest allowed = refl
first_line (byte ∷ text) rest allowed =
    let first = first_holds is_allowed byte text allowed in
    rw (no_feed byte first.0, first_line text rest first.1)

-- a text from a place of a source on, and the lines that it is read as
pub record LinesAreTold (text : List ℕ) (lines : List Line) : Type 0 where
  pub size : length text ≤ 80 * length lines
  pub reads : (source : List ℕ) (number at : ℕ) → drop at source ≡ text → read_from source number at (lines_of text) ≡ Ok lines

pub end_told : LinesAreTold [] []
end_told = record { size = omega arith; reads = λ source number at stands. refl }

pub line_told : {text rest : List ℕ} {line : Line} {lines : List Line} → IsLine text line → LinesAreTold rest lines → LinesAreTold (text ++ (10 ∷ rest)) (line ∷ lines)
line_told {text} {rest} {line} {lines} is more = record {
  size = omega (arith, length-append text (10 ∷ rest), is.size, more.size);
  reads = λ source number at stands.
      let behind : drop (at + (length text + 1)) source ≡ rest = sym (drop-drop (length text + 1) at source) ∙ ap (drop (length text + 1)) stands ∙ sym (drop-drop 1 (length text) (text ++ (10 ∷ rest))) ∙ ap (drop 1) (drop_at text (10 ∷ rest) (length text) refl) in
      rw (first_line text rest is.allowed, is.reads source (10 ∷ rest) number at stands, more.reads source (number + 1) (at + (length text + 1)) behind);
}
