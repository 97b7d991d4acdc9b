-- Pieces of a line: what their bytes say before what stands behind them.
use Rattle.std.proofs.Common.{◌≡◌, true, false, Bool, ℕ, zero, suc, ◌+◌, ◌-◌, ◌≤◌, ◌==◌, ◌&&◌, not, List, [], ◌∷◌, ◌++◌, length, take, Some, refl, ◌∙◌, arith, append_assoc, length-append}
use Rattle.std.specs.Int.{is_in_range}
use Rattle.std.specs.List.{list_all, prefix_len}
use Rattle.std.proofs.lemmas.List.{take_at}
use Rattle.std.proofs.lemmas.List.Folds.{list_all-append}
use Rattle.sparc_lex.specs.declared.characters.Class.{Class}
use Rattle.sparc_lex.specs.declared.characters.Class.TheVariants.{Blank, Digit, LetterOrDigit, NamePart}
use Rattle.sparc_lex.specs.declared.kinds.TokenKind.{TokenKind}
use Rattle.sparc_lex.specs.declared.kinds.TokenKind.TheVariants.{Word}
use Rattle.sparc_lex.specs.Characters.{is_of, begins_name}
use Rattle.sparc_lex.specs.Cut.{run_of, token_from}
use Rattle.sparc_asm.specs.declared.lexemes.Lexeme.{Lexeme}
use Rattle.sparc_asm.specs.declared.lexemes.Lexeme.TheVariants.{Name}
use Rattle.sparc_asm.specs.Lexemes.{lexeme_of}
use Rattle.law_sources.proofs.Lexed.{lexed}

-- ---- bytes

-- printable, and not the mark of a comment
abbrev pub is_plain : ℕ → Bool
is_plain byte = is_in_range 32 126 byte && not (byte == 33)

abbrev pub IsPlain : List ℕ → Type 0
IsPlain text = list_all is_plain text ≡ true

-- what follows ends a name and a number
abbrev pub Stops : List ℕ → Type 0
Stops [] = Unit {0}
Stops (byte ∷ rest) = (is_of NamePart byte ≡ false) × (is_of LetterOrDigit byte ≡ false) × (is_of Digit byte ≡ false) × ((byte == 120) ≡ false)

-- ---- pieces

-- a text that says this before what ends names and numbers
pub record Piece (text : List ℕ) (says : List Lexeme) (most : ℕ) : Type 0 where
  pub plain : IsPlain text
  pub size : length text ≤ most
  pub reads : (rest : List ℕ) (more : List Lexeme) → Stops rest → lexed 0 rest ≡ Some more → lexed 0 (text ++ rest) ≡ Some (says ++ more)

-- a text that says this before anything
pub record Front (text : List ℕ) (says : List Lexeme) (most : ℕ) : Type 0 where
  pub plain : IsPlain text
  pub size : length text ≤ most
  pub reads : (rest : List ℕ) (more : List Lexeme) → lexed 0 rest ≡ Some more → lexed 0 (text ++ rest) ≡ Some (says ++ more)

both_plain : (a b : List ℕ) → IsPlain a → IsPlain b → IsPlain (a ++ b)
both_plain a b p q = list_all-append is_plain a b ∙ rw (p, q)

both_said : (a b rest : List ℕ) (says more last : List Lexeme) → lexed 0 (a ++ (b ++ rest)) ≡ Some (says ++ (more ++ last)) → lexed 0 ((a ++ b) ++ rest) ≡ Some ((says ++ more) ++ last)
both_said a b rest says more last e = rw (append_assoc a b rest, append_assoc says more last) e

pub joined : {a b : List ℕ} {says more : List Lexeme} {most least : ℕ} → Piece a says most → Piece b more least → ((rest : List ℕ) → Stops rest → Stops (b ++ rest)) → Piece (a ++ b) (says ++ more) (most + least)
joined {a} {b} {says} {more} first second stops = record {
  plain = both_plain a b first.plain second.plain;
  size = omega (arith, length-append a b, first.size, second.size);
  reads = λ rest last ends read. both_said a b rest says more last (first.reads (b ++ rest) (more ++ last) (stops rest ends) (second.reads rest last ends read));
}

pub behind : {a b : List ℕ} {says more : List Lexeme} {most least : ℕ} → Front a says most → Piece b more least → Piece (a ++ b) (says ++ more) (most + least)
behind {a} {b} {says} {more} first second = record {
  plain = both_plain a b first.plain second.plain;
  size = omega (arith, length-append a b, first.size, second.size);
  reads = λ rest last ends read. both_said a b rest says more last (first.reads (b ++ rest) (more ++ last) (second.reads rest last ends read));
}

pub whole : {a : List ℕ} {says : List Lexeme} {most : ℕ} → Front a says most → Piece a says most
whole first = record { plain = first.plain; size = first.size; reads = λ rest more ends read. first.reads rest more read }

pub nothing : Piece [] [] 0
nothing = record { plain = refl; size = omega arith; reads = λ rest more ends read. read }

-- ---- tokens

-- bytes of a class at the front, and those behind them
pub run_over : (class : Class) (text rest : List ℕ) → list_all (is_of class) text ≡ true → run_of class (text ++ rest) ≡ length text + run_of class rest
run_over class [] rest all = omega arith
run_over class (byte ∷ text) rest all = go (is_of class byte) refl all (run_over class text rest)
  where
    go : (b : Bool) → is_of class byte ≡ b → (b && list_all (is_of class) text) ≡ true → (list_all (is_of class) text ≡ true → run_of class (text ++ rest) ≡ length text + run_of class rest) → run_of class (byte ∷ (text ++ rest)) ≡ suc (length text) + run_of class rest
    go true e rest more = rw e (omega (arith, more rest))
    go false e rest more = absurd cc

pub run_is : (class : Class) (text rest : List ℕ) → list_all (is_of class) text ≡ true → prefix_len (is_of class) rest ≡ 0 → run_of class (text ++ rest) ≡ length text
run_is class text rest all ends = omega (arith, run_over class text rest all)

pub skipped : (count : ℕ) (text rest : List ℕ) → count ≡ length text → lexed count (text ++ rest) ≡ lexed 0 rest
skipped zero [] rest e = refl
skipped zero (byte ∷ text) rest e = absurd (omega arith)
skipped (suc count) [] rest e = absurd (omega arith)
skipped (suc count) (byte ∷ text) rest e = skipped count text rest (omega arith)

-- a token with all bytes of a text
pub token : (first : ℕ) (text rest : List ℕ) (kind : TokenKind) (count : ℕ) (lexeme : Lexeme) (more : List Lexeme) → is_of Blank first ≡ false → token_from first (text ++ rest) ≡ Some (kind, count) → count ≡ 1 + length text
    → lexeme_of kind (first ∷ text) ≡ Some lexeme → lexed 0 rest ≡ Some more → lexed 0 ((first ∷ text) ++ rest) ≡ Some (lexeme ∷ more)
token first text rest kind count lexeme more solid is size says read =
    let all : take count (first ∷ (text ++ rest)) ≡ first ∷ text = take_at (first ∷ text) rest count (omega arith) in
    let left : lexed (count - 1) (text ++ rest) ≡ lexed 0 rest = skipped (count - 1) text rest (omega arith) in
    rw (solid, is, all, says, left, read)

-- ---- names

abbrev pub IsName : List ℕ → Type 0
IsName [] = ⊥
IsName (first ∷ rest) = (is_of Blank first ≡ false) × (begins_name first ≡ true) × ((first == 46) ≡ false) × (list_all (is_of NamePart) rest ≡ true)

name_ends : (rest : List ℕ) → Stops rest → prefix_len (is_of NamePart) rest ≡ 0
name_ends [] ends = refl
name_ends (byte ∷ rest) ends = rw ends.0

pub name : (text : List ℕ) (most : ℕ) → IsName text → IsPlain text → length text ≤ most → Piece text (Name text ∷ []) most
name [] most is plain size = absurd is
name (first ∷ text) most is plain size = record {
  plain = plain;
  size = size;
  reads = λ rest more ends read.
      let run : run_of NamePart (text ++ rest) ≡ length text = run_is NamePart text rest is.3 (name_ends rest ends) in
      token first text rest Word (1 + length text) (Name (first ∷ text)) more is.0 (rw (is.1, run)) refl (rw is.2) read;
}
