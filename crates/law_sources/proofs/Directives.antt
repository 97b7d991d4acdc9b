-- The directives of an image's source are read as the statements that they are written as.
use Rattle.std.proofs.Common.{ℕ, ◌+◌, ◌^◌, ◌<◌, List, [], ◌∷◌, ◌++◌, refl, arith}
use Rattle.std.specs.Prelude.{codes}
use Rattle.std.specs.Fmt.{decimal}
use Rattle.alw_num.specs.declared.addresses.Width.TheVariants as width
use Rattle.alw_text.specs.Numbers.{hex_word}
use Rattle.sparc_asm.specs.declared.lexemes.Lexeme.{Lexeme}
use Rattle.sparc_asm.specs.declared.lexemes.Lexeme.TheVariants as lexeme
use Rattle.sparc_asm.specs.declared.statements.Statement.TheVariants as statement
use Rattle.sparc_asm.specs.Mnemonics.{directive_of}
use Rattle.sparc_asm.specs.Statements.{statement_of}
use Rattle.law_sources.specs.Parsed.{number}
use Rattle.law_sources.proofs.Pieces.{Piece, Front, joined, behind, whole}
use Rattle.law_sources.proofs.Figures.{decimal_piece, hex_front}
use Rattle.law_sources.proofs.Operands.{comma, at_most}
use Rattle.law_sources.proofs.Spelled.{IsSaid, word_front}

-- ---- two numbers

mesh_front : Front (codes ".mesh ") (lexeme.Directive (codes "mesh") ∷ []) 6
mesh_front = record { plain = refl; size = omega arith; reads = λ rest more said. rw said }

pub mesh_said : (columns rows : ℕ) → columns < 2 ^ 32 → rows < 2 ^ 32 → IsSaid (codes ".mesh " ++ (decimal columns ++ (codes "," ++ decimal rows))) (statement.Mesh (number columns) (number rows))
unfolding directive_of statement_of
mesh_said columns rows first last = record {
  says = lexeme.Directive (codes "mesh") ∷ lexeme.Number columns ∷ lexeme.Comma ∷ lexeme.Number rows ∷ [];
  piece = at_most 50 (omega arith) (behind mesh_front (joined (decimal_piece columns first) (behind comma (decimal_piece rows last)) (λ rest ends. (refl, refl, refl, refl))));
  spelled = refl;
}

-- ---- one number

contexts_front : Front (codes ".contexts ") (lexeme.Directive (codes "contexts") ∷ []) 10
contexts_front = record { plain = refl; size = omega arith; reads = λ rest more said. rw said }

pub contexts_said : (n : ℕ) → n < 2 ^ 32 → IsSaid (codes ".contexts " ++ decimal n) (statement.Contexts (number n))
unfolding directive_of statement_of
contexts_said n small = record {
  says = lexeme.Directive (codes "contexts") ∷ lexeme.Number n ∷ [];
  piece = at_most 50 (omega arith) (behind contexts_front (decimal_piece n small));
  spelled = refl;
}

lines_front : Front (codes ".lines ") (lexeme.Directive (codes "lines") ∷ []) 7
lines_front = record { plain = refl; size = omega arith; reads = λ rest more said. rw said }

pub lines_said : (n : ℕ) → n < 2 ^ 32 → IsSaid (codes ".lines " ++ decimal n) (statement.Lines (number n))
unfolding directive_of statement_of
lines_said n small = record {
  says = lexeme.Directive (codes "lines") ∷ lexeme.Number n ∷ [];
  piece = at_most 50 (omega arith) (behind lines_front (decimal_piece n small));
  spelled = refl;
}

always_front : Front (codes ".always ") (lexeme.Directive (codes "always") ∷ []) 8
always_front = record { plain = refl; size = omega arith; reads = λ rest more said. rw said }

pub always_said : (n : ℕ) → n < 2 ^ 32 → IsSaid (codes ".always " ++ decimal n) (statement.Always (number n))
unfolding directive_of statement_of
always_said n small = record {
  says = lexeme.Directive (codes "always") ∷ lexeme.Number n ∷ [];
  piece = at_most 50 (omega arith) (behind always_front (decimal_piece n small));
  spelled = refl;
}

shared_front : Front (codes ".shared ") (lexeme.Directive (codes "shared") ∷ []) 8
shared_front = record { plain = refl; size = omega arith; reads = λ rest more said. rw said }

pub shared_said : (n : ℕ) → n < 2 ^ 32 → IsSaid (codes ".shared " ++ decimal n) (statement.Shared (number n))
unfolding directive_of statement_of
shared_said n small = record {
  says = lexeme.Directive (codes "shared") ∷ lexeme.Number n ∷ [];
  piece = at_most 50 (omega arith) (behind shared_front (decimal_piece n small));
  spelled = refl;
}

-- ---- starts and data

start_front : Front (codes ".start ") (lexeme.Directive (codes "start") ∷ []) 7
start_front = record { plain = refl; size = omega arith; reads = λ rest more said. rw said }

pub start_said : (node slot address : ℕ) → node < 2 ^ 32 → slot < 2 ^ 32 → address < 2 ^ 32
    → IsSaid (codes ".start " ++ (decimal node ++ (codes "," ++ (decimal slot ++ (codes "," ++ hex_word address))))) (statement.Start (number node) (number slot) (number address))
unfolding directive_of statement_of
start_said node slot address first second third = record {
  says = lexeme.Directive (codes "start") ∷ lexeme.Number node ∷ lexeme.Comma ∷ lexeme.Number slot ∷ lexeme.Comma ∷ lexeme.Number address ∷ [];
  piece = at_most 50 (omega arith) (behind start_front (joined (decimal_piece node first)
      (behind comma (joined (decimal_piece slot second) (behind comma (whole (hex_front address third))) (λ rest ends. (refl, refl, refl, refl)))) (λ rest ends. (refl, refl, refl, refl))));
  spelled = refl;
}

-- a word, a comma and what stands behind it
next_word : {text : List ℕ} {says : List Lexeme} {most : ℕ} (word : ℕ) → word < 2 ^ 32 → Piece text says most → Piece (hex_word word ++ (codes "," ++ text)) (lexeme.Number word ∷ lexeme.Comma ∷ says) (10 + (1 + most))
next_word word small piece = behind (hex_front word small) (behind comma piece)

pub body_said : (a b c d : ℕ) → a < 2 ^ 32 → b < 2 ^ 32 → c < 2 ^ 32 → d < 2 ^ 32
    → IsSaid (codes ".word " ++ (hex_word a ++ (codes "," ++ (hex_word b ++ (codes "," ++ (hex_word c ++ (codes "," ++ hex_word d))))))) (statement.Data width.Word (number a ∷ number b ∷ number c ∷ number d ∷ []))
unfolding directive_of statement_of
body_said a b c d first second third fourth = record {
  says = lexeme.Directive (codes "word") ∷ lexeme.Number a ∷ lexeme.Comma ∷ lexeme.Number b ∷ lexeme.Comma ∷ lexeme.Number c ∷ lexeme.Comma ∷ lexeme.Number d ∷ [];
  piece = at_most 50 (omega arith) (behind word_front (next_word a first (next_word b second (next_word c third (whole (hex_front d fourth))))));
  spelled = refl;
}
