-- Operands and addresses of a statement: what their texts say, and which operand that is.
use Rattle.std.proofs.Common.{◌≡◌, true, false, Bool, ℕ, ◌-◌, ◌^◌, ◌<◌, ◌≤◌, ◌==◌, cond, List, [], ◌∷◌, ◌++◌, refl, sym, subst, arith}
use Rattle.std.specs.Prelude.{codes, nat_lt}
use Rattle.std.specs.Fmt.{decimal}
use Rattle.std.proofs.lemmas.Bool.{eqb-true}
use Rattle.sparc_table.specs.Table.{FitsOperand}
use Rattle.sparc_table.specs.declared.instructions.Operand.{Operand}
use Rattle.sparc_table.specs.declared.instructions.Operand.TheVariants.{Reg, Imm}
use Rattle.sparc_asm.specs.declared.lexemes.Lexeme.{Lexeme}
use Rattle.sparc_asm.specs.declared.lexemes.Lexeme.TheVariants as lexeme
use Rattle.sparc_asm.specs.declared.statements.Source.{Source}
use Rattle.sparc_asm.specs.declared.statements.Source.TheVariants as source
use Rattle.sparc_text.specs.Statements.{register_text, operand_text, offset_text, address_text, three_text}
use Rattle.law_sources.specs.Parsed.{number, less, operand_read}
use Rattle.law_sources.proofs.Pieces.{Stops, Piece, Front, joined, behind, nothing}
use Rattle.law_sources.proofs.Figures.{decimal_piece, register_piece}

-- ---- marks

pub comma : Front (codes ",") (lexeme.Comma ∷ []) 1
comma = record { plain = refl; size = omega arith; reads = λ rest more said. rw said }

pub plus : Front (codes "+") (lexeme.Plus ∷ []) 1
plus = record { plain = refl; size = omega arith; reads = λ rest more said. rw said }

pub minus : Front (codes "-") (lexeme.Minus ∷ []) 1
minus = record { plain = refl; size = omega arith; reads = λ rest more said. rw said }

pub blank : Front (codes " ") [] 1
blank = record { plain = refl; size = omega arith; reads = λ rest more said. said }

pub opened : Front (codes "[") (lexeme.Open ∷ []) 1
opened = record { plain = refl; size = omega arith; reads = λ rest more said. rw said }

pub closed : Front (codes "]") (lexeme.Close ∷ []) 1
closed = record { plain = refl; size = omega arith; reads = λ rest more said. rw said }

pub at_most : {text : List ℕ} {says : List Lexeme} {most : ℕ} (more : ℕ) → most ≤ more → Piece text says most → Piece text says more
at_most more l piece = record { plain = piece.plain; size = omega (arith, piece.size); reads = piece.reads }

-- ---- operands

-- what an operand's text says
abbrev pub operand_says : Operand → List Lexeme
operand_says (Reg rs2) = lexeme.Register rs2 ∷ []
operand_says (Imm bits) = cond (nat_lt bits 4096) (lexeme.Number bits ∷ []) (lexeme.Minus ∷ lexeme.Number (8192 - bits) ∷ [])

pub operand_piece : (o : Operand) → FitsOperand 13 o → Piece (operand_text o) (operand_says o) 11
operand_piece (Reg rs2) fits = at_most 11 (omega arith) (register_piece rs2 fits)
operand_piece (Imm bits) fits = go (nat_lt bits 4096)
  where
    go : (b : Bool) → Piece (cond b (decimal bits) (codes "-" ++ decimal (8192 - bits))) (cond b (lexeme.Number bits ∷ []) (lexeme.Minus ∷ lexeme.Number (8192 - bits) ∷ [])) 11
    go true = at_most 11 (omega arith) (decimal_piece bits (omega arith))
    go false = behind minus (decimal_piece (8192 - bits) (omega arith))

-- what holds of each form of an operand
pub each_operand : (P : List Lexeme → Source → Type 0) → ((r : ℕ) → P (lexeme.Register r ∷ []) (source.Register r)) → ((n : ℕ) → P (lexeme.Number n ∷ []) (source.Number (number n)))
    → ((n : ℕ) → P (lexeme.Minus ∷ lexeme.Number n ∷ []) (source.Number (less n))) → (o : Operand) → P (operand_says o) (operand_read o)
each_operand P register positive negative (Reg rs2) = register rs2
each_operand P register positive negative (Imm bits) = go (nat_lt bits 4096)
  where
    go : (b : Bool) → P (cond b (lexeme.Number bits ∷ []) (lexeme.Minus ∷ lexeme.Number (8192 - bits) ∷ [])) (source.Number (cond b (number bits) (less (8192 - bits))))
    go true = positive bits
    go false = negative (8192 - bits)

-- ---- addresses

abbrev pub offset_says : Operand → List Lexeme
offset_says (Reg rs2) = cond (rs2 == 0) [] (lexeme.Plus ∷ lexeme.Register rs2 ∷ [])
offset_says (Imm bits) = cond (nat_lt bits 4096) (lexeme.Plus ∷ lexeme.Number bits ∷ []) (lexeme.Minus ∷ lexeme.Number (8192 - bits) ∷ [])

offset_piece : (o : Operand) → FitsOperand 13 o → Piece (offset_text o) (offset_says o) 11
offset_piece (Reg rs2) fits = go (rs2 == 0)
  where
    go : (b : Bool) → Piece (cond b [] (codes "+" ++ register_text rs2)) (cond b [] (lexeme.Plus ∷ lexeme.Register rs2 ∷ [])) 11
    go true = at_most 11 (omega arith) nothing
    go false = at_most 11 (omega arith) (behind plus (register_piece rs2 fits))
offset_piece (Imm bits) fits = go (nat_lt bits 4096)
  where
    go : (b : Bool) → Piece (cond b (codes "+" ++ decimal bits) (codes "-" ++ decimal (8192 - bits))) (cond b (lexeme.Plus ∷ lexeme.Number bits ∷ []) (lexeme.Minus ∷ lexeme.Number (8192 - bits) ∷ [])) 11
    go true = behind plus (decimal_piece bits (omega arith))
    go false = behind minus (decimal_piece (8192 - bits) (omega arith))

offset_stops : (o : Operand) (rest : List ℕ) → Stops rest → Stops (offset_text o ++ rest)
offset_stops (Reg rs2) rest ends = go (rs2 == 0)
  where
    go : (b : Bool) → Stops (cond b [] (codes "+" ++ register_text rs2) ++ rest)
    go true = ends
    go false = (refl, refl, refl, refl)
offset_stops (Imm bits) rest ends = go (nat_lt bits 4096)
  where
    go : (b : Bool) → Stops (cond b (codes "+" ++ decimal bits) (codes "-" ++ decimal (8192 - bits)) ++ rest)
    go true = (refl, refl, refl, refl)
    go false = (refl, refl, refl, refl)

abbrev pub address_says : ℕ → Operand → List Lexeme
address_says rs1 o = lexeme.Register rs1 ∷ offset_says o

pub address_piece : (rs1 : ℕ) (o : Operand) → rs1 < 32 → FitsOperand 13 o → Piece (address_text rs1 o) (address_says rs1 o) 14
address_piece rs1 o small fits = joined (register_piece rs1 small) (offset_piece o fits) (offset_stops o)

-- what holds of each form of an offset
pub each_offset : (P : List Lexeme → Source → Type 0) → P [] (source.Register 0) → ((r : ℕ) → P (lexeme.Plus ∷ lexeme.Register r ∷ []) (source.Register r)) → ((n : ℕ) → P (lexeme.Plus ∷ lexeme.Number n ∷ []) (source.Number (number n)))
    → ((n : ℕ) → P (lexeme.Minus ∷ lexeme.Number n ∷ []) (source.Number (less n))) → (o : Operand) → P (offset_says o) (operand_read o)
each_offset P none register positive negative (Reg rs2) = go (rs2 == 0) refl
  where
    go : (b : Bool) → (rs2 == 0) ≡ b → P (cond b [] (lexeme.Plus ∷ lexeme.Register rs2 ∷ [])) (source.Register rs2)
    go true e = subst (λ (r : ℕ). P [] (source.Register r)) (sym (eqb-true rs2 0 e)) none
    go false e = register rs2
each_offset P none register positive negative (Imm bits) = go (nat_lt bits 4096)
  where
    go : (b : Bool) → P (cond b (lexeme.Plus ∷ lexeme.Number bits ∷ []) (lexeme.Minus ∷ lexeme.Number (8192 - bits) ∷ [])) (source.Number (cond b (number bits) (less (8192 - bits))))
    go true = positive bits
    go false = negative (8192 - bits)

-- fewer bits fit too
pub wider : (width : ℕ) (o : Operand) → 2 ^ width ≤ 8192 → FitsOperand width o → FitsOperand 13 o
wider width (Reg rs2) l fits = fits
wider width (Imm bits) l fits = omega arith

-- ---- three operands

abbrev pub three_says : ℕ → Operand → ℕ → List Lexeme
three_says rs1 o rd = lexeme.Register rs1 ∷ lexeme.Comma ∷ (operand_says o ++ (lexeme.Comma ∷ lexeme.Register rd ∷ []))

pub three_piece : (rs1 : ℕ) (o : Operand) (rd : ℕ) → rs1 < 32 → FitsOperand 13 o → rd < 32 → Piece (three_text rs1 o rd) (three_says rs1 o rd) 19
unfolding three_text
three_piece rs1 o rd first fits last =
    joined (register_piece rs1 first)
    (behind comma (joined (operand_piece o fits) (behind comma (register_piece rd last)) (λ rest ends. (refl, refl, refl, refl))))
    (λ rest ends. (refl, refl, refl, refl))
