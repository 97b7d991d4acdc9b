-- The statement of a code word is read as the statement that it is written as.
use Rattle.std.proofs.Common.{◌≡◌, true, false, Bool, ℕ, ◌+◌, ◌*◌, ◌^◌, ◌<◌, ◌==◌, ◌&&◌, cond, List, [], ◌∷◌, ◌++◌, Option, Some, None, refl, sym, ap, subst, ◌∙◌, arith}
use Rattle.std.specs.Prelude.{codes, nat_lt, IfSome}
use Rattle.std.specs.Fmt.{decimal}
use Rattle.std.proofs.lemmas.Bool.{eqb-true, lt-ltb}
use Rattle.alw_text.specs.Numbers.{hex_word}
use Rattle.sparc_table.specs.Table.{instr_of, FitsOperand, Fits}
use Rattle.sparc_table.specs.Control.{call_target, branch_target}
use Rattle.sparc_table.specs.declared.instructions.Operand.{Operand}
use Rattle.sparc_table.specs.declared.instructions.Operand.TheVariants.{Reg, Imm}
use Rattle.sparc_table.specs.declared.instructions.Instr.{Instr}
use Rattle.sparc_table.specs.declared.instructions.Instr.TheVariants as instr
use Rattle.sparc_table.proofs.Rows.{table_fits}
use Rattle.sparc_asm.specs.declared.lexemes.Lexeme.{Lexeme}
use Rattle.sparc_asm.specs.declared.lexemes.Lexeme.TheVariants as lexeme
use Rattle.sparc_asm.specs.declared.mnemonics.Form.TheVariants as form
use Rattle.sparc_asm.specs.declared.statements.Source.TheVariants as source
use Rattle.sparc_asm.specs.declared.statements.Statement.{Statement}
use Rattle.sparc_asm.specs.declared.statements.Statement.TheVariants as statement
use Rattle.sparc_asm.specs.Mnemonics.{form_of, directive_of}
use Rattle.sparc_asm.specs.Expressions.{address_at}
use Rattle.sparc_asm.specs.Statements.{statement_of, spelled_line}
use Rattle.sparc_text.specs.Statements.{arithmetic_name, shift_name, access_name, condition_name, is_store, register_text, operand_text, address_text, trap_text, three_text, call_text, high_text, sethi_text, annul_text, branch_text, bracketed, access_text, plain_text, is_writable, data_text, instr_text, statement_text}
use Rattle.law_sources.specs.Parsed.{number, operand_read, instr_read, word_read, by_instr, statement_read, line_of}
use Rattle.law_sources.proofs.Pieces.{Stops, Piece, Front, joined, behind, whole, name}
use Rattle.law_sources.proofs.Figures.{decimal_piece, hex_front, percent_piece, register_piece}
use Rattle.law_sources.proofs.Named.{IsNamed, named_piece, arithmetic_named, shift_named, access_form, access_named, branch_named, trap_named}
use Rattle.law_sources.proofs.Operands.{comma, blank, opened, closed, at_most, operand_says, operand_piece, each_operand, offset_says, address_says, address_piece, each_offset, wider, three_says, three_piece}

-- a text that is read as a statement
pub record IsSaid (text : List ℕ) (s : Statement) : Type 0 where
  pub says : List Lexeme
  pub piece : Piece text says 50
  pub spelled : spelled_line says ≡ Some (line_of s)

-- ---- three operands

arithmetic_said : (op3 rd rs1 : ℕ) (o : Operand) → Fits (instr.Arith op3 rd rs1 o) → IsSaid (arithmetic_name op3 ++ (codes " " ++ three_text rs1 o rd)) (statement.Arith op3 rs1 (operand_read o) rd)
unfolding statement_of
arithmetic_said op3 rd rs1 o fits =
    let named = arithmetic_named op3 fits.0 in
    record {
      says = lexeme.Name (arithmetic_name op3) ∷ three_says rs1 o rd;
      piece = at_most 50 (omega arith) (joined (named_piece (arithmetic_name op3) (form.Arith op3) named) (behind blank (three_piece rs1 o rd fits.2 fits.3 fits.1)) (λ rest ends. (refl, refl, refl, refl)));
      spelled = each_operand (λ ls s. spelled_line (lexeme.Name (arithmetic_name op3) ∷ lexeme.Register rs1 ∷ lexeme.Comma ∷ (ls ++ (lexeme.Comma ∷ lexeme.Register rd ∷ []))) ≡ Some (line_of (statement.Arith op3 rs1 s rd)))
          (λ r. rw named.found) (λ n. rw named.found) (λ n. rw named.found) o;
    }

shift_said : (op3 rd rs1 : ℕ) (o : Operand) → Fits (instr.Shift op3 rd rs1 o) → IsSaid (shift_name op3 ++ (codes " " ++ three_text rs1 o rd)) (statement.Shift op3 rs1 (operand_read o) rd)
unfolding statement_of
shift_said op3 rd rs1 o fits =
    let named = shift_named op3 fits.0 in
    record {
      says = lexeme.Name (shift_name op3) ∷ three_says rs1 o rd;
      piece = at_most 50 (omega arith) (joined (named_piece (shift_name op3) (form.Shift op3) named) (behind blank (three_piece rs1 o rd fits.2 (wider 5 o (omega arith) fits.3) fits.1)) (λ rest ends. (refl, refl, refl, refl)));
      spelled = each_operand (λ ls s. spelled_line (lexeme.Name (shift_name op3) ∷ lexeme.Register rs1 ∷ lexeme.Comma ∷ (ls ++ (lexeme.Comma ∷ lexeme.Register rd ∷ []))) ≡ Some (line_of (statement.Shift op3 rs1 s rd)))
          (λ r. rw named.found) (λ n. rw named.found) (λ n. rw named.found) o;
    }

read_y_front : Front (codes "rd %y,") (lexeme.Name (codes "rd") ∷ lexeme.Y ∷ lexeme.Comma ∷ []) 6
read_y_front = record { plain = refl; size = omega arith; reads = λ rest more said. rw said }

read_y_said : (rd : ℕ) → rd < 32 → IsSaid (codes "rd %y," ++ register_text rd) (statement.ReadY rd)
unfolding form_of statement_of
read_y_said rd small = record {
  says = lexeme.Name (codes "rd") ∷ lexeme.Y ∷ lexeme.Comma ∷ lexeme.Register rd ∷ [];
  piece = at_most 50 (omega arith) (behind read_y_front (register_piece rd small));
  spelled = refl;
}

write_front : Front (codes "wr ") (lexeme.Name (codes "wr") ∷ []) 3
write_front = record { plain = refl; size = omega arith; reads = λ rest more said. rw said }

y_piece : Piece (codes "%y") (lexeme.Y ∷ []) 2
y_piece = percent_piece (121 ∷ []) lexeme.Y 2 refl refl (omega arith) (omega arith) refl

write_y_said : (rs1 : ℕ) (o : Operand) → Fits (instr.WriteY rs1 o) → IsSaid (codes "wr " ++ (register_text rs1 ++ (codes "," ++ (operand_text o ++ codes ",%y")))) (statement.WriteY rs1 (operand_read o))
unfolding form_of statement_of
write_y_said rs1 o fits = record {
  says = lexeme.Name (codes "wr") ∷ lexeme.Register rs1 ∷ lexeme.Comma ∷ (operand_says o ++ (lexeme.Comma ∷ lexeme.Y ∷ []));
  piece = at_most 50 (omega arith) (behind write_front (joined (register_piece rs1 fits.0)
      (behind comma (joined (operand_piece o fits.1) (behind comma y_piece) (λ rest ends. (refl, refl, refl, refl)))) (λ rest ends. (refl, refl, refl, refl))));
  spelled = each_operand (λ ls s. spelled_line (lexeme.Name (codes "wr") ∷ lexeme.Register rs1 ∷ lexeme.Comma ∷ (ls ++ (lexeme.Comma ∷ lexeme.Y ∷ []))) ≡ Some (line_of (statement.WriteY rs1 s)))
      (λ r. refl) (λ n. refl) (λ n. refl) o;
}

-- ---- addresses

jump_front : Front (codes "jmpl ") (lexeme.Name (codes "jmpl") ∷ []) 5
jump_front = record { plain = refl; size = omega arith; reads = λ rest more said. rw said }

jump_said : (rd rs1 : ℕ) (o : Operand) → Fits (instr.Jmpl rd rs1 o) → IsSaid (codes "jmpl " ++ (address_text rs1 o ++ (codes "," ++ register_text rd))) (statement.Jmpl (address_at rs1 (operand_read o)) rd)
unfolding form_of statement_of
jump_said rd rs1 o fits = record {
  says = lexeme.Name (codes "jmpl") ∷ lexeme.Register rs1 ∷ (offset_says o ++ (lexeme.Comma ∷ lexeme.Register rd ∷ []));
  piece = at_most 50 (omega arith) (behind jump_front (joined (address_piece rs1 o fits.1 fits.2) (behind comma (register_piece rd fits.0)) (λ rest ends. (refl, refl, refl, refl))));
  spelled = each_offset (λ ls s. spelled_line (lexeme.Name (codes "jmpl") ∷ lexeme.Register rs1 ∷ (ls ++ (lexeme.Comma ∷ lexeme.Register rd ∷ []))) ≡ Some (line_of (statement.Jmpl (address_at rs1 s) rd)))
      refl (λ r. refl) (λ n. refl) (λ n. refl) o;
}

-- an address in brackets
abbrev bracketed_says : ℕ → List Lexeme → List Lexeme
bracketed_says rs1 offset = lexeme.Open ∷ lexeme.Register rs1 ∷ (offset ++ (lexeme.Close ∷ []))

bracketed_piece : (rs1 : ℕ) (o : Operand) → rs1 < 32 → FitsOperand 13 o → Piece (bracketed rs1 o) (bracketed_says rs1 (offset_says o)) 16
unfolding bracketed
bracketed_piece rs1 o small fits = behind opened (joined (address_piece rs1 o small fits) (whole closed) (λ rest ends. (refl, refl, refl, refl)))

access_said : (op3 rd rs1 : ℕ) (o : Operand) → Fits (instr.Memory op3 rd rs1 o) → IsSaid (access_name op3 ++ (codes " " ++ access_text op3 rd rs1 o)) (statement.Memory op3 (address_at rs1 (operand_read o)) rd)
unfolding statement_of
access_said op3 rd rs1 o fits = go (is_store op3) named.found
  where
    named : IsNamed (access_name op3) (access_form op3)
    named = access_named op3 fits.0

    spaced : {text : List ℕ} {says : List Lexeme} {most : ℕ} → Piece text says most → Piece (access_name op3 ++ (codes " " ++ text)) (lexeme.Name (access_name op3) ∷ says) (6 + (1 + most))
    spaced piece = joined (named_piece (access_name op3) (access_form op3) named) (behind blank piece) (λ rest ends. (refl, refl, refl, refl))

    go : (b : Bool) → form_of (access_name op3) ≡ Some (cond b (form.Store op3) (form.Load op3))
        → IsSaid (access_name op3 ++ (codes " " ++ cond b (register_text rd ++ (codes "," ++ bracketed rs1 o)) (bracketed rs1 o ++ (codes "," ++ register_text rd)))) (statement.Memory op3 (address_at rs1 (operand_read o)) rd)
    go true found = record {
      says = lexeme.Name (access_name op3) ∷ lexeme.Register rd ∷ lexeme.Comma ∷ bracketed_says rs1 (offset_says o);
      piece = at_most 50 (omega arith) (spaced (joined (register_piece rd fits.1) (behind comma (bracketed_piece rs1 o fits.2 fits.3)) (λ rest ends. (refl, refl, refl, refl))));
      spelled = each_offset (λ ls s. spelled_line (lexeme.Name (access_name op3) ∷ lexeme.Register rd ∷ lexeme.Comma ∷ bracketed_says rs1 ls) ≡ Some (line_of (statement.Memory op3 (address_at rs1 s) rd)))
          (rw found) (λ r. rw found) (λ n. rw found) (λ n. rw found) o;
    }
    go false found = record {
      says = lexeme.Name (access_name op3) ∷ (bracketed_says rs1 (offset_says o) ++ (lexeme.Comma ∷ lexeme.Register rd ∷ []));
      piece = at_most 50 (omega arith) (spaced (joined (bracketed_piece rs1 o fits.2 fits.3) (behind comma (register_piece rd fits.1)) (λ rest ends. (refl, refl, refl, refl))));
      spelled = each_offset (λ ls s. spelled_line (lexeme.Name (access_name op3) ∷ (bracketed_says rs1 ls ++ (lexeme.Comma ∷ lexeme.Register rd ∷ []))) ≡ Some (line_of (statement.Memory op3 (address_at rs1 s) rd)))
          (rw found) (λ r. rw found) (λ n. rw found) (λ n. rw found) o;
    }

-- ---- traps

trap_address_said : (condition rs1 : ℕ) (o : Operand) → condition < 16 → rs1 < 32 → FitsOperand 7 o → IsSaid (codes "t" ++ (condition_name condition ++ (codes " " ++ address_text rs1 o))) (statement.Trap condition (address_at rs1 (operand_read o)))
unfolding statement_of
trap_address_said condition rs1 o holds small fits =
    let named = trap_named condition holds in
    record {
      says = lexeme.Name (codes "t" ++ condition_name condition) ∷ address_says rs1 o;
      piece = at_most 50 (omega arith) (joined (named_piece (codes "t" ++ condition_name condition) (form.Trap condition) named) (behind blank (address_piece rs1 o small (wider 7 o (omega arith) fits))) (λ rest ends. (refl, refl, refl, refl)));
      spelled = each_offset (λ ls s. spelled_line (lexeme.Name (codes "t" ++ condition_name condition) ∷ lexeme.Register rs1 ∷ ls) ≡ Some (line_of (statement.Trap condition (address_at rs1 s))))
          (rw named.found) (λ r. rw named.found) (λ n. rw named.found) (λ n. rw named.found) o;
    }

trap_number_said : (condition bits : ℕ) → condition < 16 → bits < 128 → IsSaid (codes "t" ++ (condition_name condition ++ (codes " " ++ decimal bits))) (statement.Trap condition (address_at 0 (source.Number (number bits))))
unfolding statement_of
trap_number_said condition bits holds small =
    let named = trap_named condition holds in
    record {
      says = lexeme.Name (codes "t" ++ condition_name condition) ∷ lexeme.Number bits ∷ [];
      piece = at_most 50 (omega arith) (joined (named_piece (codes "t" ++ condition_name condition) (form.Trap condition) named) (behind blank (decimal_piece bits (omega arith))) (λ rest ends. (refl, refl, refl, refl)));
      spelled = rw named.found;
    }

trap_said : (condition rs1 : ℕ) (o : Operand) → Fits (instr.TrapOn condition rs1 o) → IsSaid (codes "t" ++ (condition_name condition ++ (codes " " ++ trap_text rs1 o))) (statement.Trap condition (address_at rs1 (operand_read o)))
trap_said condition rs1 (Reg rs2) fits = trap_address_said condition rs1 (Reg rs2) fits.0 fits.1 fits.2
trap_said condition rs1 (Imm bits) fits = go (rs1 == 0) refl
  where
    positive : nat_lt bits 4096 ≡ true
    positive = lt-ltb _ _ (omega (arith, fits.2))

    number_is : statement.Trap condition (address_at rs1 (operand_read (Imm bits))) ≡ statement.Trap condition (address_at rs1 (source.Number (number bits)))
    number_is = rw positive

    go : (b : Bool) → (rs1 == 0) ≡ b → IsSaid (codes "t" ++ (condition_name condition ++ (codes " " ++ cond b (decimal bits) (address_text rs1 (Imm bits))))) (statement.Trap condition (address_at rs1 (operand_read (Imm bits))))
    go false e = trap_address_said condition rs1 (Imm bits) fits.0 fits.1 fits.2
    go true e =
        let zero_is : rs1 ≡ 0 = eqb-true rs1 0 e in
        let text : List ℕ = codes "t" ++ (condition_name condition ++ (codes " " ++ decimal bits)) in
        subst (λ (s : Statement). IsSaid text s) (sym (number_is ∙ ap (λ (r : ℕ). statement.Trap condition (address_at r (source.Number (number bits)))) zero_is)) (trap_number_said condition bits fits.0 fits.2)

-- ---- targets and high bits

call_front : Front (codes "call ") (lexeme.Name (codes "call") ∷ []) 5
call_front = record { plain = refl; size = omega arith; reads = λ rest more said. rw said }

call_said : (here disp : ℕ) → IsSaid (call_text here disp) (statement.Call (number (call_target here disp)))
unfolding call_text form_of statement_of
call_said here disp = record {
  says = lexeme.Name (codes "call") ∷ lexeme.Number (call_target here disp) ∷ [];
  piece = at_most 50 (omega arith) (behind call_front (whole (hex_front (call_target here disp) (omega arith))));
  spelled = refl;
}

annul_says : Bool → List Lexeme
annul_says annul = cond annul (lexeme.Comma ∷ lexeme.Name (codes "a") ∷ []) []

annul_front : (annul : Bool) → Front (annul_text annul) (annul_says annul) 3
unfolding annul_says
annul_front true = record { plain = refl; size = omega arith; reads = λ rest more said. rw said }
annul_front false = record { plain = refl; size = omega arith; reads = λ rest more said. said }

annul_stops : (annul : Bool) (text rest : List ℕ) → Stops ((annul_text annul ++ text) ++ rest)
annul_stops true text rest = (refl, refl, refl, refl)
annul_stops false text rest = (refl, refl, refl, refl)

branch_spelled : (annul : Bool) (condition n : ℕ) → form_of (codes "b" ++ condition_name condition) ≡ Some (form.Branch condition)
    → spelled_line (lexeme.Name (codes "b" ++ condition_name condition) ∷ (annul_says annul ++ (lexeme.Number n ∷ []))) ≡ Some (line_of (statement.Branch annul condition (number n)))
unfolding annul_says statement_of
branch_spelled true condition n found = rw found
branch_spelled false condition n found = rw found

branch_said : (here : ℕ) (annul : Bool) (condition disp : ℕ) → condition < 16 → IsSaid (branch_text here annul condition disp) (statement.Branch annul condition (number (branch_target here disp)))
unfolding branch_text
branch_said here annul condition disp holds =
    let named = branch_named condition holds in
    record {
      says = lexeme.Name (codes "b" ++ condition_name condition) ∷ (annul_says annul ++ (lexeme.Number (branch_target here disp) ∷ []));
      piece = at_most 50 (omega arith) (joined (named_piece (codes "b" ++ condition_name condition) (form.Branch condition) named)
          (behind (annul_front annul) (whole (hex_front (branch_target here disp) (omega arith)))) (λ rest ends. annul_stops annul (hex_word (branch_target here disp)) rest));
      spelled = branch_spelled annul condition (branch_target here disp) named.found;
    }

high_front : Front (codes "sethi %hi(") (lexeme.Name (codes "sethi") ∷ lexeme.High ∷ lexeme.OpenParen ∷ []) 10
high_front = record { plain = refl; size = omega arith; reads = λ rest more said. rw said }

high_end : Front (codes "),") (lexeme.CloseParen ∷ lexeme.Comma ∷ []) 2
high_end = record { plain = refl; size = omega arith; reads = λ rest more said. rw said }

high_said : (rd imm : ℕ) → rd < 32 → imm < 2 ^ 22 → IsSaid (high_text rd imm) (statement.SethiHigh (number (imm * 1024)) rd)
unfolding high_text form_of statement_of
high_said rd imm small fits = record {
  says = lexeme.Name (codes "sethi") ∷ lexeme.High ∷ lexeme.OpenParen ∷ lexeme.Number (imm * 1024) ∷ lexeme.CloseParen ∷ lexeme.Comma ∷ lexeme.Register rd ∷ [];
  piece = at_most 50 (omega arith) (behind high_front (joined (whole (hex_front (imm * 1024) (omega arith))) (behind high_end (register_piece rd small)) (λ rest ends. (refl, refl, refl, refl))));
  spelled = refl;
}

nop_said : IsSaid (codes "nop") (statement.Sethi (number 0) 0)
unfolding form_of statement_of
nop_said = record { says = lexeme.Name (codes "nop") ∷ []; piece = name (codes "nop") 50 (refl, refl, refl, refl) refl (omega arith); spelled = refl }

sethi_said : (here rd imm : ℕ) → rd < 32 → imm < 2 ^ 22 → IsSaid (sethi_text rd imm) (instr_read here (instr.Sethi rd imm))
sethi_said here rd imm small fits = go ((rd == 0) && (imm == 0))
  where
    go : (b : Bool) → IsSaid (cond b (codes "nop") (high_text rd imm)) (cond b (statement.Sethi (number 0) 0) (statement.SethiHigh (number (imm * 1024)) rd))
    go true = nop_said
    go false = high_said rd imm small fits

-- ---- words

pub word_front : Front (codes ".word ") (lexeme.Directive (codes "word") ∷ []) 6
word_front = record { plain = refl; size = omega arith; reads = λ rest more said. rw said }

word_said : (word : ℕ) → word < 2 ^ 32 → IsSaid (data_text word) (word_read word)
unfolding directive_of statement_of
word_said word small = record {
  says = lexeme.Directive (codes "word") ∷ lexeme.Number word ∷ [];
  piece = at_most 50 (omega arith) (behind word_front (whole (hex_front word small)));
  spelled = refl;
}

plain_said : (here : ℕ) (i : Instr) → Fits i → IsSaid (plain_text here i) (instr_read here i)
plain_said here (instr.Call disp) fits = call_said here disp
plain_said here (instr.Sethi rd imm) fits = sethi_said here rd imm fits.0 fits.1
plain_said here (instr.Branch annul condition disp) fits = branch_said here annul condition disp fits.0
plain_said here (instr.Arith op3 rd rs1 o) fits = arithmetic_said op3 rd rs1 o fits
plain_said here (instr.Shift op3 rd rs1 o) fits = shift_said op3 rd rs1 o fits
plain_said here (instr.ReadY rd) fits = read_y_said rd fits
plain_said here (instr.WriteY rs1 o) fits = write_y_said rs1 o fits
plain_said here (instr.Jmpl rd rs1 o) fits = jump_said rd rs1 o fits
plain_said here (instr.TrapOn condition rs1 o) fits = trap_said condition rs1 o fits
plain_said here (instr.Memory op3 rd rs1 o) fits = access_said op3 rd rs1 o fits

-- a code word's statement, at any address
pub statement_said : (here word : ℕ) → word < 2 ^ 32 → IsSaid (statement_text here word) (statement_read here word)
unfolding statement_text statement_read
statement_said here word small = go (instr_of word) (table_fits word (instr_of word) refl)
  where
    go : (o : Option Instr) → IfSome o (λ i. Fits i) → IsSaid (instr_text here word o) (by_instr here word o)
    go None fits = word_said word small
    go (Some i) fits = written (is_writable here i)
      where
        written : (b : Bool) → IsSaid (cond b (plain_text here i) (data_text word)) (cond b (instr_read here i) (word_read word))
        written true = plain_said here i fits
        written false = word_said word small
