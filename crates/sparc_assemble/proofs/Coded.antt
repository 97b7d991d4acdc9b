-- Coded instructions within the table, and statements that fill in nothing but them.
use Rattle.std.proofs.Common.{◌≡◌, ℕ, List, Result, Ok, Err, subst, sym, refl, ◌∙◌}
use Rattle.alw_num.specs.declared.addresses.Width.{Width}
use Rattle.sparc_table.specs.declared.instructions.Instr.{Instr}
use Rattle.sparc_table.specs.Table.{Fits}
use Rattle.sparc_asm.specs.declared.encoding.Coded.{Coded}
use Rattle.sparc_asm.specs.declared.encoding.Coded.TheVariants.{One, Two}
use Rattle.sparc_asm.specs.declared.statements.Signed.{Signed}
use Rattle.sparc_asm.specs.declared.statements.Statement.{Statement}
use Rattle.sparc_asm.specs.declared.statements.Statement.TheVariants as statement
use Rattle.sparc_asm.specs.Words.{coded_words}
use Rattle.sparc_place.specs.declared.cursors.Position.{Position}
use Rattle.sparc_asm.specs.Encoding.{coded}
use Rattle.sparc_asm.specs.Ranges.{StatementFits}
use Rattle.sparc_asm.proofs.CodedRanges.{Holds, CodedFits, coded_fits}
use Rattle.sparc_assemble.specs.declared.refusals.Refusal.{Refusal}
use Rattle.sparc_assemble.specs.declared.refusals.Refusal.TheVariants as refusal
use Rattle.sparc_assemble.specs.Assembly.{Names, Filled, coded_fault, value_fault, with_code, filled}
use Rattle.sparc_assemble.specs.Fillings.{FillsCode, Fills}

pub found_fits : (names : Names) (here : ℕ) (s : Statement) (found : Coded) → StatementFits s → Ok found ≡ coded names here s → CodedFits found
found_fits names here s found fits e = subst (Holds CodedFits) (sym e) (coded_fits names here s fits)

pub one_fits : (names : Names) (here : ℕ) (s : Statement) (first : Instr) (found : Coded) → StatementFits s → Ok found ≡ coded names here s → found ≡ One first → Fits first
one_fits names here s first found fits e is = subst CodedFits is (found_fits names here s found fits e)

pub two_fit : (names : Names) (here : ℕ) (s : Statement) (first second : Instr) (found : Coded) → StatementFits s → Ok found ≡ coded names here s → found ≡ Two first second → Fits first × Fits second
two_fit names here s first second found fits e is = subst CodedFits is (found_fits names here s found fits e)

by_result : (names : Names) (count number : ℕ) (p : Position) (s : Statement) (before after : Filled) (result : Result (Unit {0}) Refusal) → value_fault names count p s ≡ coded_fault (coded names p.here s) → filled names number p s before ≡ with_code number (coded_words (coded names p.here s)) before → FillsCode (coded names p.here s) number before after result → Fills names count number p s before after result
by_result names count number p s before after (Err refusal.NoMemory) same alike h = tt
by_result names count number p s before after (Err (refusal.Fault fault)) same alike h = same ∙ h
by_result names count number p s before after (Ok done) same alike h = (same ∙ h.0, h.1 ∙ sym alike)

-- a statement that is neither data nor a start
pub otherwise : (names : Names) (count number : ℕ) (p : Position) (s : Statement) (before after : Filled) (result : Result (Unit {0}) Refusal) → ((width : Width) (values : List (List Signed)) → s ≡ statement.Data width values → ⊥) → ((node slot address : List Signed) → s ≡ statement.Start node slot address → ⊥) → FillsCode (coded names p.here s) number before after result → Fills names count number p s before after result
otherwise names count number p (statement.Arith op3 rs1 o rd) before after result other begins h = by_result names count number p (statement.Arith op3 rs1 o rd) before after result refl refl h
otherwise names count number p (statement.Shift op3 rs1 o rd) before after result other begins h = by_result names count number p (statement.Shift op3 rs1 o rd) before after result refl refl h
otherwise names count number p (statement.ReadY rd) before after result other begins h = by_result names count number p (statement.ReadY rd) before after result refl refl h
otherwise names count number p (statement.WriteY rs1 o) before after result other begins h = by_result names count number p (statement.WriteY rs1 o) before after result refl refl h
otherwise names count number p (statement.Jmpl address rd) before after result other begins h = by_result names count number p (statement.Jmpl address rd) before after result refl refl h
otherwise names count number p (statement.Call target) before after result other begins h = by_result names count number p (statement.Call target) before after result refl refl h
otherwise names count number p (statement.Branch annul condition target) before after result other begins h = by_result names count number p (statement.Branch annul condition target) before after result refl refl h
otherwise names count number p (statement.Trap condition address) before after result other begins h = by_result names count number p (statement.Trap condition address) before after result refl refl h
otherwise names count number p (statement.Sethi value rd) before after result other begins h = by_result names count number p (statement.Sethi value rd) before after result refl refl h
otherwise names count number p (statement.SethiHigh value rd) before after result other begins h = by_result names count number p (statement.SethiHigh value rd) before after result refl refl h
otherwise names count number p (statement.Memory op3 address rd) before after result other begins h = by_result names count number p (statement.Memory op3 address rd) before after result refl refl h
otherwise names count number p (statement.Set value rd) before after result other begins h = by_result names count number p (statement.Set value rd) before after result refl refl h
otherwise names count number p (statement.Mesh width height) before after result other begins h = by_result names count number p (statement.Mesh width height) before after result refl refl h
otherwise names count number p (statement.Contexts n) before after result other begins h = by_result names count number p (statement.Contexts n) before after result refl refl h
otherwise names count number p (statement.Lines n) before after result other begins h = by_result names count number p (statement.Lines n) before after result refl refl h
otherwise names count number p statement.Text before after result other begins h = by_result names count number p statement.Text before after result refl refl h
otherwise names count number p (statement.Shared offset) before after result other begins h = by_result names count number p (statement.Shared offset) before after result refl refl h
otherwise names count number p (statement.Data width values) before after result other begins h = absurd (other width values refl)
otherwise names count number p (statement.Skip n) before after result other begins h = by_result names count number p (statement.Skip n) before after result refl refl h
otherwise names count number p (statement.Align unit) before after result other begins h = by_result names count number p (statement.Align unit) before after result refl refl h
otherwise names count number p (statement.Equ name value) before after result other begins h = by_result names count number p (statement.Equ name value) before after result refl refl h
otherwise names count number p (statement.Start node slot address) before after result other begins h = absurd (begins node slot address refl)
otherwise names count number p (statement.Always line) before after result other begins h = by_result names count number p (statement.Always line) before after result refl refl h
