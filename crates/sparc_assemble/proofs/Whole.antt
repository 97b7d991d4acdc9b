-- The answers of the three passes are those of a source.
use Rattle.std.proofs.Common.{◌≡◌, ◌≢◌, false, ℕ, ◌==◌, List, map, Option, Some, None, Result, Ok, Err, refl, sym, ap, ◌∙◌, arith}
use Rattle.std.proofs.lemmas.Bool.Decides.{nat_tests}
use Rattle.sparc_asm.specs.declared.faults.AsmErr.{AsmErr}
use Rattle.sparc_asm.specs.declared.faults.AsmErr.TheVariants.{Syntax, UnknownName, Redefined, Range, Unaligned, Overlap, NoMemory}
use Rattle.sparc_asm.specs.declared.statements.Line.{Line}
use Rattle.sparc_asm.specs.Sources.{read_source, AnswersLines}
use Rattle.sparc_place.specs.declared.cursors.Position.{Position}
use Rattle.sparc_place.specs.Places.{Layout, nothing_laid, places, places_of}
use Rattle.sparc_assemble.specs.declared.assembling.Assembled.{Assembled}
use Rattle.sparc_assemble.specs.Assembly.{Filled, nothing_filled, values_fault, all_filled, parts_of, whole_of, after_values, after_places, after_lines, assembled, Answers}
use Rattle.sparc_assemble.specs.Fillings.{FillsAll}

-- an error that isn't want of memory is the wanted one
answers_err : (wanted : Result Assembled AsmErr) (e : AsmErr) → (e ≢ NoMemory → wanted ≡ Err e) → Answers wanted (Err e)
answers_err wanted (Syntax n) h = h (λ is. cc)
answers_err wanted (UnknownName n) h = h (λ is. cc)
answers_err wanted (Redefined n) h = h (λ is. cc)
answers_err wanted (Range n) h = h (λ is. cc)
answers_err wanted (Unaligned n) h = h (λ is. cc)
answers_err wanted (Overlap n) h = h (λ is. cc)
answers_err wanted NoMemory h = tt

lines_err : (wanted : Result (List Line) AsmErr) (e : AsmErr) → AnswersLines wanted (Err e) → e ≢ NoMemory → wanted ≡ Err e
lines_err wanted (Syntax n) h not = h
lines_err wanted (UnknownName n) h not = h
lines_err wanted (Redefined n) h not = h
lines_err wanted (Range n) h not = h
lines_err wanted (Unaligned n) h not = h
lines_err wanted (Overlap n) h not = h
lines_err wanted NoMemory h not = absurd (not refl)

fills_err : (found : Option AsmErr) (wanted : Filled) (e : AsmErr) → FillsAll found wanted (Err e) → e ≢ NoMemory → found ≡ Some e
fills_err found wanted (Syntax n) h not = h
fills_err found wanted (UnknownName n) h not = h
fills_err found wanted (Redefined n) h not = h
fills_err found wanted (Range n) h not = h
fills_err found wanted (Unaligned n) h not = h
fills_err found wanted (Overlap n) h not = h
fills_err found wanted NoMemory h not = absurd (not refl)

-- what is left behind the second pass
behind_lines : (text : List ℕ) (lines : List Line) → read_source text ≡ Ok lines → assembled text ≡ after_places (places_of nothing_laid lines) lines (places 1 nothing_laid lines)
unfolding assembled
behind_lines text lines is = ap after_lines is

-- what is left behind the second pass, by what it has laid down
behind_places : (text : List ℕ) (lines : List Line) (l : Layout) (ps : List Position) → read_source text ≡ Ok lines → places 1 nothing_laid lines ≡ Ok l → ps ≡ places_of nothing_laid lines → assembled text ≡ after_values (values_fault l.names l.code 1 ps lines) (whole_of l (all_filled l.names 1 ps lines nothing_filled))
behind_places text lines l ps is laid placed = behind_lines text lines is ∙ ap (after_places (places_of nothing_laid lines) lines) laid ∙ ap (λ qs. after_values (values_fault l.names l.code 1 qs lines) (whole_of l (all_filled l.names 1 qs lines nothing_filled))) (sym placed)

-- what is left behind the third pass
behind_values : (text : List ℕ) (lines : List Line) (l : Layout) (ps : List Position) (f : Filled) → read_source text ≡ Ok lines → places 1 nothing_laid lines ≡ Ok l → ps ≡ places_of nothing_laid lines → values_fault l.names l.code 1 ps lines ≡ None → f ≡ all_filled l.names 1 ps lines nothing_filled → assembled text ≡ whole_of l f
behind_values text lines l ps f is laid placed none filled = behind_places text lines l ps is laid placed ∙ ap (λ fault. after_values fault (whole_of l (all_filled l.names 1 ps lines nothing_filled))) none ∙ ap (whole_of l) (sym filled)

pub no_word : (text : List ℕ) (lines : List Line) (l : Layout) (ps : List Position) (f : Filled) → read_source text ≡ Ok lines → places 1 nothing_laid lines ≡ Ok l → ps ≡ places_of nothing_laid lines → values_fault l.names l.code 1 ps lines ≡ None → f ≡ all_filled l.names 1 ps lines nothing_filled → l.code ≡ 0 → assembled text ≡ Err (Range 0)
no_word text lines l ps f is laid placed none filled empty = behind_values text lines l ps f is laid placed none filled ∙ rw empty refl

pub whole : (text : List ℕ) (lines : List Line) (l : Layout) (ps : List Position) (f : Filled) (a : Assembled) → read_source text ≡ Ok lines → places 1 nothing_laid lines ≡ Ok l → ps ≡ places_of nothing_laid lines → values_fault l.names l.code 1 ps lines ≡ None → f ≡ all_filled l.names 1 ps lines nothing_filled → l.code ≢ 0 → a.image ≡ parts_of l f → a.lines ≡ map (λ w. w.1) f.words → assembled text ≡ Ok a
whole text lines l ps f a is laid placed none filled some image numbers =
    let test : (l.code == 0) ≡ false = grind (arith, nat_tests) in
    behind_values text lines l ps f is laid placed none filled ∙ rw (test, sym image, sym numbers) refl
