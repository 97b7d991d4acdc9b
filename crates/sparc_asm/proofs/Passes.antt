-- Going through a source line by line.
use Rattle.std.proofs.Common.{◌≡◌, true, false, ℕ, ◌+◌, ◌-◌, ◌<◌, ◌≤◌, List, [], ◌∷◌, ◌++◌, length, take, drop, Some, Result, Ok, Err, refl, sym, ap, ◌∙◌, arith, append_assoc, length-append, ⊎_elim, ltb}
use Rattle.std.specs.List.{position_or_len}
use Rattle.std.proofs.lemmas.Bool.{cases_lt, lt-ltb, le-ltb}
use Rattle.std.proofs.lemmas.List.{append-nil, length-take-le, drop_all}
use Rattle.alw_text.specs.declared.lines.Span.{Span}
use Rattle.alw_text.specs.Lines.{is_line_feed, lines_of, line_end, next_line}
use Rattle.alw_text.proofs.Splits.{lines_of-drop}
use Rattle.sparc_asm.specs.declared.statements.Line.{Line}
use Rattle.sparc_asm.specs.declared.faults.AsmErr.{AsmErr}
use Rattle.sparc_asm.specs.declared.faults.AsmErr.TheVariants.{Syntax, UnknownName, Redefined, Range, Unaligned, Overlap, NoMemory}
use Rattle.sparc_asm.specs.Sources.{read_line, line_before, read_from, read_source, AnswersLines, AnswersOne}

-- behind the last line no place is looked at
same_place : (number : ℕ) (source : List ℕ) (from : ℕ) → from < length source → read_from source number (from + (length (take (line_end source from - from) (drop from source)) + 1)) (lines_of (drop (next_line source from) source)) ≡ read_from source number (next_line source from) (lines_of (drop (next_line source from) source))
same_place number source from l = ⊎_elim here past (cases_lt count (length (drop from source)))
  where
    count : ℕ
    count = position_or_len is_line_feed (drop from source)

    here : count < length (drop from source) → read_from source number (from + (length (take (line_end source from - from) (drop from source)) + 1)) (lines_of (drop (next_line source from) source)) ≡ read_from source number (next_line source from) (lines_of (drop (next_line source from) source))
    here within =
        let found : ltb count (length (drop from source)) ≡ true = lt-ltb _ _ within in
        let distance : from + count - from ≡ count = omega arith in
        let place : from + (count + 1) ≡ from + count + 1 = omega arith in
        let size : length (take count (drop from source)) ≡ count = length-take-le count (drop from source) (omega arith) in
        rw (found, distance, size, place)

    past : length (drop from source) ≤ count → read_from source number (from + (length (take (line_end source from - from) (drop from source)) + 1)) (lines_of (drop (next_line source from) source)) ≡ read_from source number (next_line source from) (lines_of (drop (next_line source from) source))
    past end =
        let none : ltb count (length (drop from source)) ≡ false = le-ltb _ _ end in
        rw (none, drop_all (length source) source (omega arith))

-- the lines from a place on: the first, and those behind it
next_lines : (source : List ℕ) (from number : ℕ) → from < length source → read_from source number from (lines_of (drop from source)) ≡ line_before number (read_line source number from (take (line_end source from - from) (drop from source))) (read_from source (number + 1) (next_line source from) (lines_of (drop (next_line source from) source)))
next_lines source from number l = ap (read_from source number from) (lines_of-drop source from l) ∙ ap (line_before number (read_line source number from (take (line_end source from - from) (drop from source)))) (same_place (number + 1) source from l)

-- lines that were read, before what is still to be read
abbrev pub onto : List Line → Result (List Line) AsmErr → Result (List Line) AsmErr
onto old (Ok lines) = Ok (old ++ lines)
onto old (Err e) = Err e

onto-line : (number : ℕ) (old new : List Line) (line : Line) (behind : Result (List Line) AsmErr) → new ≡ old ++ line ∷ [] → onto old (line_before number (Some line) behind) ≡ onto new behind
onto-line number old new line (Ok lines) pushed = ap Ok (sym (append_assoc old (line ∷ []) lines) ∙ ap (λ front. front ++ lines) (sym pushed))
onto-line number old new line (Err e) pushed = refl

-- the step of a source's loop
pub lines_step : (source : List ℕ) (from number : ℕ) (span : Span) (line : Line) (old new : List Line) (wanted : Result (List Line) AsmErr) → span ≡ record { start = from; end = line_end source from; next = next_line source from } → from < length source → wanted ≡ onto old (read_from source number from (lines_of (drop from source))) → read_line source number span.start (take (span.end - span.start) (drop span.start source)) ≡ Some line → new ≡ old ++ line ∷ [] → wanted ≡ onto new (read_from source (number + 1) span.next (lines_of (drop span.next source)))
lines_step source from number span line old new wanted is some before read pushed =
    let here = rw is at read in
    rw is (before ∙ ap (onto old) (next_lines source from number some ∙ ap (λ l. line_before number l (read_from source (number + 1) (next_line source from) (lines_of (drop (next_line source from) source)))) here) ∙ onto-line number old new line _ pushed)

pub lines_refused : (source : List ℕ) (from number : ℕ) (span : Span) (old : List Line) (wanted : Result (List Line) AsmErr) (e : AsmErr) → span ≡ record { start = from; end = line_end source from; next = next_line source from } → from < length source → wanted ≡ onto old (read_from source number from (lines_of (drop from source))) → AnswersOne number (read_line source number span.start (take (span.end - span.start) (drop span.start source))) (Err e) → AnswersLines wanted (Err e)
lines_refused source from number span old wanted NoMemory is some before answer = tt
lines_refused source from number span old wanted (Syntax n) is some before answer =
    let none = rw is at answer.1 in
    before ∙ ap (onto old) (next_lines source from number some ∙ ap (λ l. line_before number l (read_from source (number + 1) (next_line source from) (lines_of (drop (next_line source from) source)))) none) ∙ ap Err (sym answer.0)
lines_refused source from number span old wanted (UnknownName n) is some before answer = absurd cc
lines_refused source from number span old wanted (Redefined n) is some before answer = absurd cc
lines_refused source from number span old wanted (Range n) is some before answer = absurd cc
lines_refused source from number span old wanted (Unaligned n) is some before answer = absurd cc
lines_refused source from number span old wanted (Overlap n) is some before answer = absurd cc

pub lines_start : (none : List Line) (r : Result (List Line) AsmErr) → none ≡ [] → r ≡ onto none r
lines_start none (Ok lines) e = rw e
lines_start none (Err e') e = refl

-- the same by the number of lines read so far
pub step_counted : (source : List ℕ) (from number : ℕ) (span : Span) (line : Line) (old new : List Line) (wanted : Result (List Line) AsmErr) → number ≡ length old → span ≡ record { start = from; end = line_end source from; next = next_line source from } → from < length source → wanted ≡ onto old (read_from source (length old + 1) from (lines_of (drop from source))) → read_line source (number + 1) span.start (take (span.end - span.start) (drop span.start source)) ≡ Some line → new ≡ old ++ line ∷ [] → wanted ≡ onto new (read_from source (length new + 1) span.next (lines_of (drop span.next source)))
step_counted source from number span line old new wanted count is some before read pushed =
    let longer : length old + 1 + 1 ≡ length new + 1 = omega (arith, ap length pushed, length-append old (line ∷ [])) in
    let here = rw count at read in
    lines_step source from (length old + 1) span line old new wanted is some before here pushed ∙ ap (λ n. onto new (read_from source n span.next (lines_of (drop span.next source)))) longer

pub refused_counted : (source : List ℕ) (from number : ℕ) (span : Span) (old : List Line) (wanted : Result (List Line) AsmErr) (e : AsmErr) → number ≡ length old → span ≡ record { start = from; end = line_end source from; next = next_line source from } → from < length source → wanted ≡ onto old (read_from source (length old + 1) from (lines_of (drop from source))) → AnswersOne (number + 1) (read_line source (number + 1) span.start (take (span.end - span.start) (drop span.start source))) (Err e) → AnswersLines wanted (Err e)
refused_counted source from number span old wanted e count is some before answer = lines_refused source from (number + 1) span old wanted e is some (before ∙ ap (λ n. onto old (read_from source (n + 1) from (lines_of (drop from source)))) (sym count)) answer

pub start_counted : (source : List ℕ) (none : List Line) → none ≡ [] → read_source source ≡ onto none (read_from source (length none + 1) 0 (lines_of source))
unfolding read_source
start_counted source none e = lines_start none (read_from source 1 0 (lines_of source)) e ∙ ap (λ xs. onto none (read_from source (length xs + 1) 0 (lines_of source))) (sym e)

-- no line is left
pub ended_counted : (source : List ℕ) (from : ℕ) (lines : List Line) → length source ≤ from → read_source source ≡ onto lines (read_from source (length lines + 1) from (lines_of (drop from source))) → read_source source ≡ Ok lines
ended_counted source from lines end reads = reads ∙ ap (λ xs. onto lines (read_from source (length lines + 1) from (lines_of xs))) (drop_all from source end) ∙ ap Ok (append-nil lines)
