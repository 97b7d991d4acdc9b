-- Lines in range, and the first that isn't.
use Rattle.std.proofs.Common.{◌≡◌, ℕ, ◌+◌, ◌<◌, ◌≤◌, true, false, Some, None, Result, Ok, Err, IfOk, IfErr, List, ◌++◌, length, map, codes, sym, ap, subst, ◌∙◌, arith}
use Rattle.std.specs.List.{AllByRecursion}
use Rattle.std.proofs.lemmas.Bool.Decides.{nat_tests}
use Rattle.std.proofs.lemmas.List.{length-map}
use Rattle.alw_msg.specs.declared.events.Entry.{Entry}
use Rattle.alw_image.specs.declared.parts.Parts.{Parts}
use Rattle.alw_image.specs.Images.{spelling, node_count}
use Rattle.alw_image.specs.Numbers.{HasWords}
use Rattle.alw_image.specs.Parameters.{Parameters}
use Rattle.alw_image.specs.Faults.{first_unfit, image_fault, image_in}
use Rattle.alw_report.specs.Reports.{params_line}
use Rattle.alw_trace.specs.declared.values.Trace.{Trace}
use Rattle.alw_trace.specs.declared.faults.TextErr.{TextErr}
use Rattle.alw_trace.specs.declared.faults.TextErr.TheVariants.{Syntax, Image, Range, NoMemory}
use Rattle.alw_trace.specs.declared.raw.RawEntry.{RawEntry}
use Rattle.alw_trace.specs.declared.raw.RawTrace.{RawTrace}
use Rattle.alw_trace.specs.Texts.{image_text, entries_text, trace_title, trace_text}
use Rattle.alw_trace.specs.Lines.{TraceLines, trace_lines, behind_image}
use Rattle.alw_trace.specs.Readings.{are_parameters, is_short, fits_entry, tested, trace_tests, EntryIsStamped, HasTraceTypes, ReadsTrace}
use Rattle.alw_trace.specs.Raw.{entry_of, lines_of, IsRangeFault, IsOfTrace, IsImageOf, IsTraceOf, IsNoTrace}
use Rattle.alw_trace.proofs.ReadWords.{words_in}

-- ---- entries

-- entries are in range so far, and the rest is to come
pub record JournalSoFar (nodes sets first : ℕ) (entries rest : List RawEntry) (journal : List Entry) : Type 0 where
  pub same : map entry_of entries ≡ journal ++ map entry_of rest
  pub fits : first_unfit (tested (fits_entry nodes sets) first (map entry_of entries)) ≡ first_unfit
      (tested (fits_entry nodes sets) (first + length journal) (map entry_of rest))
  pub stamped : AllByRecursion (EntryIsStamped nodes sets) journal

-- ---- the lines of a trace

pub params_unfit : (nodes line : ℕ) (lines : TraceLines) → line ≡ behind_image lines.image → are_parameters nodes lines.params ≡ false
    → first_unfit (trace_tests nodes lines) ≡ Some line
unfolding trace_tests
params_unfit nodes line lines here unfit = rw unfit (ap Some (sym here))

pub count_unfit : (nodes line : ℕ) (lines : TraceLines) → line ≡ behind_image lines.image → are_parameters nodes lines.params ≡ true
    → is_short lines.journal ≡ false → first_unfit (trace_tests nodes lines) ≡ Some (line + 1)
unfolding trace_tests
count_unfit nodes line lines here fit long = rw (fit, long) (ap (λ (n : ℕ). Some (n + 1)) (sym here))

pub entry_unfit : (nodes line fault : ℕ) (lines : TraceLines) → line ≡ behind_image lines.image → are_parameters nodes lines.params ≡ true
    → is_short lines.journal ≡ true
    → first_unfit (tested (fits_entry nodes lines.params.sets) (line + 2) lines.journal) ≡ Some fault → first_unfit (trace_tests nodes lines) ≡ Some fault
unfolding trace_tests
entry_unfit nodes line fault lines here fit short is =
    rw (fit, short) (ap (λ (n : ℕ). first_unfit (tested (fits_entry nodes lines.params.sets) (n + 2) lines.journal)) (sym here) ∙ is)

-- ---- readings

of_parts : (text bytes : List ℕ) (params : Parameters) (journal : List Entry) (trace : Trace)
    → text ≡ trace_title ++ (image_text bytes ++ (params_line params ++ (entries_text journal ++ codes "end\n")))
    → bytes ≡ spelling trace.image → trace.params ≡ params → trace.journal ≡ journal → text ≡ trace_text trace
unfolding trace_text
of_parts text bytes params journal trace e image three entries =
    e ∙ ap (λ (b : List ℕ). trace_title ++ (image_text b ++ (params_line params ++ (entries_text journal ++ codes "end\n")))) image
    ∙ ap (λ (p : Parameters). trace_title ++ (image_text (spelling trace.image) ++ (params_line p ++ (entries_text journal ++ codes "end\n")))) (sym three)
    ∙ ap (λ (j : List Entry). trace_title ++ (image_text (spelling trace.image) ++ (params_line trace.params ++ (entries_text j ++ codes "end\n"))))
    (sym entries)

pub accepted : (text : List ℕ) (lines : TraceLines) (trace : Trace) → IsOfTrace text lines → IsTraceOf lines trace → ReadsTrace text (Ok trace)
unfolding trace_lines
accepted text lines trace form is =
    (of_parts text lines.image lines.params lines.journal trace form.text_is is.image.spelled is.params is.journal, is.is_trace)

pub wrong_lines : (text : List ℕ) (lines : TraceLines) (fault : TextErr) → IsOfTrace text lines → IsNoTrace lines fault → ReadsTrace text (Err fault)
wrong_lines text lines (Syntax line) form is = absurd is
wrong_lines text lines (Image f) form is = (lines, record { form = form.form; text_is = form.text_is; image = is })
wrong_lines text lines (Range line) form is = (lines, record { form = form.form; text_is = form.text_is; image = is.0 }, is.1)
wrong_lines text lines NoMemory form is = tt

pub answers : (text : List ℕ) (lines : TraceLines) (result : Result Trace TextErr) → IsOfTrace text lines → IfOk result (IsTraceOf lines)
    → IfErr result (IsNoTrace lines) → ReadsTrace text result
answers text lines (Ok trace) form ok err = accepted text lines trace form ok
answers text lines (Err fault) form ok err = wrong_lines text lines fault form err

-- what was read has its types
pub typed : (text : List ℕ) (lines : TraceLines) (result : Result Trace TextErr) → IsOfTrace text lines → IfOk result (IsTraceOf lines)
    → IfOk result HasTraceTypes
typed text lines (Ok trace) form ok = (subst HasWords (sym ok.image.parts) (words_in lines.image form.form.bytes), ok.short)
typed text lines (Err fault) form ok = tt

-- ---- what is wrong with the lines of a trace

pub no_fault : (bytes other : List ℕ) (image : Parts) → bytes ≡ other → IsImageOf bytes image → image_fault other ≡ None
no_fault bytes other image e is = ap image_fault (sym e) ∙ is.accepted

-- how many nodes its image has
nodes_in : (bytes other : List ℕ) (image : Parts) (nodes : ℕ) → bytes ≡ other → IsImageOf bytes image → nodes ≡ node_count image
    → nodes ≡ node_count (image_in other)
nodes_in bytes other image nodes e is count = count ∙ ap node_count (is.parts ∙ ap image_in e)

pub wrong_params : (bytes : List ℕ) (lines : TraceLines) (image : Parts) (line nodes : ℕ) → bytes ≡ lines.image → IsImageOf bytes image
    → line ≡ behind_image lines.image → nodes ≡ node_count image → are_parameters nodes lines.params ≡ false → IsNoTrace lines (Range line)
wrong_params bytes lines image line nodes e is here count unfit =
    (no_fault bytes lines.image image e is, rw (← nodes_in bytes lines.image image nodes e is count) (params_unfit nodes line lines here unfit))

pub wrong_count : (bytes : List ℕ) (raw : RawTrace) (image : Parts) (line nodes : ℕ) → bytes ≡ raw.image → IsImageOf bytes image
    → line ≡ behind_image raw.image → nodes ≡ node_count image → are_parameters nodes (lines_of raw).params ≡ true
    → 4294967295 < length raw.entries.items → IsNoTrace (lines_of raw) (Range (line + 1))
wrong_count bytes raw image line nodes e is here count fit long =
    let size = length-map raw.entries.items entry_of in
    let many : is_short (map entry_of raw.entries.items) ≡ false = grind (arith, nat_tests) in
    (no_fault bytes raw.image image e is, rw (← nodes_in bytes raw.image image nodes e is count) (count_unfit nodes line (lines_of raw) here fit many))

pub wrong_entry : (bytes : List ℕ) (raw : RawTrace) (image : Parts) (params : Parameters) (line nodes sets : ℕ) (entries : List RawEntry)
    (fault : TextErr) → bytes ≡ raw.image → IsImageOf bytes image
    → line ≡ behind_image raw.image → nodes ≡ node_count image → are_parameters nodes (lines_of raw).params ≡ true
    → length raw.entries.items ≤ 4294967295 → params ≡ (lines_of raw).params → sets ≡ params.sets → entries ≡ raw.entries.items
    → IsRangeFault (λ at. first_unfit (tested (fits_entry nodes sets) (line + 2) (map entry_of entries)) ≡ Some at) fault → IsNoTrace (lines_of raw) fault
wrong_entry bytes raw image params line nodes sets entries fault e is here count fit few three set all = go fault
  where
    size : length (map entry_of raw.entries.items) ≡ length raw.entries.items
    size = length-map raw.entries.items entry_of

    short : is_short (map entry_of raw.entries.items) ≡ true
    short = let count = size in let most = few in grind (arith, nat_tests)

    number : nodes ≡ node_count (image_in raw.image)
    number = nodes_in bytes raw.image image nodes e is count

    lines : TraceLines
    lines = lines_of raw

    sets-is : sets ≡ lines.params.sets
    sets-is = set ∙ ap (λ (p : Parameters). p.sets) three

    go : (fault : TextErr) → IsRangeFault (λ at. first_unfit (tested (fits_entry nodes sets) (line + 2) (map entry_of entries)) ≡ Some at) fault
        → IsNoTrace lines fault
    go (Syntax at) none = none
    go (Image f) none = absurd none
    go (Range at) is_at =
        let there : first_unfit (tested (fits_entry nodes lines.params.sets) (line + 2) lines.journal) ≡ Some at =
        ap (λ (s : ℕ). first_unfit (tested (fits_entry nodes s) (line + 2) lines.journal)) (sym sets-is)
        ∙ ap (λ (es : List RawEntry). first_unfit (tested (fits_entry nodes sets) (line + 2) (map entry_of es))) (sym all) ∙ is_at in
        (no_fault bytes lines.image image e is, rw (← number) (entry_unfit nodes line at lines here fit short there))
    go NoMemory none = tt
