-- A text of a trace has no line at fault, says one thing, and is read as nothing else.
use Rattle.std.proofs.Common.{◌≡◌, ℕ, ◌+◌, ◌<◌, ◌≤◌, true, nat_lt, Some, None, Err, List, [], ◌∷◌, ◌++◌, length, codes, refl, sym, ap, subst, ◌∙◌, arith}
use Rattle.std.specs.Int.{w16, w32, to_be_bytes}
use Rattle.std.specs.List.{flat_map, AllByRecursion}
use Rattle.std.proofs.lemmas.Bool.{and_from}
use Rattle.std.proofs.lemmas.Bool.Decides.{nat_tests}
use Rattle.std.proofs.lemmas.Option.{none-some}
use Rattle.alw_num.specs.declared.addresses.Line.{Line}
use Rattle.alw_num.specs.declared.addresses.LineNo.{LineNo}
use Rattle.alw_num.specs.declared.addresses.NodeNo.{NodeNo}
use Rattle.alw_msg.specs.declared.events.Event.{Event}
use Rattle.alw_msg.specs.declared.events.Event.TheVariants.{Instr, Handle, Deliver, Evict}
use Rattle.alw_msg.specs.declared.events.Entry.{Entry}
use Rattle.alw_image.specs.declared.headers.Header.{Header}
use Rattle.alw_image.specs.declared.parts.Parts.{Parts}
use Rattle.alw_image.specs.Images.{IsImage, IsStart, node_count, words, data_line, start_bytes, counts, version_of, header, spelling}
use Rattle.alw_image.specs.Parameters.{Parameters}
use Rattle.alw_image.specs.Numbers.{HasWords}
use Rattle.alw_image.specs.Faults.{is_within, first_unfit, image_fault, image_in, parts_in}
use Rattle.alw_image.proofs.Checked.{image_sizes}
use Rattle.alw_image.proofs.HeaderFields.{product}
use Rattle.alw_image.proofs.Spelled.{spelling-long, header-of_spelling, parts_back, has_no_fault, same_image}
use Rattle.alw_report.specs.Reports.{params_line}
use Rattle.alw_trace.specs.declared.values.Trace.{Trace}
use Rattle.alw_trace.specs.declared.faults.TextErr.{TextErr}
use Rattle.alw_trace.specs.declared.faults.TextErr.TheVariants.{Syntax, Image, Range, NoMemory}
use Rattle.alw_trace.specs.Texts.{image_text, entries_text, trace_title, trace_text}
use Rattle.alw_trace.specs.Lines.{IsNumber, IsByte, AreBytes, HasNumbers, IsEntry, TraceLines, AreTraceLines, trace_lines, IsFaultAtEnd, IsTraceFault, behind_entries, front_of_trace, end_of_trace}
use Rattle.alw_trace.specs.Readings.{is_short, fits_event, fits_entry, tested, trace_tests, IsOfMachine, EntryIsStamped, IsTrace, HasTraceTypes, without_evict, ReadsTrace}
use Rattle.alw_trace.proofs.ParamRanges.{fit, sets_within}
use Rattle.alw_trace.proofs.OneLine.{no_fault_at_end}
use Rattle.alw_trace.proofs.OneFront.{image_cut, params_cut, journal_cut, no_front_fault}
use Rattle.alw_num.proofs.Alls.{all_append}

-- ---- no line is at fault

-- what stands behind the entries
abbrev last : List ℕ
last = codes "end\n"

no_fault : (t : TraceLines) (fault : ℕ) → AreTraceLines t
    → ¬ IsTraceFault (trace_title ++ (image_text t.image ++ (params_line t.params ++ (entries_text t.journal ++ last)))) fault
no_fault t fault are (front_of_trace is) = no_front_fault trace_title t last are fault is
no_fault t fault are (end_of_trace lines rest says is) =
    let form = says.form in
    no_fault_at_end (behind_entries lines) fault
    (subst (λ (r : List ℕ). IsFaultAtEnd (behind_entries lines) r fault)
    (sym (journal_cut trace_title t last are lines.image lines.params lines.journal rest (form.bytes, form.size) form.params form.entries form.count says.text_is).1) is)

pub no_trace_fault : (t : TraceLines) (fault : ℕ) → AreTraceLines t → ¬ IsTraceFault (trace_lines t) fault
unfolding trace_lines
no_trace_fault t fault are = no_fault t fault are

-- ---- one text says one thing

pub same_lines : (i j : List ℕ) (p q : Parameters) (x y : List Entry) → i ≡ j → p ≡ q → x ≡ y
    → ◌≡◌ {A = TraceLines} (record { image = i; params = p; journal = x }) (record { image = j; params = q; journal = y })
same_lines i j p q x y e f g = cc

pub one_trace : (one other : TraceLines) → AreTraceLines one → AreTraceLines other → trace_lines one ≡ trace_lines other → one ≡ other
unfolding trace_lines
one_trace one other are all e =
    let bytes : AreBytes other.image = (all.bytes, all.size) in
    same_lines one.image other.image one.params other.params one.journal other.journal
    (image_cut trace_title one last are other.image (params_line other.params ++ (entries_text other.journal ++ last)) bytes e).0
    (params_cut trace_title one last are other.image other.params (entries_text other.journal ++ last) bytes all.params e).0
    (journal_cut trace_title one last are other.image other.params other.journal last bytes all.params all.entries all.count e).0

-- ---- the lines of a trace

word_bytes : (n : ℕ) → AllByRecursion IsByte (to_be_bytes w32 n)
word_bytes n = (omega arith, (omega arith, (omega arith, (omega arith, tt))))

half_bytes : (n : ℕ) → AllByRecursion IsByte (to_be_bytes w16 n)
half_bytes n = (omega arith, (omega arith, tt))

words_bytes : (list : List ℕ) → AllByRecursion IsByte (words list)
words_bytes [] = tt
words_bytes (n ∷ list) = all_append IsByte (to_be_bytes w32 n) (words list) (word_bytes n) (words_bytes list)

bodies_bytes : (list : List (LineNo × Line)) → AllByRecursion IsByte (flat_map data_line list)
bodies_bytes [] = tt
bodies_bytes (body ∷ list) =
    let l = body.1 in
    let number = to_be_bytes w32 body.0.0 in
    let low = all_append IsByte (to_be_bytes w32 l.c) (to_be_bytes w32 l.d) (word_bytes l.c) (word_bytes l.d) in
    let three = all_append IsByte (to_be_bytes w32 l.b) (to_be_bytes w32 l.c ++ to_be_bytes w32 l.d) (word_bytes l.b) low in
    let four = all_append IsByte (to_be_bytes w32 l.a) (to_be_bytes w32 l.b ++ (to_be_bytes w32 l.c ++ to_be_bytes w32 l.d)) (word_bytes l.a) three in
    all_append IsByte (data_line body) (flat_map data_line list)
    (all_append IsByte number (to_be_bytes w32 l.a ++ (to_be_bytes w32 l.b ++ (to_be_bytes w32 l.c ++ to_be_bytes w32 l.d))) (word_bytes body.0.0) four)
    (bodies_bytes list)

starts_bytes : (p : Parts) (list : List (NodeNo × ℕ × ℕ)) → p.contexts ≤ 4 → AllByRecursion (IsStart p) list
    → AllByRecursion IsByte (flat_map start_bytes list)
starts_bytes p [] few all = tt
starts_bytes p (start ∷ list) few all =
    let slot : start.1 < 256 = (let l = all.0.1 in omega arith) in
    let behind : AllByRecursion IsByte (start.1 ∷ 0 ∷ to_be_bytes w32 start.2) = (slot, (omega arith, word_bytes start.2)) in
    all_append IsByte (start_bytes start) (flat_map start_bytes list)
    (all_append IsByte (to_be_bytes w16 start.0.0) (start.1 ∷ 0 ∷ to_be_bytes w32 start.2) (half_bytes start.0.0) behind) (starts_bytes p list few all.1)

header_bytes : (p : Parts) → IsImage p → AllByRecursion IsByte (header p)
header_bytes p i =
    let w = i.width in let h = i.height in let c = i.contexts in
    let code = to_be_bytes w32 (length p.code) in
    let bodies = to_be_bytes w32 (length p.bodies) in
    let starts = to_be_bytes w32 (length p.starts) in
    let always = to_be_bytes w32 (length p.always) in
    let per_node = to_be_bytes w16 p.per_node in
    let sides = p.width ∷ p.height ∷ p.contexts ∷ 0 ∷ (per_node ++ counts p) in
    let last = all_append IsByte starts always (word_bytes (length p.starts)) (word_bytes (length p.always)) in
    let numbers = all_append IsByte code (bodies ++ (starts ++ always)) (word_bytes (length p.code))
    (all_append IsByte bodies (starts ++ always) (word_bytes (length p.bodies)) last) in
    let behind : AllByRecursion IsByte sides =
    (omega arith, (omega arith, (omega arith, (omega arith, all_append IsByte per_node (counts p) (half_bytes p.per_node) numbers)))) in
    (omega arith, (omega arith, (omega arith, (omega arith, all_append IsByte (to_be_bytes w16 (version_of p)) sides (half_bytes (version_of p)) behind))))

pub spelling_bytes : (p : Parts) → IsImage p → AllByRecursion IsByte (spelling p)
unfolding spelling
spelling_bytes p i =
    let always = words_bytes p.always in
    let starts = all_append IsByte (flat_map start_bytes p.starts) (words p.always) (starts_bytes p p.starts i.contexts.1 i.starts) always in
    let bodies = all_append IsByte (flat_map data_line p.bodies) _ (bodies_bytes p.bodies) starts in
    let code = all_append IsByte (words p.code) _ (words_bytes p.code) bodies in
    all_append IsByte (header p) _ (header_bytes p i) code

abbrev pub lines_in : Trace → TraceLines
lines_in t = record { image = spelling t.image; params = t.params; journal = t.journal }

numbers : (nodes sets : ℕ) (event : Event) → nodes ≤ 256 → sets ≤ 4096 → IsOfMachine nodes sets event → HasNumbers event
numbers nodes sets (Instr node) few less is = omega arith
numbers nodes sets (Handle node) few less is = omega arith
numbers nodes sets (Deliver from to) few less is = ((let l = is.0 in omega arith), (let l = is.1 in omega arith))
numbers nodes sets (Evict node set) few less is = ((let l = is.0 in omega arith), (let l = is.1 in omega arith))

entries : (nodes sets : ℕ) (journal : List Entry) → nodes ≤ 256 → sets ≤ 4096 → AllByRecursion (EntryIsStamped nodes sets) journal → AllByRecursion IsEntry journal
entries nodes sets [] few less all = tt
entries nodes sets (entry ∷ rest) few less all =
    let stamp : IsNumber entry.stamp = (let l = all.0.1.0 in omega arith) in
    ((stamp, numbers nodes sets entry.event few less all.0.1.1), entries nodes sets rest few less all.1)

pub few_nodes : (p : Parts) → IsImage p → node_count p ≤ 256
few_nodes p i = product p.width p.height 16 16 i.width.1 i.height.1

pub short_spelling : (p : Parts) → IsImage p → IsNumber (length (spelling p))
short_spelling p i =
    let s = image_sizes p i in
    let code = s.code in
    let nodes = few_nodes p i in
    let lines = product (node_count p) p.per_node 256 4096 nodes i.per_node.1 in
    let places = product (node_count p) p.contexts 256 4 nodes i.contexts.1 in
    let bodies = s.bodies in
    let starts = s.starts in
    let always = s.always in
    omega (arith, spelling-long p)

pub trace_form : (t : Trace) → IsTrace t → HasTraceTypes t → AreTraceLines (lines_in t)
trace_form t is types =
    let params = is.params in
    record {
      bytes = spelling_bytes t.image is.image;
      size = short_spelling t.image is.image;
      params = (
        (let l = params.pointers in omega arith),
        ((let l = sets_within t.params params in omega arith), ((let l = params.limit in omega arith), is.evict)),
      );
      entries = entries (node_count t.image) t.params.sets t.journal (few_nodes t.image is.image) (sets_within t.params params) is.journal;
      count = (let l = types.1 in omega arith);
    }

pub text-is : (t : Trace) → trace_text t ≡ trace_lines (lines_in t)
unfolding trace_text trace_lines
text-is t = refl

-- it says nothing of evictions
pub no_evict : (t : Trace) → trace_text (without_evict t) ≡ trace_text t
unfolding trace_text params_line
no_evict t = refl

-- one text is one trace's
pub same_trace : (one other : Trace) → IsTrace one → IsTrace other → HasTraceTypes one → HasTraceTypes other → trace_text one ≡ trace_text other → one ≡ other
same_trace one other is are types others e =
    let lines = one_trace (lines_in one) (lines_in other) (trace_form one is types) (trace_form other are others) (sym (text-is one) ∙ e ∙ text-is other) in
    let image = same_image one.image other.image is.image types.0 are.image others.0 (ap (λ (t : TraceLines). t.image) lines) in
    same one.image other.image one.params other.params one.journal other.journal image (ap (λ (t : TraceLines). t.params) lines)
    (ap (λ (t : TraceLines). t.journal) lines)
  where
    same : (i j : Parts) (p q : Parameters) (x y : List Entry) → i ≡ j → p ≡ q → x ≡ y
        → ◌≡◌ {A = Trace} (record { image = i; params = p; journal = x }) (record { image = j; params = q; journal = y })
    same i j p q x y e f g = cc

-- ---- no number of a trace is out of range

fits : (nodes sets : ℕ) (event : Event) → IsOfMachine nodes sets event → fits_event nodes sets event ≡ true
fits nodes sets (Instr node) is = grind (arith, nat_tests)
fits nodes sets (Handle node) is = grind (arith, nat_tests)
fits nodes sets (Deliver from to) is =
    and_from (nat_lt from.0 nodes) (nat_lt to.0 nodes) (let l = is.0 in grind (arith, nat_tests)) (let l = is.1 in grind (arith, nat_tests))
fits nodes sets (Evict node set) is =
    and_from (nat_lt node.0 nodes) (nat_lt set sets) (let l = is.0 in grind (arith, nat_tests)) (let l = is.1 in grind (arith, nat_tests))

entry_fits : (nodes sets : ℕ) (entry : Entry) → EntryIsStamped nodes sets entry → fits_entry nodes sets entry ≡ true
entry_fits nodes sets entry is =
    and_from (is_within 1 4294967295 entry.stamp) (fits_event nodes sets entry.event) (let low = is.0 in let high = is.1.0 in grind (arith, nat_tests))
    (fits nodes sets entry.event is.1.1)

all_pass : (nodes sets line : ℕ) (journal : List Entry) → AllByRecursion (EntryIsStamped nodes sets) journal
    → first_unfit (tested (fits_entry nodes sets) line journal) ≡ None
all_pass nodes sets line [] all = refl
all_pass nodes sets line (entry ∷ rest) all = rw (entry_fits nodes sets entry all.0) (all_pass nodes sets (line + 1) rest all.1)

trace_passes : (t : Trace) → IsTrace t → HasTraceTypes t → first_unfit (trace_tests (node_count t.image) (lines_in t)) ≡ None
unfolding trace_tests
trace_passes t is types =
    let short : is_short t.journal ≡ true = (let l = types.1 in grind (arith, nat_tests)) in
    rw (fit (node_count t.image) t.params is.params is.points, short) (all_pass (node_count t.image) t.params.sets _ t.journal is.journal)

pub image_back : (p : Parts) → IsImage p → HasWords p → image_in (spelling p) ≡ p
image_back p i w = ap (λ (h : Header). parts_in h (spelling p)) (header-of_spelling p i) ∙ parts_back p i w

-- its text is refused for want of memory alone
pub read_back : (t : Trace) (fault : TextErr) → IsTrace t → HasTraceTypes t → ReadsTrace (trace_text t) (Err fault) → fault ≡ NoMemory
read_back t (Syntax line) is types wrong =
    absurd (no_trace_fault (lines_in t) line (trace_form t is types) (subst (λ (text : List ℕ). IsTraceFault text line) (text-is t) wrong))
read_back t (Image fault) is types wrong =
    let same = one_trace (lines_in t) wrong.0 (trace_form t is types) wrong.1.form (sym (text-is t) ∙ wrong.1.text_is) in
    absurd (none-some fault (sym (has_no_fault t.image is.image types.0) ∙ ap (λ (lines : TraceLines). image_fault lines.image) same ∙ wrong.1.image))
read_back t (Range line) is types wrong =
    let same = one_trace (lines_in t) wrong.0 (trace_form t is types) wrong.1.form (sym (text-is t) ∙ wrong.1.text_is) in
    let tests : first_unfit (trace_tests (node_count (image_in (spelling t.image))) (lines_in t)) ≡ Some line =
    ap (λ (lines : TraceLines). first_unfit (trace_tests (node_count (image_in lines.image)) lines)) same ∙ wrong.2 in
    absurd (none-some line (sym (trace_passes t is types)
    ∙ ap (λ (p : Parts). first_unfit (trace_tests (node_count p) (lines_in t))) (sym (image_back t.image is.image types.0)) ∙ tests))
read_back t NoMemory is types wrong = refl
