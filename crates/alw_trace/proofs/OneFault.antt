-- A text has at most one line at fault.
use Rattle.std.proofs.Common.{◌≡◌, ℕ, zero, suc, ◌+◌, ◌-◌, ◌*◌, ◌<◌, List, ◌++◌, length, take, drop, min, codes, refl, sym, ap, subst, ◌∙◌, ⊎_elim, arith, append_assoc, length-drop}
use Rattle.std.specs.List.{AllByRecursion}
use Rattle.std.proofs.lemmas.Bool.{cases_lt}
use Rattle.std.proofs.lemmas.List.{append_cancel_left, length-take}
use Rattle.alw_msg.specs.declared.events.Entry.{Entry}
use Rattle.alw_report.specs.Reports.{params_line, run_line, print_line, word_line, runs_text, prints_text, memory_text}
use Rattle.alw_trace.specs.Texts.{hex_line, hex_lines, image_text, entry_line, entries_text, trace_title, claim_title}
use Rattle.alw_trace.specs.Lines.{IsNumber, IsByte, IsRow, AreBytes, HasThree, IsEntry, IsStretch, IsPrint, IsMemoryWord, Lacks, LacksThis, behind_image, IsFaultInLines, IsFaultInRows, IsFaultInList, IsFaultInImage, IsFaultAtEnd, IsTraceFault, IsClaimFault, list_heading, list_line, image_heading, image_row, lacks_end, goes_on, title_of_front, image_of_front, params_of_front, entries_of_front, front_of_trace, end_of_trace, title_of_claim, image_of_claim, runs_of_claim, prints_of_claim, memory_of_claim, end_of_claim}
use Rattle.alw_trace.proofs.OneLine.{OneLine, not_lacking, one_heading, one_row, all_take, all_drop, one_image, no_fault_in_image, one_params, one_entry, no_fault_in_list}
use Rattle.alw_trace.proofs.OneFront.{one_journal, entries-is}
use Rattle.alw_trace.proofs.OneClaim.{one_run, one_print, one_memory_word, one_runs, one_prints, one_memory, no_fault_in_runs, no_fault_in_prints, no_fault_in_memory}

-- a text has at most one fault of a kind
abbrev Unique : (List ℕ → ℕ → Type 0) → Type 0
Unique Wrong = (text : List ℕ) (f g : ℕ) → Wrong text f → Wrong text g → f ≡ g

-- ---- in a list

same_length : (a b : ℕ) → ¬ (a < b) → ¬ (b < a) → a ≡ b
same_length a b one other = ⊎_elim (λ l. absurd (one l)) (λ more. ⊎_elim (λ l. absurd (other l)) (λ less. let e : a ≡ b = omega arith in e) (cases_lt b a))
    (cases_lt a b)

one_in_lines : {X : Type 0} (IsX : X → Type 0) (line : X → List ℕ) → OneLine IsX line → (count first : ℕ) → Unique (IsFaultInLines IsX line count first)
one_in_lines IsX line one count first text f g a b =
    let long = same_length (length a.read) (length b.read)
    (λ few. not_lacking IsX line one a.read b.read a.rest b.rest a.each b.each few (sym a.parts ∙ b.parts) a.lacks)
    (λ few. not_lacking IsX line one b.read a.read b.rest a.rest b.each a.each few (sym b.parts ∙ a.parts) b.lacks) in
    a.place ∙ ap (λ (n : ℕ). first + n) long ∙ sym b.place

one_in_list : {X : Type 0} (IsX : X → Type 0) (line : X → List ℕ) (name : List ℕ) → OneLine IsX line → (first : ℕ)
    → Unique (IsFaultInList IsX line name first)
one_in_list IsX line name one first text f g (list_heading lacks at) (list_heading other here) = at ∙ sym here
one_in_list IsX line name one first text f g (list_heading lacks at) (list_line count rest few e is) = absurd (lacks count rest few e)
one_in_list IsX line name one first text f g (list_line count rest few e is) (list_heading lacks at) = absurd (lacks count rest few e)
one_in_list IsX line name one first text f g (list_line count rest few e is) (list_line other behind less eq has) =
    let same = one_heading name count other rest behind few less (sym e ∙ eq) in
    let moved : IsFaultInLines IsX line other (first + 1) behind f =
    subst (λ (n : ℕ). IsFaultInLines IsX line n (first + 1) behind f) same.0
    (subst (λ (t : List ℕ). IsFaultInLines IsX line count (first + 1) t f) same.1 is) in
    one_in_lines IsX line one other (first + 1) behind f g moved has

-- ---- in an image

-- a line of 32 bytes stands behind fewer than there are
full_row_stands : (k m : ℕ) (read rest other u : List ℕ) → length read ≡ 32 * k → length other ≡ 32 * m → k < m → AllByRecursion IsByte read
    → AllByRecursion IsByte other → hex_lines k read ++ rest ≡ hex_lines m other ++ u
    → ¬ Lacks (IsRow 32) hex_line rest
unfolding hex_lines
full_row_stands k zero read rest other u long size few are all e lacks = absurd (omega (arith, few))
full_row_stands zero (suc m) read rest other u long size few are all e lacks =
    let row : IsRow 32 (take 32 other) = (omega (arith, length-take 32 other, size), all_take 32 other all) in
    lacks (take 32 other) (hex_lines m (drop 32 other) ++ u) row (e ∙ append_assoc (hex_line (take 32 other)) (hex_lines m (drop 32 other)) u)
full_row_stands (suc k) (suc m) read rest other u long size few are all e lacks =
    let whole = sym (append_assoc (hex_line (take 32 read)) (hex_lines k (drop 32 read)) rest) ∙ e
    ∙ append_assoc (hex_line (take 32 other)) (hex_lines m (drop 32 other)) u in
    let same : length (take 32 read) ≡ length (take 32 other) = omega (arith, length-take 32 read, length-take 32 other, long, size) in
    let first = one_row (take 32 read) (take 32 other) (hex_lines k (drop 32 read) ++ rest) (hex_lines m (drop 32 other) ++ u) (all_take 32 read are)
    (all_take 32 other all) same whole in
    full_row_stands k m (drop 32 read) rest (drop 32 other) u (omega (arith, long, length-drop 32 read)) (omega (arith, size, length-drop 32 other))
    (omega (arith, few)) (all_drop 32 read are) (all_drop 32 other all) first.1 lacks

not_fewer : (count first f g : ℕ) (text : List ℕ) (a : IsFaultInRows count first text f) (b : IsFaultInRows count first text g) → ¬ (a.rows < b.rows)
not_fewer count first f g text a b few =
    let wide : min (count - 32 * a.rows) 32 ≡ 32 = (let more = b.fewer in omega arith) in
    full_row_stands a.rows b.rows a.read a.rest b.read b.rest a.long b.long few a.each b.each (sym a.parts ∙ b.parts)
    (subst (λ (n : ℕ). Lacks (IsRow n) hex_line a.rest) wide a.lacks)

one_in_rows : (count first : ℕ) → Unique (IsFaultInRows count first)
one_in_rows count first text f g a b =
    let same = same_length a.rows b.rows (not_fewer count first f g text a b) (not_fewer count first g f text b a) in
    a.place ∙ ap (λ (n : ℕ). first + n) same ∙ sym b.place

one_in_image : Unique IsFaultInImage
one_in_image text f g (image_heading lacks at) (image_heading other here) = at ∙ sym here
one_in_image text f g (image_heading lacks at) (image_row count rest few e is) = absurd (lacks count rest few e)
one_in_image text f g (image_row count rest few e is) (image_heading lacks at) = absurd (lacks count rest few e)
one_in_image text f g (image_row count rest few e is) (image_row other behind less eq has) =
    let same = one_heading (codes "image") count other rest behind few less (sym e ∙ eq) in
    let moved : IsFaultInRows other 3 behind f =
    subst (λ (n : ℕ). IsFaultInRows n 3 behind f) same.0 (subst (λ (t : List ℕ). IsFaultInRows count 3 t f) same.1 is) in
    one_in_rows other 3 behind f g moved has

one_at_end : (last : ℕ) → Unique (IsFaultAtEnd last)
one_at_end last text f g (lacks_end lacks at) (lacks_end other here) = at ∙ sym here
one_at_end last text f g (lacks_end lacks at) (goes_on rest e more here) = absurd (lacks rest e)
one_at_end last text f g (goes_on rest e more at) (lacks_end lacks here) = absurd (lacks rest e)
one_at_end last text f g (goes_on rest e more at) (goes_on behind eq less here) = at ∙ sym here

-- ---- part by part

-- a part is wrong, or it says something and what follows it is wrong
data Stage {X : Type 0} (IsX : X → Type 0) (part : X → List ℕ) (Wrong : List ℕ → ℕ → Type 0) (Next : X → List ℕ → ℕ → Type 0) (text : List ℕ)
    (fault : ℕ) : Type 0 where
  wrong : Wrong text fault → Stage IsX part Wrong Next text fault
  behind : (x : X) → (rest : List ℕ) → IsX x → text ≡ part x ++ rest → Next x rest fault → Stage IsX part Wrong Next text fault

one_stage : {X : Type 0} (IsX : X → Type 0) (part : X → List ℕ) (Wrong : List ℕ → ℕ → Type 0) (Next : X → List ℕ → ℕ → Type 0) → Unique Wrong
    → ((x : X) (rest : List ℕ) (f : ℕ) → IsX x → ¬ Wrong (part x ++ rest) f)
    → OneLine IsX part → ((x : X) → Unique (Next x)) → Unique (Stage IsX part Wrong Next)
one_stage IsX part Wrong Next unique right one next text f g (wrong a) (wrong b) = unique text f g a b
one_stage IsX part Wrong Next unique right one next text f g (wrong a) (behind x rest is e b) =
    absurd (right x rest f is (subst (λ (t : List ℕ). Wrong t f) e a))
one_stage IsX part Wrong Next unique right one next text f g (behind x rest is e a) (wrong b) =
    absurd (right x rest g is (subst (λ (t : List ℕ). Wrong t g) e b))
one_stage {X} IsX part Wrong Next unique right one next text f g (behind x rest is e a) (behind y more has eq b) =
    let same = one x y rest more is has (sym e ∙ eq) in
    let moved : Next y more f = subst (λ (z : X). Next z more f) same.0 (subst (λ (t : List ℕ). Next x t f) same.1 a) in
    next y more f g moved b

-- a part of which there is one
abbrev NoMore : Unit {0} → Type 0
NoMore u = Unit {0}

one_fixed : (front : List ℕ) → OneLine NoMore (λ u. front)
one_fixed front a b u v is has e = (refl, append_cancel_left front u v e)

-- a line that lacks, which has this number
abbrev LacksAt : (List ℕ → Type 0) → ℕ → List ℕ → ℕ → Type 0
LacksAt None-is at text fault = None-is text × (fault ≡ at)

one_lack : (None-is : List ℕ → Type 0) (at : ℕ) → Unique (LacksAt None-is at)
one_lack None-is at text f g a b = a.1 ∙ sym b.1

-- ---- traces

abbrev IsJournal : List Entry → Type 0
IsJournal journal = AllByRecursion IsEntry journal × IsNumber (length journal)

abbrev FromEntries : List ℕ → List ℕ → ℕ → Type 0
FromEntries image = Stage IsJournal entries_text (IsFaultInList IsEntry entry_line (codes "entries") (behind_image image + 1))
    (λ journal. IsFaultAtEnd (behind_image image + 2 + length journal))

abbrev FromParams : List ℕ → List ℕ → ℕ → Type 0
FromParams image = Stage HasThree params_line (LacksAt (Lacks HasThree params_line) (behind_image image)) (λ params. FromEntries image)

abbrev FromImage : List ℕ → ℕ → Type 0
FromImage = Stage AreBytes image_text IsFaultInImage FromParams

abbrev OfTrace : List ℕ → ℕ → Type 0
OfTrace = Stage NoMore (λ u. trace_title) (LacksAt (LacksThis trace_title) 1) (λ u. FromImage)

staged : (text : List ℕ) (f : ℕ) → IsTraceFault text f → OfTrace text f
staged text f (front_of_trace (title_of_front lacks place)) = wrong (lacks, place)
staged text f (front_of_trace (image_of_front rest e is)) = let next : FromImage rest f = wrong is in behind tt rest tt e next
staged text f (front_of_trace (params_of_front image rest bytes e lacks place)) =
    let params : FromParams image rest f = wrong (lacks, place) in
    let next : FromImage (image_text image ++ rest) f = behind image rest bytes refl params in
    behind tt (image_text image ++ rest) tt e next
staged text f (front_of_trace (entries_of_front image params rest bytes three e is)) =
    let entries : FromEntries image rest f = wrong is in
    let middle : FromParams image (params_line params ++ rest) f = behind params rest three refl entries in
    let next : FromImage (image_text image ++ (params_line params ++ rest)) f = behind image (params_line params ++ rest) bytes refl middle in
    behind tt (image_text image ++ (params_line params ++ rest)) tt e next
staged text f (end_of_trace lines rest says is) =
    let form = says.form in
    let entries : FromEntries lines.image (entries_text lines.journal ++ rest) f = behind lines.journal rest (form.entries, form.count) refl is in
    let middle : FromParams lines.image (params_line lines.params ++ (entries_text lines.journal ++ rest)) f =
    behind lines.params (entries_text lines.journal ++ rest) form.params refl entries in
    let next : FromImage (image_text lines.image ++ (params_line lines.params ++ (entries_text lines.journal ++ rest))) f =
    behind lines.image (params_line lines.params ++ (entries_text lines.journal ++ rest)) (form.bytes, form.size) refl middle in
    behind tt (image_text lines.image ++ (params_line lines.params ++ (entries_text lines.journal ++ rest))) tt says.text_is next

no_fault_in_entries : (journal : List Entry) (rest : List ℕ) (first f : ℕ) → IsJournal journal
    → ¬ IsFaultInList IsEntry entry_line (codes "entries") first (entries_text journal ++ rest) f
no_fault_in_entries journal rest first f is fault = no_fault_in_list IsEntry entry_line (codes "entries") first f journal rest one_entry is.0 is.1
    (subst (λ (t : List ℕ). IsFaultInList IsEntry entry_line (codes "entries") first t f) (entries-is journal rest) fault)

from_entries : (image : List ℕ) → Unique (FromEntries image)
from_entries image = one_stage IsJournal entries_text (IsFaultInList IsEntry entry_line (codes "entries") (behind_image image + 1))
    (λ journal. IsFaultAtEnd (behind_image image + 2 + length journal))
    (one_in_list IsEntry entry_line (codes "entries") one_entry (behind_image image + 1))
    (λ journal rest f is. no_fault_in_entries journal rest (behind_image image + 1) f is)
    (λ a b u v is has e. one_journal a b u v is.0 has.0 is.1 has.1 e) (λ journal. one_at_end (behind_image image + 2 + length journal))

from_params : (image : List ℕ) → Unique (FromParams image)
from_params image = one_stage HasThree params_line (LacksAt (Lacks HasThree params_line) (behind_image image)) (λ params. FromEntries image)
    (one_lack (Lacks HasThree params_line) (behind_image image))
    (λ params rest f is lacks. lacks.0 params rest is refl) one_params (λ params. from_entries image)

from_image : Unique FromImage
from_image = one_stage AreBytes image_text IsFaultInImage FromParams one_in_image (λ image rest f is. no_fault_in_image image rest f is) one_image from_params

of_trace : Unique OfTrace
of_trace = one_stage NoMore (λ u. trace_title) (LacksAt (LacksThis trace_title) 1) (λ u. FromImage) (one_lack (LacksThis trace_title) 1)
    (λ u rest f is lacks. lacks.0 rest refl) (one_fixed trace_title) (λ u. from_image)

pub one_trace_fault : (text : List ℕ) (f g : ℕ) → IsTraceFault text f → IsTraceFault text g → f ≡ g
one_trace_fault text f g a b = of_trace text f g (staged text f a) (staged text g b)

-- ---- claims

abbrev IsList : (ℕ × ℕ → Type 0) → List (ℕ × ℕ) → Type 0
IsList IsX pairs = AllByRecursion IsX pairs × IsNumber (length pairs)

abbrev FromMemory : List ℕ → List (ℕ × ℕ) → List (ℕ × ℕ) → List ℕ → ℕ → Type 0
FromMemory image runs prints = Stage (IsList IsMemoryWord) memory_text
    (IsFaultInList IsMemoryWord word_line (codes "memory") (behind_image image + 2 + length runs + length prints))
    (λ memory. IsFaultAtEnd (behind_image image + 3 + length runs + length prints + length memory))

abbrev FromPrints : List ℕ → List (ℕ × ℕ) → List ℕ → ℕ → Type 0
FromPrints image runs = Stage (IsList IsPrint) prints_text (IsFaultInList IsPrint print_line (codes "prints") (behind_image image + 1 + length runs))
    (FromMemory image runs)

abbrev FromRuns : List ℕ → List ℕ → ℕ → Type 0
FromRuns image = Stage (IsList IsStretch) runs_text (IsFaultInList IsStretch run_line (codes "runs") (behind_image image)) (FromPrints image)

abbrev FromBytes : List ℕ → ℕ → Type 0
FromBytes = Stage AreBytes image_text IsFaultInImage FromRuns

abbrev OfClaim : List ℕ → ℕ → Type 0
OfClaim = Stage NoMore (λ u. claim_title) (LacksAt (LacksThis claim_title) 1) (λ u. FromBytes)

claim_staged : (text : List ℕ) (f : ℕ) → IsClaimFault text f → OfClaim text f
claim_staged text f (title_of_claim lacks place) = wrong (lacks, place)
claim_staged text f (image_of_claim rest e is) = let next : FromBytes rest f = wrong is in behind tt rest tt e next
claim_staged text f (runs_of_claim image rest bytes e is) =
    let runs : FromRuns image rest f = wrong is in
    let next : FromBytes (image_text image ++ rest) f = behind image rest bytes refl runs in
    behind tt (image_text image ++ rest) tt e next
claim_staged text f (prints_of_claim image runs rest bytes each few e is) =
    let prints : FromPrints image runs rest f = wrong is in
    let middle : FromRuns image (runs_text runs ++ rest) f = behind runs rest (each, few) refl prints in
    let next : FromBytes (image_text image ++ (runs_text runs ++ rest)) f = behind image (runs_text runs ++ rest) bytes refl middle in
    behind tt (image_text image ++ (runs_text runs ++ rest)) tt e next
claim_staged text f (memory_of_claim image runs prints rest bytes each few all less e is) =
    let memory : FromMemory image runs prints rest f = wrong is in
    let last : FromPrints image runs (prints_text prints ++ rest) f = behind prints rest (all, less) refl memory in
    let middle : FromRuns image (runs_text runs ++ (prints_text prints ++ rest)) f = behind runs (prints_text prints ++ rest) (each, few) refl last in
    let next : FromBytes (image_text image ++ (runs_text runs ++ (prints_text prints ++ rest))) f =
    behind image (runs_text runs ++ (prints_text prints ++ rest)) bytes refl middle in
    behind tt (image_text image ++ (runs_text runs ++ (prints_text prints ++ rest))) tt e next
claim_staged text f (end_of_claim lines rest all e is) =
    let i = lines.image in let r = lines.runs in let p = lines.prints in
    let memory : FromMemory i r p (memory_text lines.memory ++ rest) f = behind lines.memory rest (all.memory, all.word_count) refl is in
    let last : FromPrints i r (prints_text p ++ (memory_text lines.memory ++ rest)) f =
    behind p (memory_text lines.memory ++ rest) (all.prints, all.print_count) refl memory in
    let middle : FromRuns i (runs_text r ++ (prints_text p ++ (memory_text lines.memory ++ rest))) f =
    behind r (prints_text p ++ (memory_text lines.memory ++ rest)) (all.runs, all.run_count) refl last in
    let next : FromBytes (image_text i ++ (runs_text r ++ (prints_text p ++ (memory_text lines.memory ++ rest)))) f =
    behind i (runs_text r ++ (prints_text p ++ (memory_text lines.memory ++ rest))) (all.bytes, all.size) refl middle in
    behind tt (image_text i ++ (runs_text r ++ (prints_text p ++ (memory_text lines.memory ++ rest)))) tt e next

from_memory : (image : List ℕ) (runs prints : List (ℕ × ℕ)) → Unique (FromMemory image runs prints)
from_memory image runs prints =
    let first = behind_image image + 2 + length runs + length prints in
    one_stage (IsList IsMemoryWord) memory_text (IsFaultInList IsMemoryWord word_line (codes "memory") first)
    (λ memory. IsFaultAtEnd (behind_image image + 3 + length runs + length prints + length memory))
    (one_in_list IsMemoryWord word_line (codes "memory") one_memory_word first) (λ memory rest f is. no_fault_in_memory memory rest first f is.0 is.1)
    (λ a b u v is has e. one_memory a b u v is.0 has.0 is.1 has.1 e)
    (λ memory. one_at_end (behind_image image + 3 + length runs + length prints + length memory))

from_prints : (image : List ℕ) (runs : List (ℕ × ℕ)) → Unique (FromPrints image runs)
from_prints image runs =
    let first = behind_image image + 1 + length runs in
    one_stage (IsList IsPrint) prints_text (IsFaultInList IsPrint print_line (codes "prints") first) (FromMemory image runs)
    (one_in_list IsPrint print_line (codes "prints") one_print first) (λ prints rest f is. no_fault_in_prints prints rest first f is.0 is.1)
    (λ a b u v is has e. one_prints a b u v is.0 has.0 is.1 has.1 e) (from_memory image runs)

from_runs : (image : List ℕ) → Unique (FromRuns image)
from_runs image = one_stage (IsList IsStretch) runs_text (IsFaultInList IsStretch run_line (codes "runs") (behind_image image)) (FromPrints image)
    (one_in_list IsStretch run_line (codes "runs") one_run (behind_image image)) (λ runs rest f is. no_fault_in_runs runs rest (behind_image image) f is.0 is.1)
    (λ a b u v is has e. one_runs a b u v is.0 has.0 is.1 has.1 e) (from_prints image)

from_bytes : Unique FromBytes
from_bytes = one_stage AreBytes image_text IsFaultInImage FromRuns one_in_image (λ image rest f is. no_fault_in_image image rest f is) one_image from_runs

of_claim : Unique OfClaim
of_claim = one_stage NoMore (λ u. claim_title) (LacksAt (LacksThis claim_title) 1) (λ u. FromBytes) (one_lack (LacksThis claim_title) 1)
    (λ u rest f is lacks. lacks.0 rest refl) (one_fixed claim_title) (λ u. from_bytes)

pub one_claim_fault : (text : List ℕ) (f g : ℕ) → IsClaimFault text f → IsClaimFault text g → f ≡ g
one_claim_fault text f g a b = of_claim text f g (claim_staged text f a) (claim_staged text g b)
