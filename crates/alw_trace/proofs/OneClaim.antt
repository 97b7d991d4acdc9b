-- A text of a claim has no line at fault, says one thing, and is read as nothing else.
use Rattle.std.proofs.Common.{◌≡◌, ℕ, ◌+◌, ◌/◌, ◌%◌, ◌^◌, ◌<◌, List, ◌∷◌, ◌++◌, length, take, drop, slice_index, codes, refl, sym, ap, subst, ◌∙◌, arith, append_assoc}
use Rattle.std.specs.List.{flat_map, AllByRecursion}
use Rattle.std.proofs.lemmas.List.{append_cancel_left, take_at, drop_at}
use Rattle.alw_text.specs.Numbers.{hex_digits, hex_word}
use Rattle.alw_text.proofs.Numerals.{length-hex_digits, hex_digits-is}
use Rattle.alw_image.specs.Numbers.{IsWord}
use Rattle.alw_report.specs.Reports.{heading, run_line, print_line, word_line, runs_text, prints_text, memory_text}
use Rattle.alw_trace.specs.Texts.{image_text, claim_title}
use Rattle.alw_trace.specs.Lines.{IsNumber, AreBytes, IsStretch, IsPrint, IsMemoryWord, ClaimLines, AreClaimLines, claim_lines, behind_image, IsFaultInList, IsFaultAtEnd, IsFaultInImage, IsClaimFault, title_of_claim, image_of_claim, runs_of_claim, prints_of_claim, memory_of_claim, end_of_claim}
use Rattle.alw_trace.proofs.Numbers.{one_number}
use Rattle.alw_trace.proofs.LineTexts.{pair-is}
use Rattle.alw_trace.proofs.PairReads.{print-is, word-is}
use Rattle.alw_trace.proofs.OneLine.{OneLine, one_list, one_heading, no_fault_in_list, one_digit, one_image, no_fault_in_image, no_fault_at_end}

-- ---- words

one_digits : (n m : ℕ) → n < 2 ^ 32 → m < 2 ^ 32 → hex_digits n ≡ hex_digits m → n ≡ m
one_digits n m l k e =
    let same = sym (hex_digits-is n l) ∙ e ∙ hex_digits-is m k in
    let a : n / 2 ^ 28 ≡ m / 2 ^ 28 = one_digit (n / 2 ^ 28) (m / 2 ^ 28) (omega arith) (omega arith) (ap (λ (t : List ℕ). slice_index t 0) same) in
    let b : n / 2 ^ 24 % 16 ≡ m / 2 ^ 24 % 16 =
    one_digit (n / 2 ^ 24 % 16) (m / 2 ^ 24 % 16) (omega arith) (omega arith) (ap (λ (t : List ℕ). slice_index t 1) same) in
    let c : n / 2 ^ 20 % 16 ≡ m / 2 ^ 20 % 16 =
    one_digit (n / 2 ^ 20 % 16) (m / 2 ^ 20 % 16) (omega arith) (omega arith) (ap (λ (t : List ℕ). slice_index t 2) same) in
    let d : n / 2 ^ 16 % 16 ≡ m / 2 ^ 16 % 16 =
    one_digit (n / 2 ^ 16 % 16) (m / 2 ^ 16 % 16) (omega arith) (omega arith) (ap (λ (t : List ℕ). slice_index t 3) same) in
    let f : n / 2 ^ 12 % 16 ≡ m / 2 ^ 12 % 16 =
    one_digit (n / 2 ^ 12 % 16) (m / 2 ^ 12 % 16) (omega arith) (omega arith) (ap (λ (t : List ℕ). slice_index t 4) same) in
    let g : n / 2 ^ 8 % 16 ≡ m / 2 ^ 8 % 16 =
    one_digit (n / 2 ^ 8 % 16) (m / 2 ^ 8 % 16) (omega arith) (omega arith) (ap (λ (t : List ℕ). slice_index t 5) same) in
    let h : n / 2 ^ 4 % 16 ≡ m / 2 ^ 4 % 16 =
    one_digit (n / 2 ^ 4 % 16) (m / 2 ^ 4 % 16) (omega arith) (omega arith) (ap (λ (t : List ℕ). slice_index t 6) same) in
    let i : n % 16 ≡ m % 16 = one_digit (n % 16) (m % 16) (omega arith) (omega arith) (ap (λ (t : List ℕ). slice_index t 7) same) in
    omega (arith, a, b, c, d, f, g, h, i)

one_word : (n m stop : ℕ) (u v : List ℕ) → IsWord n → IsWord m → hex_word n ++ stop ∷ u ≡ hex_word m ++ stop ∷ v → (n ≡ m) × (u ≡ v)
one_word n m stop u v l k e =
    let digits : hex_digits n ++ stop ∷ u ≡ hex_digits m ++ stop ∷ v = ap (drop 2) e in
    let front = sym (take_at (hex_digits n) (stop ∷ u) 8 (length-hex_digits n)) ∙ ap (take 8) digits
    ∙ take_at (hex_digits m) (stop ∷ v) 8 (length-hex_digits m) in
    let back = sym (drop_at (hex_digits n) (stop ∷ u) 8 (length-hex_digits n)) ∙ ap (drop 8) digits
    ∙ drop_at (hex_digits m) (stop ∷ v) 8 (length-hex_digits m) in
    (one_digits n m l k front, ap (drop 1) back)

-- ---- lines

pub one_run : OneLine IsStretch run_line
one_run a b u v l k e =
    let first = one_number a.0 b.0 32 _ _ l.0 k.0 (omega arith) (sym (pair-is a.0 a.1 u) ∙ e ∙ pair-is b.0 b.1 v) in
    let second = one_number a.1 b.1 10 u v l.1 k.1 (omega arith) first.1 in
    (ap (λ (n : ℕ). (n, a.1)) first.0 ∙ ap (λ (n : ℕ). (b.0, n)) second.0, second.1)

pub one_print : OneLine IsPrint print_line
one_print a b u v l k e =
    let first = one_number a.0 b.0 32 _ _ l.0 k.0 (omega arith) (sym (print-is a.0 a.1 u) ∙ e ∙ print-is b.0 b.1 v) in
    let second = one_word a.1 b.1 10 u v l.1 k.1 first.1 in
    (ap (λ (n : ℕ). (n, a.1)) first.0 ∙ ap (λ (n : ℕ). (b.0, n)) second.0, second.1)

pub one_memory_word : OneLine IsMemoryWord word_line
one_memory_word a b u v l k e =
    let first = one_word a.0 b.0 32 _ _ l.0 k.0 (sym (word-is a.0 a.1 u) ∙ e ∙ word-is b.0 b.1 v) in
    let second = one_word a.1 b.1 10 u v l.1 k.1 first.1 in
    (ap (λ (n : ℕ). (n, a.1)) first.0 ∙ ap (λ (n : ℕ). (b.0, n)) second.0, second.1)

-- ---- lists behind their headings

one_text : {X : Type 0} (IsX : X → Type 0) (line : X → List ℕ) (name : List ℕ) → OneLine IsX line → (xs ys : List X) (u v : List ℕ) → AllByRecursion IsX xs
    → AllByRecursion IsX ys → IsNumber (length xs) → IsNumber (length ys)
    → (heading name (length xs) ++ flat_map line xs) ++ u ≡ (heading name (length ys) ++ flat_map line ys) ++ v → (xs ≡ ys) × (u ≡ v)
one_text IsX line name one xs ys u v are all small few e =
    let head = one_heading name (length xs) (length ys) (flat_map line xs ++ u) (flat_map line ys ++ v) small few
    (sym (append_assoc (heading name (length xs)) (flat_map line xs) u) ∙ e ∙ append_assoc (heading name (length ys)) (flat_map line ys) v) in
    one_list IsX line one xs ys u v are all head.0 head.1

pub one_runs : (xs ys : List (ℕ × ℕ)) (u v : List ℕ) → AllByRecursion IsStretch xs → AllByRecursion IsStretch ys → IsNumber (length xs) → IsNumber (length ys)
    → runs_text xs ++ u ≡ runs_text ys ++ v → (xs ≡ ys) × (u ≡ v)
unfolding runs_text
one_runs xs ys u v are all small few e = one_text IsStretch run_line (codes "runs") one_run xs ys u v are all small few e

pub one_prints : (xs ys : List (ℕ × ℕ)) (u v : List ℕ) → AllByRecursion IsPrint xs → AllByRecursion IsPrint ys → IsNumber (length xs) → IsNumber (length ys)
    → prints_text xs ++ u ≡ prints_text ys ++ v → (xs ≡ ys) × (u ≡ v)
unfolding prints_text
one_prints xs ys u v are all small few e = one_text IsPrint print_line (codes "prints") one_print xs ys u v are all small few e

pub one_memory : (xs ys : List (ℕ × ℕ)) (u v : List ℕ) → AllByRecursion IsMemoryWord xs → AllByRecursion IsMemoryWord ys → IsNumber (length xs)
    → IsNumber (length ys) → memory_text xs ++ u ≡ memory_text ys ++ v → (xs ≡ ys) × (u ≡ v)
unfolding memory_text
one_memory xs ys u v are all small few e = one_text IsMemoryWord word_line (codes "memory") one_memory_word xs ys u v are all small few e

pub no_fault_in_runs : (xs : List (ℕ × ℕ)) (u : List ℕ) (first fault : ℕ) → AllByRecursion IsStretch xs → IsNumber (length xs)
    → ¬ IsFaultInList IsStretch run_line (codes "runs") first (runs_text xs ++ u) fault
unfolding runs_text
no_fault_in_runs xs u first fault all small is = no_fault_in_list IsStretch run_line (codes "runs") first fault xs u one_run all small
    (subst (λ (t : List ℕ). IsFaultInList IsStretch run_line (codes "runs") first t fault)
    (append_assoc (heading (codes "runs") (length xs)) (flat_map run_line xs) u) is)

pub no_fault_in_prints : (xs : List (ℕ × ℕ)) (u : List ℕ) (first fault : ℕ) → AllByRecursion IsPrint xs → IsNumber (length xs)
    → ¬ IsFaultInList IsPrint print_line (codes "prints") first (prints_text xs ++ u) fault
unfolding prints_text
no_fault_in_prints xs u first fault all small is = no_fault_in_list IsPrint print_line (codes "prints") first fault xs u one_print all small
    (subst (λ (t : List ℕ). IsFaultInList IsPrint print_line (codes "prints") first t fault)
    (append_assoc (heading (codes "prints") (length xs)) (flat_map print_line xs) u) is)

pub no_fault_in_memory : (xs : List (ℕ × ℕ)) (u : List ℕ) (first fault : ℕ) → AllByRecursion IsMemoryWord xs → IsNumber (length xs)
    → ¬ IsFaultInList IsMemoryWord word_line (codes "memory") first (memory_text xs ++ u) fault
unfolding memory_text
no_fault_in_memory xs u first fault all small is = no_fault_in_list IsMemoryWord word_line (codes "memory") first fault xs u one_memory_word all small
    (subst (λ (t : List ℕ). IsFaultInList IsMemoryWord word_line (codes "memory") first t fault)
    (append_assoc (heading (codes "memory") (length xs)) (flat_map word_line xs) u) is)

-- ---- the parts of a text

abbrev behind_memory : List ℕ
behind_memory = codes "end\n"

abbrev behind_prints : ClaimLines → List ℕ
behind_prints c = memory_text c.memory ++ behind_memory

abbrev behind_runs : ClaimLines → List ℕ
behind_runs c = prints_text c.prints ++ behind_prints c

abbrev behind_bytes : ClaimLines → List ℕ
behind_bytes c = runs_text c.runs ++ behind_runs c

abbrev behind_title : ClaimLines → List ℕ
behind_title c = image_text c.image ++ behind_bytes c

image_cut : (c : ClaimLines) (image rest : List ℕ) → AreClaimLines c → AreBytes image
    → claim_title ++ behind_title c ≡ claim_title ++ (image_text image ++ rest) → (c.image ≡ image) × (behind_bytes c ≡ rest)
image_cut c image rest are bytes e =
    one_image c.image image (behind_bytes c) rest (are.bytes, are.size) bytes (append_cancel_left claim_title (behind_title c) (image_text image ++ rest) e)

runs_cut : (c : ClaimLines) (image : List ℕ) (runs : List (ℕ × ℕ)) (rest : List ℕ) → AreClaimLines c → AreBytes image → AllByRecursion IsStretch runs
    → IsNumber (length runs)
    → claim_title ++ behind_title c ≡ claim_title ++ (image_text image ++ (runs_text runs ++ rest)) → (c.runs ≡ runs) × (behind_runs c ≡ rest)
runs_cut c image runs rest are bytes each few e =
    one_runs c.runs runs (behind_runs c) rest are.runs each are.run_count few (image_cut c image (runs_text runs ++ rest) are bytes e).1

prints_cut : (c : ClaimLines) (image : List ℕ) (runs prints : List (ℕ × ℕ)) (rest : List ℕ) → AreClaimLines c → AreBytes image → AllByRecursion IsStretch runs
    → IsNumber (length runs) → AllByRecursion IsPrint prints → IsNumber (length prints)
    → claim_title ++ behind_title c ≡ claim_title ++ (image_text image ++ (runs_text runs ++ (prints_text prints ++ rest)))
    → (c.prints ≡ prints) × (behind_prints c ≡ rest)
prints_cut c image runs prints rest are bytes each few all less e =
    one_prints c.prints prints (behind_prints c) rest are.prints all are.print_count less
    (runs_cut c image runs (prints_text prints ++ rest) are bytes each few e).1

memory_cut : (c lines : ClaimLines) (rest : List ℕ) → AreClaimLines c → AreClaimLines lines
    → claim_title ++ behind_title c ≡ claim_title ++
    (image_text lines.image ++ (runs_text lines.runs ++ (prints_text lines.prints ++ (memory_text lines.memory ++ rest))))
    → (c.memory ≡ lines.memory) × (behind_memory ≡ rest)
memory_cut c lines rest are all e =
    one_memory c.memory lines.memory behind_memory rest are.memory all.memory are.word_count all.word_count
    (prints_cut c lines.image lines.runs lines.prints (memory_text lines.memory ++ rest) are
    (all.bytes, all.size) all.runs all.run_count all.prints all.print_count e).1

-- ---- no line is at fault

no_fault : (c : ClaimLines) (fault : ℕ) → AreClaimLines c → ¬ IsClaimFault (claim_title ++ behind_title c) fault
no_fault c fault are (title_of_claim lacks place) = lacks (behind_title c) refl
no_fault c fault are (image_of_claim rest e is) =
    no_fault_in_image c.image (behind_bytes c) fault (are.bytes, are.size)
    (subst (λ (r : List ℕ). IsFaultInImage r fault) (sym (append_cancel_left claim_title (behind_title c) rest e)) is)
no_fault c fault are (runs_of_claim image rest bytes e is) =
    no_fault_in_runs c.runs (behind_runs c) (behind_image image) fault are.runs are.run_count
    (subst (λ (r : List ℕ). IsFaultInList IsStretch run_line (codes "runs") (behind_image image) r fault) (sym (image_cut c image rest are bytes e).1) is)
no_fault c fault are (prints_of_claim image runs rest bytes each few e is) =
    no_fault_in_prints c.prints (behind_prints c) (behind_image image + 1 + length runs) fault are.prints are.print_count
    (subst (λ (r : List ℕ). IsFaultInList IsPrint print_line (codes "prints") (behind_image image + 1 + length runs) r fault)
    (sym (runs_cut c image runs rest are bytes each few e).1) is)
no_fault c fault are (memory_of_claim image runs prints rest bytes each few all less e is) =
    no_fault_in_memory c.memory behind_memory (behind_image image + 2 + length runs + length prints) fault are.memory are.word_count
    (subst (λ (r : List ℕ). IsFaultInList IsMemoryWord word_line (codes "memory") (behind_image image + 2 + length runs + length prints) r fault)
    (sym (prints_cut c image runs prints rest are bytes each few all less e).1) is)
no_fault c fault are (end_of_claim lines rest all e is) =
    let last = behind_image lines.image + 3 + length lines.runs + length lines.prints + length lines.memory in
    no_fault_at_end last fault (subst (λ (r : List ℕ). IsFaultAtEnd last r fault) (sym (memory_cut c lines rest are all e).1) is)

pub no_claim_fault : (c : ClaimLines) (fault : ℕ) → AreClaimLines c → ¬ IsClaimFault (claim_lines c) fault
unfolding claim_lines
no_claim_fault c fault are = no_fault c fault are

same_lines : (i j : List ℕ) (a b p q x y : List (ℕ × ℕ)) → i ≡ j → a ≡ b → p ≡ q → x ≡ y
    → ◌≡◌ {A = ClaimLines} (record { image = i; runs = a; prints = p; memory = x }) (record { image = j; runs = b; prints = q; memory = y })
same_lines i j a b p q x y d e f g = cc

pub one_claim : (one other : ClaimLines) → AreClaimLines one → AreClaimLines other → claim_lines one ≡ claim_lines other → one ≡ other
unfolding claim_lines
one_claim one other are all e =
    let bytes : AreBytes other.image = (all.bytes, all.size) in
    same_lines one.image other.image one.runs other.runs one.prints other.prints one.memory other.memory
    (image_cut one other.image (behind_bytes other) are bytes e).0
    (runs_cut one other.image other.runs (behind_runs other) are bytes all.runs all.run_count e).0
    (prints_cut one other.image other.runs other.prints (behind_prints other) are bytes all.runs all.run_count all.prints all.print_count e).0
    (memory_cut one other behind_memory are all e).0
