-- What holds of the lists of a claim that are in range, and the first line that isn't.
use Rattle.std.proofs.Common.{◌≡◌, ◌≢◌, ℕ, zero, suc, ◌+◌, ◌*◌, ◌%◌, ◌<◌, ◌≤◌, ◌==◌, ◌&&◌, Bool, true, false, not, nat_le, nat_lt, if◌then◌else◌, Option, Some, None, List, [], ◌∷◌, ◌++◌, length, map, replicate, slice_index, refl, sym, ap, subst, ◌∙◌, arith, length-append}
use Rattle.std.specs.List.{AllByRecursion}
use Rattle.std.specs.List.Sorted.{IsStrictlyIncreasing}
use Rattle.std.proofs.lemmas.Bool.{true≢false, and_parts}
use Rattle.std.proofs.lemmas.Bool.Decides.{nat_tests}
use Rattle.std.proofs.lemmas.Option.{none-some}
use Rattle.alw_num.specs.Limits.{shared_base}
use Rattle.alw_msg.specs.Stretches.{in_front, stretches, turns_in, AreLongest}
use Rattle.alw_image.specs.declared.parts.Parts.{Parts}
use Rattle.alw_image.specs.Images.{line_count}
use Rattle.alw_image.specs.Faults.{first_unfit, is_above}
use Rattle.alw_trace.specs.Readings.{tested, fits_run, is_other, run_tests, fits_print, fits_word, is_shared, word_tests, most_turns, IsSharedAddress}
use Rattle.alw_num.proofs.Alls.{all_append}

-- ---- tests that are all passed

passed : (b : Bool) (line : ℕ) (rest : Option ℕ) → (if b then rest else Some line) ≡ None → (b ≡ true) × (rest ≡ None)
passed true line rest none = (refl, none)
passed false line rest none = absurd (none-some line (sym none))

pub head_fits : (b : Bool) (line : ℕ) (rest : List (ℕ × Bool)) → first_unfit ((line, b) ∷ rest) ≡ None → (b ≡ true) × (first_unfit rest ≡ None)
head_fits b line rest none = passed b line (first_unfit rest) none

-- ---- turns

-- a context is another one than that of the run before, if there is one
abbrev pub other_than : Option ℕ → ℕ → Type 0
other_than None c = Unit {0}
other_than (Some before) c = c ≢ before

is_other_than : (before : Option ℕ) (c : ℕ) → is_other before c ≡ true → other_than before c
is_other_than None c e = tt
is_other_than (Some before) c e = λ same. true≢false (sym e ∙ ap not (let t : (c == before) ≡ true = grind (arith, nat_tests) in t))

-- the first of some runs is of another context
abbrev pub starts_other : Option ℕ → List (ℕ × ℕ) → Type 0
starts_other before [] = Unit {0}
starts_other before (run ∷ rest) = other_than before run.0

-- runs in range: their contexts exist, there aren't too many turns, and they are as long as they can be
pub record AreRuns (contexts turns : ℕ) (before : Option ℕ) (runs : List (ℕ × ℕ)) : Type 0 where
  pub each : AllByRecursion (λ context. context < contexts) (turns_in runs)
  pub most : turns + length (turns_in runs) ≤ most_turns
  pub longest : AreLongest runs
  pub apart : starts_other before runs

all_same : (contexts context count : ℕ) → context < contexts → AllByRecursion (λ c. c < contexts) (replicate count context)
all_same contexts context zero l = tt
all_same contexts context (suc count) l = (l, all_same contexts context count l)

pub length-same : (count context : ℕ) → length (replicate count context) ≡ count
length-same zero context = refl
length-same (suc count) context = let more = length-same count context in omega arith

longer : (run : ℕ × ℕ) (rest : List (ℕ × ℕ)) → 1 ≤ run.1 → AreLongest rest → starts_other (Some run.0) rest → AreLongest (run ∷ rest)
longer run [] some are apart = some
longer run (next ∷ rest) some are apart = (some, (λ same. apart (sym same)), are)

pub runs_fit : (contexts line turns : ℕ) (before : Option ℕ) (runs : List (ℕ × ℕ)) → turns ≤ most_turns
    → first_unfit (run_tests contexts line turns before runs) ≡ None → AreRuns contexts turns before runs
runs_fit contexts line turns before [] most none = record { each = tt; most = omega arith; longest = tt; apart = tt }
runs_fit contexts line turns before (run ∷ rest) most none =
    let h = head_fits (fits_run contexts turns before run) line (run_tests contexts (line + 1) (turns + run.1) (Some run.0) rest) none in
    let a = and_parts (nat_lt run.0 contexts) (is_other before run.0 && (nat_le 1 run.1 && nat_le (turns + run.1) most_turns)) h.0 in
    let b = and_parts (is_other before run.0) (nat_le 1 run.1 && nat_le (turns + run.1) most_turns) a.1 in
    let d = and_parts (nat_le 1 run.1) (nat_le (turns + run.1) most_turns) b.1 in
    let exists : run.0 < contexts = (let t = a.0 in grind (arith, nat_tests)) in
    let some : 1 ≤ run.1 = (let t = d.0 in grind (arith, nat_tests)) in
    let within : turns + run.1 ≤ most_turns = (let t = d.1 in grind (arith, nat_tests)) in
    let more = runs_fit contexts (line + 1) (turns + run.1) (Some run.0) rest within h.1 in
    record {
      each = all_append (λ c. c < contexts) (replicate run.1 run.0) (turns_in rest) (all_same contexts run.0 run.1 exists) more.each;
      most = omega (arith, length-append (replicate run.1 run.0) (turns_in rest), length-same run.1 run.0, more.most);
      longest = longer run rest some more.longest more.apart;
      apart = is_other_than before run.0 b.0;
    }

-- ---- stretches of runs

-- one turn in front of others
merged : (context : ℕ) (count : ℕ) (rest : List (ℕ × ℕ)) → in_front context 1 ((context, count) ∷ rest) ≡ (context, 1 + count) ∷ rest
merged context count rest = let e : (context == context) ≡ true = grind (arith, nat_tests) in rw e

apart_front : (context : ℕ) (rest : List (ℕ × ℕ)) → starts_other (Some context) rest → in_front context 1 rest ≡ (context, 1) ∷ rest
apart_front context [] apart = refl
apart_front context (next ∷ rest) apart = let e : (context == next.0) ≡ false =
    (let other : context ≢ next.0 = (λ same. apart (sym same)) in grind (arith, nat_tests)) in rw e

stretch : (count context : ℕ) (turns : List ℕ) (rest : List (ℕ × ℕ)) → stretches turns ≡ rest → starts_other (Some context) rest
    → stretches (replicate (suc count) context ++ turns) ≡ (context, suc count) ∷ rest
stretch zero context turns rest is apart = ap (in_front context 1) is ∙ apart_front context rest apart
stretch (suc count) context turns rest is apart =
    ap (in_front context 1) (stretch count context turns rest is apart) ∙ merged context (suc count) rest
    ∙ ap (λ (n : ℕ). (context, n) ∷ rest) (let e : 1 + suc count ≡ suc (suc count) = omega arith in e)

pub tail_longest : (run : ℕ × ℕ) (rest : List (ℕ × ℕ)) → AreLongest (run ∷ rest) → (1 ≤ run.1) × (AreLongest rest × starts_other (Some run.0) rest)
tail_longest run [] are = (are, (tt, tt))
tail_longest run (next ∷ rest) (some, apart, are) = (some, (are, (λ same. apart (sym same))))

pub same_runs : (runs : List (ℕ × ℕ)) → AreLongest runs → stretches (turns_in runs) ≡ runs
same_runs [] are = refl
same_runs ((context, zero) ∷ rest) are = let t = tail_longest (context, zero) rest are in absurd (omega (arith, t.0))
same_runs ((context, suc count) ∷ rest) are =
    let t = tail_longest (context, suc count) rest are in
    stretch count context (turns_in rest) rest (same_runs rest t.1.0) t.1.1

-- ---- prints and words

pub prints_fit : (contexts line : ℕ) (prints : List (ℕ × ℕ)) → first_unfit (tested (fits_print contexts) line prints) ≡ None
    → AllByRecursion (λ print. print.0 < contexts) prints
prints_fit contexts line [] none = tt
prints_fit contexts line (print ∷ rest) none =
    let h = head_fits (fits_print contexts print) line (tested (fits_print contexts) (line + 1) rest) none in
    ((let t = h.0 in grind (arith, nat_tests)), prints_fit contexts (line + 1) rest h.1)

shared-is : (parts : Parts) (address : ℕ) → is_shared (line_count parts) address ≡ true → IsSharedAddress parts address
shared-is parts address is =
    let a = and_parts (address % 4 == 0) (nat_le shared_base address && nat_lt address (shared_base + 16 * line_count parts)) is in
    let b = and_parts (nat_le shared_base address) (nat_lt address (shared_base + 16 * line_count parts)) a.1 in
    ((let t = a.0 in grind (arith, nat_tests)), (let t = b.0 in grind (arith, nat_tests)), (let t = b.1 in grind (arith, nat_tests)))

not_zero : (word : ℕ) → not (word == 0) ≡ true → word ≢ 0
not_zero word is zero-is = true≢false (sym is ∙ ap not (let t : (word == 0) ≡ true = grind (arith, nat_tests) in t))

pub words_fit : (parts : Parts) (line : ℕ) (before : Option ℕ) (words : List (ℕ × ℕ)) → first_unfit (word_tests (line_count parts) line before words) ≡ None
    → AllByRecursion (λ word. IsSharedAddress parts word.0 × (word.1 ≢ 0)) words
words_fit parts line before [] none = tt
words_fit parts line before (word ∷ rest) none =
    let h = head_fits (fits_word (line_count parts) before word) line (word_tests (line_count parts) (line + 1) (Some word.0) rest) none in
    let a = and_parts (is_above before word.0) (is_shared (line_count parts) word.0 && not (word.1 == 0)) h.0 in
    let b = and_parts (is_shared (line_count parts) word.0) (not (word.1 == 0)) a.1 in
    ((shared-is parts word.0 b.0, not_zero word.1 b.1), words_fit parts (line + 1) (Some word.0) rest h.1)

step : (a b : ℕ) (rest : List ℕ) → a < b → IsStrictlyIncreasing (b ∷ rest) → IsStrictlyIncreasing (a ∷ b ∷ rest)
step a b rest first others zero within = first
step a b rest first others (suc k) within =
    let e : suc k + 1 ≡ suc (k + 1) = omega arith in
    subst (λ (m : ℕ). slice_index (b ∷ rest) k < slice_index (a ∷ b ∷ rest) m) (sym e) (others k (omega arith))

ascends_from : (lines line before : ℕ) (words : List (ℕ × ℕ)) → first_unfit (word_tests lines line (Some before) words) ≡ None
    → IsStrictlyIncreasing (before ∷ map (λ word. word.0) words)
ascends_from lines line before [] none = λ k within. absurd (omega arith)
ascends_from lines line before (word ∷ rest) none =
    let h = head_fits (fits_word lines (Some before) word) line (word_tests lines (line + 1) (Some word.0) rest) none in
    let a = and_parts (nat_lt before word.0) (is_shared lines word.0 && not (word.1 == 0)) h.0 in
    let above : before < word.0 = (let t = a.0 in grind (arith, nat_tests)) in
    step before word.0 (map (λ word. word.0) rest) above (ascends_from lines (line + 1) word.0 rest h.1)

pub words_ascend : (lines line : ℕ) (words : List (ℕ × ℕ)) → first_unfit (word_tests lines line None words) ≡ None
    → IsStrictlyIncreasing (map (λ word. word.0) words)
words_ascend lines line [] none = λ k within. absurd (omega arith)
words_ascend lines line (word ∷ rest) none =
    let h = head_fits (fits_word lines None word) line (word_tests lines (line + 1) (Some word.0) rest) none in
    ascends_from lines (line + 1) word.0 rest h.1

-- ---- tests behind others

pub first_passed : (xs ys : List (ℕ × Bool)) → first_unfit xs ≡ None → first_unfit (xs ++ ys) ≡ first_unfit ys
first_passed [] ys none = refl
first_passed (x ∷ xs) ys none =
    let h = passed x.1 x.0 (first_unfit xs) none in
    rw h.0 (first_passed xs ys h.1)

pub first_stopped : (xs ys : List (ℕ × Bool)) (line : ℕ) → first_unfit xs ≡ Some line → first_unfit (xs ++ ys) ≡ Some line
first_stopped [] ys line is = absurd (none-some line is)
first_stopped (x ∷ xs) ys line is = go x.1 refl (first_stopped xs ys line) is
  where
    go : (b : Bool) → x.1 ≡ b → (first_unfit xs ≡ Some line → first_unfit (xs ++ ys) ≡ Some line) → (if b then first_unfit xs else Some x.0) ≡ Some line
        → (if b then first_unfit (xs ++ ys) else Some x.0) ≡ Some line
    go true e more is = more is
    go false e more is = is
