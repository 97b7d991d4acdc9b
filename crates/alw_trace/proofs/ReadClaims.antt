-- A claim's text is read as nothing else: its lines are in range.
use Rattle.std.proofs.Common.{◌≡◌, ◌≢◌, ℕ, zero, suc, ◌+◌, ◌*◌, ◌%◌, ◌<◌, ◌≤◌, ◌==◌, ◌&&◌, Bool, true, not, nat_le, nat_lt, Option, Some, None, Err, List, [], ◌∷◌, ◌++◌, length, map, replicate, codes, refl, sym, ap, subst, ◌∙◌, arith, append_assoc, length-append}
use Rattle.std.specs.List.{AllByRecursion}
use Rattle.std.specs.List.Sorted.{IsStrictlyIncreasing}
use Rattle.std.proofs.lemmas.Bool.{and_from}
use Rattle.std.proofs.lemmas.Bool.Decides.{nat_tests}
use Rattle.std.proofs.lemmas.Option.{none-some}
use Rattle.alw_num.specs.Limits.{shared_base}
use Rattle.alw_msg.specs.Stretches.{stretches, turns_in, AreLongest}
use Rattle.alw_msg.proofs.StretchLaws.{same_turns, are_longest}
use Rattle.alw_image.specs.declared.parts.Parts.{Parts}
use Rattle.alw_image.specs.Images.{IsImage, node_count, context_count, line_count, spelling}
use Rattle.alw_image.specs.Numbers.{IsWord}
use Rattle.alw_image.specs.Faults.{first_unfit, image_fault, image_in, is_above}
use Rattle.alw_image.proofs.HeaderFields.{product}
use Rattle.alw_image.proofs.Spelled.{has_no_fault, same_image}
use Rattle.alw_report.specs.Reports.{runs_text, prints_text, memory_text}
use Rattle.alw_trace.specs.declared.values.Claim.{Claim}
use Rattle.alw_trace.specs.declared.faults.TextErr.{TextErr}
use Rattle.alw_trace.specs.declared.faults.TextErr.TheVariants.{Syntax, Image, Range, NoMemory}
use Rattle.alw_trace.specs.Texts.{image_text, claim_title, lists_text, claim_text}
use Rattle.alw_trace.specs.Lines.{IsNumber, IsStretch, IsPrint, IsMemoryWord, ClaimLines, AreClaimLines, claim_lines, behind_image, IsClaimFault}
use Rattle.alw_trace.specs.Readings.{is_short, is_other, fits_run, run_tests, runs_tests, tested, fits_print, prints_tests, is_shared, fits_word, word_tests, memory_tests, claim_tests, most_turns, IsSharedAddress, IsClaim, HasClaimTypes, ReadsClaim}
use Rattle.alw_trace.proofs.ClaimLists.{starts_other, other_than, length-same, tail_longest, first_passed}
use Rattle.alw_trace.proofs.OneTrace.{few_nodes, spelling_bytes, short_spelling, image_back}
use Rattle.alw_trace.proofs.OneClaim.{no_claim_fault, one_claim}
use Rattle.alw_image.proofs.Orders.{tail_ascends}

-- ---- turns in stretches

all_behind : {X : Type 0} (P : X → Type 0) (xs ys : List X) → AllByRecursion P (xs ++ ys) → AllByRecursion P ys
all_behind P [] ys all = all
all_behind P (x ∷ xs) ys all = all_behind P xs ys all.1

first_turn : (contexts count context : ℕ) (rest : List ℕ) → 1 ≤ count → AllByRecursion (λ c. c < contexts) (replicate count context ++ rest)
    → context < contexts
first_turn contexts zero context rest some all = absurd (omega arith)
first_turn contexts (suc count) context rest some all = all.0

passed : (b : Bool) (line : ℕ) (rest : List (ℕ × Bool)) → b ≡ true → first_unfit rest ≡ None → first_unfit ((line, b) ∷ rest) ≡ None
passed b line rest e none = rw e none

other-is : (before : Option ℕ) (c : ℕ) → other_than before c → is_other before c ≡ true
other-is None c other = refl
other-is (Some before) c other = grind (arith, nat_tests)

runs_pass : (contexts line turns : ℕ) (before : Option ℕ) (runs : List (ℕ × ℕ)) → AllByRecursion (λ c. c < contexts) (turns_in runs) → AreLongest runs
    → starts_other before runs → turns + length (turns_in runs) ≤ most_turns
    → first_unfit (run_tests contexts line turns before runs) ≡ None
runs_pass contexts line turns before [] all are apart few = refl
runs_pass contexts line turns before (run ∷ rest) all are apart few =
    let t = tail_longest run rest are in
    let exists : run.0 < contexts = first_turn contexts run.1 run.0 (turns_in rest) t.0 all in
    let size : length (turns_in (run ∷ rest)) ≡ run.1 + length (turns_in rest) = length-append (replicate run.1 run.0) (turns_in rest)
    ∙ ap (λ (n : ℕ). n + length (turns_in rest)) (length-same run.1 run.0) in
    let fit : fits_run contexts turns before run ≡ true =
    and_from (nat_lt run.0 contexts) (is_other before run.0 && (nat_le 1 run.1 && nat_le (turns + run.1) most_turns)) (grind (arith, nat_tests))
    (and_from (is_other before run.0) (nat_le 1 run.1 && nat_le (turns + run.1) most_turns) (other-is before run.0 apart)
    (and_from (nat_le 1 run.1) (nat_le (turns + run.1) most_turns) (let some = t.0 in grind (arith, nat_tests))
    (let within : turns + run.1 ≤ most_turns = omega (arith, few, size) in grind (arith, nat_tests)))) in
    passed (fits_run contexts turns before run) line (run_tests contexts (line + 1) (turns + run.1) (Some run.0) rest) fit
    (runs_pass contexts (line + 1) (turns + run.1) (Some run.0) rest (all_behind (λ c. c < contexts) (replicate run.1 run.0) (turns_in rest) all) t.1.0 t.1.1
    (omega (arith, few, size)))

runs_are : (contexts : ℕ) (runs : List (ℕ × ℕ)) → contexts ≤ 1024 → AllByRecursion (λ c. c < contexts) (turns_in runs) → AreLongest runs
    → length (turns_in runs) ≤ most_turns → AllByRecursion IsStretch runs × (length runs ≤ length (turns_in runs))
runs_are contexts [] few all are most = (tt, omega arith)
runs_are contexts (run ∷ rest) few all are most =
    let t = tail_longest run rest are in
    let exists : run.0 < contexts = first_turn contexts run.1 run.0 (turns_in rest) t.0 all in
    let size : length (turns_in (run ∷ rest)) ≡ run.1 + length (turns_in rest) = length-append (replicate run.1 run.0) (turns_in rest)
    ∙ ap (λ (n : ℕ). n + length (turns_in rest)) (length-same run.1 run.0) in
    let more = runs_are contexts rest few (all_behind (λ c. c < contexts) (replicate run.1 run.0) (turns_in rest) all) t.1.0 (omega (arith, most, size)) in
    let some = t.0 in
    let fewer = more.1 in
    let numbers : IsStretch run = (omega arith, omega (arith, most, size)) in
    ((numbers, more.0), omega (arith, size))

-- ---- prints and words

prints_pass : (contexts line : ℕ) (prints : List (ℕ × ℕ)) → AllByRecursion (λ print. print.0 < contexts) prints
    → first_unfit (tested (fits_print contexts) line prints) ≡ None
prints_pass contexts line [] all = refl
prints_pass contexts line (print ∷ rest) all =
    passed (fits_print contexts print) line (tested (fits_print contexts) (line + 1) rest) (let l = all.0 in grind (arith, nat_tests))
    (prints_pass contexts (line + 1) rest all.1)

prints_are : (contexts : ℕ) (prints : List (ℕ × ℕ)) → contexts ≤ 1024 → AllByRecursion (λ print. print.0 < contexts) prints
    → AllByRecursion (λ print. IsWord print.1) prints → AllByRecursion IsPrint prints
prints_are contexts [] few all words = tt
prints_are contexts (print ∷ rest) few all words =
    let number : IsNumber print.0 = (let l = all.0 in omega arith) in
    ((number, words.0), prints_are contexts rest few all.1 words.1)

shared-is : (parts : Parts) (address : ℕ) → IsSharedAddress parts address → is_shared (line_count parts) address ≡ true
shared-is parts address is =
    let aligned = is.0 in let low = is.1 in let high = is.2 in
    and_from (address % 4 == 0) (nat_le shared_base address && nat_lt address (shared_base + 16 * line_count parts)) (grind (arith, nat_tests))
    (and_from (nat_le shared_base address) (nat_lt address (shared_base + 16 * line_count parts)) (grind (arith, nat_tests)) (grind (arith, nat_tests)))

-- words are above an address, if there is one
abbrev above-is : Option ℕ → List (ℕ × ℕ) → Type 0
above-is None words = Unit {0}
above-is (Some before) words = IsStrictlyIncreasing (before ∷ map (λ word. word.0) words)

is_above-is : (before : Option ℕ) (word : ℕ × ℕ) (rest : List (ℕ × ℕ)) → above-is before (word ∷ rest) → is_above before word.0 ≡ true
is_above-is None word rest up = refl
is_above-is (Some before) word rest up = let first : before < word.0 = up 0 (omega arith) in grind (arith, nat_tests)

words_pass : (parts : Parts) (line : ℕ) (before : Option ℕ) (words : List (ℕ × ℕ))
    → AllByRecursion (λ word. IsSharedAddress parts word.0 × (word.1 ≢ 0)) words → IsStrictlyIncreasing (map (λ word. word.0) words) → above-is before words
    → first_unfit (word_tests (line_count parts) line before words) ≡ None
words_pass parts line before [] all up above = refl
words_pass parts line before (word ∷ rest) all up above =
    let kept : not (word.1 == 0) ≡ true = (let some = all.0.1 in grind (arith, nat_tests)) in
    let fit : fits_word (line_count parts) before word ≡ true =
    and_from (is_above before word.0) (is_shared (line_count parts) word.0 && not (word.1 == 0)) (is_above-is before word rest above)
    (and_from (is_shared (line_count parts) word.0) (not (word.1 == 0)) (shared-is parts word.0 all.0.0) kept) in
    passed (fits_word (line_count parts) before word) line (word_tests (line_count parts) (line + 1) (Some word.0) rest) fit
    (words_pass parts (line + 1) (Some word.0) rest all.1 (tail_ascends word.0 (map (λ word. word.0) rest) up) up)

words_are : (parts : Parts) (words : List (ℕ × ℕ)) → line_count parts ≤ 1048576 → AllByRecursion (λ word. IsSharedAddress parts word.0 × (word.1 ≢ 0)) words
    → AllByRecursion (λ word. IsWord word.1) words → AllByRecursion IsMemoryWord words
words_are parts [] few all words = tt
words_are parts (word ∷ rest) few all words =
    let address : IsWord word.0 = (let high = all.0.0.2 in omega arith) in
    ((address, words.0), words_are parts rest few all.1 words.1)

-- ---- the lines of a claim

abbrev pub lines_in : Claim → ClaimLines
lines_in c = record { image = spelling c.image; runs = stretches c.turns; prints = c.prints; memory = c.memory }

few_contexts : (p : Parts) → IsImage p → context_count p ≤ 1024
few_contexts p i = product (node_count p) p.contexts 256 4 (few_nodes p i) i.contexts.1

few_lines : (p : Parts) → IsImage p → line_count p ≤ 1048576
few_lines p i = product (node_count p) p.per_node 256 4096 (few_nodes p i) i.per_node.1

turns_are : (c : Claim) → IsClaim c
    → AllByRecursion (λ context. context < context_count c.image) (turns_in (stretches c.turns)) × (length (turns_in (stretches c.turns)) ≤ most_turns)
turns_are c is =
    let same = same_turns c.turns in (
      subst (λ (t : List ℕ). AllByRecursion (λ context. context < context_count c.image) t) (sym same) is.turns,
      subst (λ (t : List ℕ). length t ≤ most_turns) (sym same) is.turn_count,
    )

pub claim_form : (c : Claim) → IsClaim c → HasClaimTypes c → AreClaimLines (lines_in c)
claim_form c is types =
    let turns = turns_are c is in
    let runs = runs_are (context_count c.image) (stretches c.turns) (few_contexts c.image is.image) turns.0 (are_longest c.turns) turns.1 in
    record {
      bytes = spelling_bytes c.image is.image;
      size = short_spelling c.image is.image;
      runs = runs.0;
      run_count = (let few = runs.1 in let most = turns.1 in omega arith);
      prints = prints_are (context_count c.image) c.prints (few_contexts c.image is.image) is.prints types.printed;
      print_count = (let few = types.print_count in omega arith);
      memory = words_are c.image c.memory (few_lines c.image is.image) is.memory types.stored;
      word_count = (let few = types.word_count in omega arith);
    }

text-is : (c : Claim) → claim_text c ≡ claim_lines (lines_in c)
unfolding claim_text lists_text claim_lines
text-is c = ap (λ (t : List ℕ). claim_title ++ (image_text (spelling c.image) ++ t))
    (grouped (runs_text (stretches c.turns)) (prints_text c.prints) (memory_text c.memory) (codes "end\n"))
  where
    grouped : (a b c d : List ℕ) → (a ++ (b ++ c)) ++ d ≡ a ++ (b ++ (c ++ d))
    grouped a b c d = append_assoc a (b ++ c) d ∙ ap (λ (t : List ℕ). a ++ t) (append_assoc b c d)

-- one text is one claim's
pub same_claim : (one other : Claim) → IsClaim one → IsClaim other → HasClaimTypes one → HasClaimTypes other → claim_text one ≡ claim_text other → one ≡ other
same_claim one other is are types others e =
    let lines = one_claim (lines_in one) (lines_in other) (claim_form one is types) (claim_form other are others) (sym (text-is one) ∙ e ∙ text-is other) in
    let image = same_image one.image other.image is.image types.words are.image others.words (ap (λ (t : ClaimLines). t.image) lines) in
    let turns = sym (same_turns one.turns) ∙ ap (λ (t : ClaimLines). turns_in t.runs) lines ∙ same_turns other.turns in
    same one.image other.image one.turns other.turns one.prints other.prints one.memory other.memory image turns (ap (λ (t : ClaimLines). t.prints) lines)
    (ap (λ (t : ClaimLines). t.memory) lines)
  where
    same : (i j : Parts) (a b : List ℕ) (p q x y : List (ℕ × ℕ)) → i ≡ j → a ≡ b → p ≡ q → x ≡ y
        → ◌≡◌ {A = Claim} (record { image = i; turns = a; prints = p; memory = x }) (record { image = j; turns = b; prints = q; memory = y })
    same i j a b p q x y d e f g = cc

claim_passes : (c : Claim) → IsClaim c → HasClaimTypes c → first_unfit (claim_tests c.image (lines_in c)) ≡ None
unfolding claim_tests
claim_passes c is types =
    let turns = turns_are c is in
    let counted = runs_are (context_count c.image) (stretches c.turns) (few_contexts c.image is.image) turns.0 (are_longest c.turns) turns.1 in
    let at = behind_image (spelling c.image) in
    let behind = at + 1 + length (stretches c.turns) in
    let last = behind + 1 + length c.prints in
    let runs : first_unfit (runs_tests (context_count c.image) at (stretches c.turns)) ≡ None =
    passed (is_short (stretches c.turns)) at (run_tests (context_count c.image) (at + 1) 0 None (stretches c.turns))
    (let few = counted.1 in let most = turns.1 in grind (arith, nat_tests))
    (runs_pass (context_count c.image) (at + 1) 0 None (stretches c.turns) turns.0 (are_longest c.turns) (none_before (stretches c.turns))
    (let most = turns.1 in omega arith)) in
    let prints : first_unfit (prints_tests (context_count c.image) behind c.prints) ≡ None =
    passed (is_short c.prints) behind (tested (fits_print (context_count c.image)) (behind + 1) c.prints)
    (let few = types.print_count in grind (arith, nat_tests)) (prints_pass (context_count c.image) (behind + 1) c.prints is.prints) in
    let memory : first_unfit (memory_tests (line_count c.image) last c.memory) ≡ None =
    passed (is_short c.memory) last (word_tests (line_count c.image) (last + 1) None c.memory)
    (let few = types.word_count in grind (arith, nat_tests)) (words_pass c.image (last + 1) None c.memory is.memory is.ascends tt) in
    first_passed (runs_tests (context_count c.image) at (stretches c.turns))
    (prints_tests (context_count c.image) behind c.prints ++ memory_tests (line_count c.image) last c.memory) runs
    ∙ first_passed (prints_tests (context_count c.image) behind c.prints) (memory_tests (line_count c.image) last c.memory) prints ∙ memory
  where
    none_before : (runs : List (ℕ × ℕ)) → starts_other None runs
    none_before [] = tt
    none_before (run ∷ rest) = tt

-- its text is refused for want of memory alone
pub claim_back : (c : Claim) (fault : TextErr) → IsClaim c → HasClaimTypes c → ReadsClaim (claim_text c) (Err fault) → fault ≡ NoMemory
claim_back c (Syntax line) is types wrong =
    absurd (no_claim_fault (lines_in c) line (claim_form c is types) (subst (λ (text : List ℕ). IsClaimFault text line) (text-is c) wrong))
claim_back c (Image fault) is types wrong =
    let same = one_claim (lines_in c) wrong.0 (claim_form c is types) wrong.1.form (sym (text-is c) ∙ wrong.1.text_is) in
    absurd (none-some fault (sym (has_no_fault c.image is.image types.words) ∙ ap (λ (lines : ClaimLines). image_fault lines.image) same ∙ wrong.1.image))
claim_back c (Range line) is types wrong =
    let same = one_claim (lines_in c) wrong.0 (claim_form c is types) wrong.1.form (sym (text-is c) ∙ wrong.1.text_is) in
    let tests : first_unfit (claim_tests (image_in (spelling c.image)) (lines_in c)) ≡ Some line =
    ap (λ (lines : ClaimLines). first_unfit (claim_tests (image_in lines.image) lines)) same ∙ wrong.2 in
    absurd (none-some line (sym (claim_passes c is types)
    ∙ ap (λ (p : Parts). first_unfit (claim_tests p (lines_in c))) (sym (image_back c.image is.image types.words)) ∙ tests))
claim_back c NoMemory is types wrong = refl
