-- A claim of its lines, or the first line that is out of range; and what a text is read as.
use Rattle.std.proofs.Common.{◌≡◌, ℕ, ◌+◌, ◌<◌, ◌≤◌, Bool, Some, None, Result, Ok, Err, IfOk, IfErr, List, ◌++◌, length, codes, sym, ap, subst, ◌∙◌, arith, append_assoc}
use Rattle.std.specs.List.{AllByRecursion}
use Rattle.alw_msg.specs.Stretches.{stretches, turns_in}
use Rattle.alw_image.specs.declared.parts.Parts.{Parts}
use Rattle.alw_image.specs.Images.{IsImage, spelling, context_count, line_count}
use Rattle.alw_image.specs.Numbers.{IsWord, HasWords}
use Rattle.alw_image.specs.Faults.{first_unfit, image_fault, image_in}
use Rattle.alw_image.proofs.Orders.{all_weaker}
use Rattle.alw_report.specs.Reports.{runs_text, prints_text, memory_text}
use Rattle.alw_trace.specs.declared.values.Claim.{Claim}
use Rattle.alw_trace.specs.declared.faults.TextErr.{TextErr}
use Rattle.alw_trace.specs.declared.faults.TextErr.TheVariants.{Syntax, Image, Range, NoMemory}
use Rattle.alw_trace.specs.declared.raw.RawClaim.{RawClaim}
use Rattle.alw_trace.specs.Texts.{image_text, claim_title, lists_text, claim_text}
use Rattle.alw_trace.specs.Lines.{IsPrint, IsMemoryWord, ClaimLines, claim_lines, behind_image}
use Rattle.alw_trace.specs.Readings.{is_short, run_tests, runs_tests, tested, fits_print, prints_tests, word_tests, memory_tests, claim_tests, most_turns, HasClaimTypes, ReadsClaim}
use Rattle.alw_trace.specs.Raw.{IsRangeFault, IsImageOf}
use Rattle.alw_trace.specs.Lists.{claim_of, AreTurns, ArePrints, LinesAreWords, IsOfClaim, IsClaimOf, IsNoClaim}
use Rattle.alw_trace.proofs.InRange.{no_fault}
use Rattle.alw_trace.proofs.ReadWords.{words_in}
use Rattle.alw_trace.proofs.ClaimLists.{head_fits, runs_fit, same_runs, prints_fit, words_fit, words_ascend, first_passed, first_stopped}

-- what the tests of a claim's lines need of its image, whose bytes are an image
pub record ClaimHasSizes (raw : RawClaim) (contexts shared at : ℕ) : Type 0 where
  pub accepted : image_fault raw.image ≡ None
  pub contexts_are : contexts ≡ context_count (image_in raw.image)
  pub lines_are : shared ≡ line_count (image_in raw.image)
  pub place : at ≡ behind_image raw.image

pub sizes : (bytes : List ℕ) (raw : RawClaim) (image : Parts) (contexts shared at : ℕ) → bytes ≡ raw.image → IsImageOf bytes image
    → contexts ≡ context_count image → shared ≡ line_count image
    → at ≡ behind_image raw.image → ClaimHasSizes raw contexts shared at
sizes bytes raw image contexts shared at e is counted lined here = record {
  accepted = no_fault bytes raw.image image e is;
  contexts_are = counted ∙ ap context_count (is.parts ∙ ap image_in e);
  lines_are = lined ∙ ap line_count (is.parts ∙ ap image_in e);
  place = here;
}

-- the tests of each list
abbrev of_runs : RawClaim → ℕ → ℕ → List (ℕ × Bool)
of_runs raw contexts at = runs_tests contexts at raw.runs.items

abbrev of_prints : RawClaim → ℕ → ℕ → List (ℕ × Bool)
of_prints raw contexts at = prints_tests contexts (at + 1 + length raw.runs.items) raw.prints.items

abbrev of_memory : RawClaim → ℕ → ℕ → List (ℕ × Bool)
of_memory raw shared at = memory_tests shared (at + 1 + length raw.runs.items + 1 + length raw.prints.items) raw.memory.items

-- the tests of all lines
tests-are : (raw : RawClaim) (contexts shared at : ℕ) → ClaimHasSizes raw contexts shared at → claim_tests (image_in raw.image) (claim_of raw)
    ≡ of_runs raw contexts at ++ (of_prints raw contexts at ++ of_memory raw shared at)
unfolding claim_tests
tests-are raw contexts shared at h =
    ap (λ (n : ℕ). runs_tests (context_count (image_in raw.image)) n raw.runs.items ++
    (prints_tests (context_count (image_in raw.image)) (n + 1 + length raw.runs.items) raw.prints.items
    ++ memory_tests (line_count (image_in raw.image)) (n + 1 + length raw.runs.items + 1 + length raw.prints.items) raw.memory.items)) (sym h.place)
    ∙ ap (λ (n : ℕ). runs_tests n at raw.runs.items ++ (prints_tests n (at + 1 + length raw.runs.items) raw.prints.items
    ++ memory_tests (line_count (image_in raw.image)) (at + 1 + length raw.runs.items + 1 + length raw.prints.items) raw.memory.items)) (sym h.contexts_are)
    ∙ ap (λ (n : ℕ). runs_tests contexts at raw.runs.items ++ (prints_tests contexts (at + 1 + length raw.runs.items) raw.prints.items
    ++ memory_tests n (at + 1 + length raw.runs.items + 1 + length raw.prints.items) raw.memory.items)) (sym h.lines_are)

pub wrong_run : (raw : RawClaim) (contexts shared at : ℕ) (runs : List (ℕ × ℕ)) (fault : TextErr) → ClaimHasSizes raw contexts shared at → runs ≡ raw.runs.items
    → IsRangeFault (λ line. first_unfit (runs_tests contexts at runs) ≡ Some line) fault → IsNoClaim (claim_of raw) fault
wrong_run raw contexts shared at runs (Syntax line) h same is = is
wrong_run raw contexts shared at runs (Image f) h same is = absurd is
wrong_run raw contexts shared at runs (Range line) h same is =
    let here : first_unfit (runs_tests contexts at raw.runs.items) ≡ Some line = ap (λ (r : List (ℕ × ℕ)). first_unfit (runs_tests contexts at r)) (sym same)
    ∙ is in (
      h.accepted,
      ap first_unfit (tests-are raw contexts shared at h)
          ∙ first_stopped (of_runs raw contexts at) (of_prints raw contexts at ++ of_memory raw shared at) line here,
    )
wrong_run raw contexts shared at runs NoMemory h same is = tt

runs_passed : (raw : RawClaim) (contexts at : ℕ) (runs : List (ℕ × ℕ)) (turns : List ℕ) → runs ≡ raw.runs.items → AreTurns contexts at runs turns
    → first_unfit (runs_tests contexts at raw.runs.items) ≡ None
runs_passed raw contexts at runs turns same are = ap (λ (r : List (ℕ × ℕ)). first_unfit (runs_tests contexts at r)) (sym same) ∙ are.fits

pub wrong_print : (raw : RawClaim) (contexts shared at behind : ℕ) (runs : List (ℕ × ℕ)) (turns : List ℕ) (prints : List (ℕ × ℕ)) (fault : TextErr)
    → ClaimHasSizes raw contexts shared at → runs ≡ raw.runs.items → AreTurns contexts at runs turns
    → behind ≡ at + 1 + length raw.runs.items → prints ≡ raw.prints.items
    → IsRangeFault (λ line. first_unfit (prints_tests contexts behind prints) ≡ Some line) fault → IsNoClaim (claim_of raw) fault
wrong_print raw contexts shared at behind runs turns prints (Syntax line) h same are place all is = is
wrong_print raw contexts shared at behind runs turns prints (Image f) h same are place all is = absurd is
wrong_print raw contexts shared at behind runs turns prints (Range line) h same are place all is =
    let here : first_unfit (prints_tests contexts (at + 1 + length raw.runs.items) raw.prints.items) ≡ Some line =
    ap (λ (n : ℕ). first_unfit (prints_tests contexts n raw.prints.items)) (sym place)
    ∙ ap (λ (p : List (ℕ × ℕ)). first_unfit (prints_tests contexts behind p)) (sym all) ∙ is in (
      h.accepted,
      ap first_unfit (tests-are raw contexts shared at h)
          ∙ first_passed (of_runs raw contexts at) (of_prints raw contexts at ++ of_memory raw shared at) (runs_passed raw contexts at runs turns same are)
          ∙ first_stopped (of_prints raw contexts at) (of_memory raw shared at) line here,
    )
wrong_print raw contexts shared at behind runs turns prints NoMemory h same are place all is = tt

prints_passed : (raw : RawClaim) (contexts at behind : ℕ) (lines prints : List (ℕ × ℕ)) → behind ≡ at + 1 + length raw.runs.items → lines ≡ raw.prints.items
    → ArePrints contexts behind lines prints
    → first_unfit (prints_tests contexts (at + 1 + length raw.runs.items) raw.prints.items) ≡ None
prints_passed raw contexts at behind lines prints place same are =
    ap (λ (n : ℕ). first_unfit (prints_tests contexts n raw.prints.items)) (sym place)
    ∙ ap (λ (p : List (ℕ × ℕ)). first_unfit (prints_tests contexts behind p)) (sym same) ∙ are.fits

pub wrong_word : (raw : RawClaim) (contexts shared at behind last : ℕ) (runs : List (ℕ × ℕ)) (turns : List ℕ) (lines prints words : List (ℕ × ℕ))
    (fault : TextErr) → ClaimHasSizes raw contexts shared at → runs ≡ raw.runs.items → AreTurns contexts at runs turns
    → behind ≡ at + 1 + length raw.runs.items → lines ≡ raw.prints.items → ArePrints contexts behind lines prints
    → last ≡ behind + 1 + length raw.prints.items → words ≡ raw.memory.items
    → IsRangeFault (λ line. first_unfit (memory_tests shared last words) ≡ Some line) fault → IsNoClaim (claim_of raw) fault
wrong_word raw contexts shared at behind last runs turns lines prints words (Syntax line) h same are place all listed end whole is = is
wrong_word raw contexts shared at behind last runs turns lines prints words (Image f) h same are place all listed end whole is = absurd is
wrong_word raw contexts shared at behind last runs turns lines prints words (Range line) h same are place all listed end whole is =
    let there : last ≡ at + 1 + length raw.runs.items + 1 + length raw.prints.items = end ∙ ap (λ (n : ℕ). n + 1 + length raw.prints.items) place in
    let here : first_unfit (memory_tests shared (at + 1 + length raw.runs.items + 1 + length raw.prints.items) raw.memory.items) ≡ Some line =
    ap (λ (n : ℕ). first_unfit (memory_tests shared n raw.memory.items)) (sym there)
    ∙ ap (λ (w : List (ℕ × ℕ)). first_unfit (memory_tests shared last w)) (sym whole) ∙ is in (
      h.accepted,
      ap first_unfit (tests-are raw contexts shared at h)
          ∙ first_passed (of_runs raw contexts at) (of_prints raw contexts at ++ of_memory raw shared at) (runs_passed raw contexts at runs turns same are)
          ∙ first_passed (of_prints raw contexts at) (of_memory raw shared at) (prints_passed raw contexts at behind lines prints place all listed) ∙ here,
    )
wrong_word raw contexts shared at behind last runs turns lines prints words NoMemory h same are place all listed end whole is = tt

-- ---- the claim

pub found : (bytes : List ℕ) (raw : RawClaim) (image : Parts) (contexts shared at behind last : ℕ) (runs : List (ℕ × ℕ)) (turns : List ℕ)
    (lines prints list words : List (ℕ × ℕ)) → bytes ≡ raw.image → IsImageOf bytes image → IsImage image
    → contexts ≡ context_count image → shared ≡ line_count image → runs ≡ raw.runs.items → AreTurns contexts at runs turns
    → lines ≡ raw.prints.items → ArePrints contexts behind lines prints
    → list ≡ raw.memory.items → LinesAreWords shared last list words
    → IsClaimOf (claim_of raw) (record { image = image; turns = turns; prints = prints; memory = words })
found bytes raw image contexts shared at behind last runs turns lines prints list words e is allowed number size same are
    all listed whole kept =
    let fit = runs_fit contexts (at + 1) 0 None runs (omega arith) (head_fits (is_short runs) at (run_tests contexts (at + 1) 0 None runs) are.fits).1 in
    let shown = prints_fit contexts (behind + 1) lines (head_fits (is_short lines) behind (tested (fits_print contexts) (behind + 1) lines) listed.fits).1 in
    let tests : first_unfit (word_tests (line_count image) (last + 1) None list) ≡ None =
    ap (λ (n : ℕ). first_unfit (word_tests n (last + 1) None list)) (sym size)
    ∙ (head_fits (is_short list) last (word_tests shared (last + 1) None list) kept.fits).1 in
    record {
      image = record { spelled = sym e ∙ is.spelled; parts = is.parts ∙ ap image_in e; accepted = no_fault bytes raw.image image e is };
      runs = ap stretches are.same ∙ same_runs runs fit.longest ∙ same;
      prints = listed.same ∙ all;
      memory = kept.same ∙ whole;
      print_count = rw listed.same listed.short;
      word_count = rw kept.same kept.short;
      is_claim = record {
        image = allowed;
        turns = subst (λ (t : List ℕ). AllByRecursion (λ context. context < context_count image) t) (sym are.same)
            (subst (λ (n : ℕ). AllByRecursion (λ context. context < n) (turns_in runs)) number fit.each);
        turn_count = subst (λ (t : List ℕ). length t ≤ most_turns) (sym are.same) (omega (arith, fit.most));
        prints = subst (λ (p : List (ℕ × ℕ)). AllByRecursion (λ print. print.0 < context_count image) p) (sym listed.same)
            (subst (λ (n : ℕ). AllByRecursion (λ print. print.0 < n) lines) number shown);
        memory = rw kept.same (words_fit image (last + 1) None list tests);
        ascends = rw kept.same (words_ascend (line_count image) (last + 1) list tests);
      };
    }

-- ---- readings

of_parts : (text bytes : List ℕ) (runs prints memory : List (ℕ × ℕ)) (claim : Claim)
    → text ≡ claim_title ++ (image_text bytes ++ (runs_text runs ++ (prints_text prints ++ (memory_text memory ++ codes "end\n"))))
    → bytes ≡ spelling claim.image → stretches claim.turns ≡ runs → claim.prints ≡ prints → claim.memory ≡ memory → text ≡ claim_text claim
unfolding claim_text lists_text
of_parts text bytes runs prints memory claim e image turns printed words =
    e ∙ ap (λ (b : List ℕ). claim_title ++ (image_text b ++ (runs_text runs ++ (prints_text prints ++ (memory_text memory ++ codes "end\n"))))) image
    ∙ ap (λ (r : List (ℕ × ℕ)). claim_title ++
    (image_text (spelling claim.image) ++ (runs_text r ++ (prints_text prints ++ (memory_text memory ++ codes "end\n"))))) (sym turns)
    ∙ ap (λ (p : List (ℕ × ℕ)). claim_title ++
    (image_text (spelling claim.image) ++ (runs_text (stretches claim.turns) ++ (prints_text p ++ (memory_text memory ++ codes "end\n"))))) (sym printed)
    ∙ ap (λ (m : List (ℕ × ℕ)). claim_title ++
    (image_text (spelling claim.image) ++ (runs_text (stretches claim.turns) ++ (prints_text claim.prints ++ (memory_text m ++ codes "end\n")))))
    (sym words)
    ∙ ap (λ (t : List ℕ). claim_title ++ (image_text (spelling claim.image) ++ t))
    (sym (grouped (runs_text (stretches claim.turns)) (prints_text claim.prints) (memory_text claim.memory) (codes "end\n")))
  where
    grouped : (a b c d : List ℕ) → (a ++ (b ++ c)) ++ d ≡ a ++ (b ++ (c ++ d))
    grouped a b c d = append_assoc a (b ++ c) d ∙ ap (λ (t : List ℕ). a ++ t) (append_assoc b c d)

accepted : (text : List ℕ) (lines : ClaimLines) (claim : Claim) → IsOfClaim text lines → IsClaimOf lines claim → ReadsClaim text (Ok claim)
unfolding claim_lines
accepted text lines claim form is =
    (of_parts text lines.image lines.runs lines.prints lines.memory claim form.text_is is.image.spelled is.runs is.prints is.memory, is.is_claim)

wrong_lines : (text : List ℕ) (lines : ClaimLines) (fault : TextErr) → IsOfClaim text lines → IsNoClaim lines fault → ReadsClaim text (Err fault)
wrong_lines text lines (Syntax line) form is = absurd is
wrong_lines text lines (Image f) form is = (lines, record { form = form.form; text_is = form.text_is; image = is })
wrong_lines text lines (Range line) form is = (lines, record { form = form.form; text_is = form.text_is; image = is.0 }, is.1)
wrong_lines text lines NoMemory form is = tt

pub answers : (text : List ℕ) (lines : ClaimLines) (result : Result Claim TextErr) → IsOfClaim text lines → IfOk result (IsClaimOf lines)
    → IfErr result (IsNoClaim lines) → ReadsClaim text result
answers text lines (Ok claim) form ok err = accepted text lines claim form ok
answers text lines (Err fault) form ok err = wrong_lines text lines fault form err

-- what was read has its types
pub typed : (text : List ℕ) (lines : ClaimLines) (result : Result Claim TextErr) → IsOfClaim text lines → IfOk result (IsClaimOf lines)
    → IfOk result HasClaimTypes
typed text lines (Ok claim) form ok = record {
  words = subst HasWords (sym ok.image.parts) (words_in lines.image form.form.bytes);
  printed = rw ok.prints (all_weaker IsPrint (λ print. IsWord print.1) lines.prints (λ print is. is.1) form.form.prints);
  print_count = ok.print_count;
  stored = rw ok.memory (all_weaker IsMemoryWord (λ word. IsWord word.1) lines.memory (λ word is. is.1) form.form.memory);
  word_count = ok.word_count;
}
typed text lines (Err fault) form ok = tt
