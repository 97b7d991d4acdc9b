-- What a coherent run claims is a claim: of contexts that there are, and of words of shared data that aren't 0, by address.
use Rattle.std.proofs.Common.{◌≡◌, ℕ, zero, suc, ◌+◌, ◌<◌, ◌≤◌, ◌≢◌, ◌==◌, Bool, true, false, not, cond, List, [], ◌∷◌, ◌++◌, length, map, filter, slice_index, slice_index_or, refl, sym, subst, ◌∙◌, arith}
use Rattle.std.proofs.lemmas.Bool.{true≢false, eqb-false}
use Rattle.std.proofs.lemmas.List.{length-set}
use Rattle.std.proofs.lemmas.List.FromFn.{length-map-range_with_len}
use Rattle.std.specs.List.{AllByRecursion, range_with_len}
use Rattle.std.specs.List.Sorted.{IsStrictlyIncreasing}
use Rattle.alw_num.specs.Limits.{shared_base}
use Rattle.alw_num.specs.declared.addresses.Line.{Line}
use Rattle.sparc_table.specs.Registers.{start_of}
use Rattle.sparc_table.specs.Turns.{need_of}
use Rattle.sparc_table.specs.declared.outcomes.Need.{Need}
use Rattle.sparc_table.specs.declared.outcomes.Need.TheVariants as needs
use Rattle.sparc_table.specs.declared.outcomes.Outcome.{Outcome}
use Rattle.sparc_table.specs.declared.outcomes.Outcome.TheVariants as outcomes
use Rattle.alw_msg.specs.declared.contexts.Status.TheVariants.{Halted}
use Rattle.alw_msg.specs.declared.events.Entry.{Entry}
use Rattle.alw_msg.specs.Statuses.{is_ready}
use Rattle.alw_image.specs.declared.parts.Parts.{Parts}
use Rattle.alw_image.specs.Images.{IsImage, context_count, line_count}
use Rattle.alw_image.specs.Parameters.{Parameters}
use Rattle.alw_model.specs.declared.ends.Ended.{Ended}
use Rattle.alw_model.specs.Counts.{listed_words}
use Rattle.alw_model.specs.Flat.{Context, Flat, context_at, context_start, line_at, flat_start, flat_turn, flat_turn_by, print_of, turns_ready, turns_print, flat_after, flat_prints, are_ready}
use Rattle.alw_model.specs.Headline.{IsCoherentRun}
use Rattle.alw_model.specs.Runs.{turns_of}
use Rattle.alw_trace.specs.Readings.{IsClaim, IsSharedAddress, most_turns}
use Rattle.alw_audit.specs.Claims.{claim_of}
use Rattle.alw_audit.specs.Verdicts.{WordsAreFrom}
use Rattle.alw_audit.proofs.RunClaims.{is_nonzero, kept_from, all_words, kept_is, all_from}
use Rattle.alw_model.proofs.Journals.{and_parts}

-- ---- turns and prints

-- a context that is Ready exists
ready_exists : (contexts : List Context) (context : ℕ) → is_ready (slice_index_or contexts context (record { regs = start_of 0 0 0; status = Halted })).status ≡ true → context < length contexts
ready_exists [] context ready = absurd (true≢false (sym ready))
ready_exists (first ∷ rest) zero ready = omega arith
ready_exists (first ∷ rest) (suc context) ready = omega (arith, ready_exists rest context ready)

-- a turn leaves as many
as_many : (parts : Parts) (flat : Flat) (context : ℕ) (n : Need) → length (flat_turn_by parts flat context n).0.contexts ≡ length flat.contexts
as_many parts flat context (needs.Copy line mode) = length-set flat.contexts context _
as_many parts flat context needs.Nothing = length-set flat.contexts context _
as_many parts flat context (needs.Trap tt) = length-set flat.contexts context _

contexts_exist : (parts : Parts) (flat : Flat) (count : ℕ) (turns : List ℕ) → length flat.contexts ≡ count → turns_ready parts flat turns ≡ true → AllByRecursion (λ context. context < count) turns
contexts_exist parts flat count [] long ready = tt
contexts_exist parts flat count (context ∷ rest) long ready =
    let now = and_parts (is_ready (context_at flat context).status) (turns_ready parts (flat_turn parts flat context).0 rest) ready in (
      omega (arith, ready_exists flat.contexts context now.0, long),
      contexts_exist parts (flat_turn parts flat context).0 count rest (as_many parts flat context (need_of parts.code (context_at flat context).regs (line_count parts)) ∙ long) now.1,
    )

printed_exist : (parts : Parts) (flat : Flat) (count : ℕ) (turns : List ℕ) → AllByRecursion (λ context. context < count) turns → AllByRecursion (λ (print : ℕ × ℕ). print.0 < count) (turns_print parts flat turns)
printed_exist parts flat count [] all = tt
printed_exist parts flat count (context ∷ rest) all = by_outcome (flat_turn parts flat context).1 (printed_exist parts (flat_turn parts flat context).0 count rest all.1)
  where
    by_outcome : (o : Outcome) → AllByRecursion (λ (print : ℕ × ℕ). print.0 < count) (turns_print parts (flat_turn parts flat context).0 rest)
        → AllByRecursion (λ (print : ℕ × ℕ). print.0 < count) (print_of context o ++ turns_print parts (flat_turn parts flat context).0 rest)
    by_outcome (outcomes.Out word) more = (all.0, more)
    by_outcome outcomes.Done more = more
    by_outcome (outcomes.Miss line mode) more = more
    by_outcome outcomes.Halt more = more
    by_outcome (outcomes.Trap tt) more = more

-- ---- words

kept_all : (P : ℕ → Type 0) (words : List (ℕ × ℕ)) → AllByRecursion (λ word. P word.0) words → AllByRecursion (λ word. P word.0 × (word.1 ≢ 0)) (filter is_nonzero words)
kept_all P [] all = tt
kept_all P (word ∷ rest) all = by_test (word.1 == 0) refl (kept_all P rest all.1)
  where
    by_test : (b : Bool) → (word.1 == 0) ≡ b → AllByRecursion (λ word. P word.0 × (word.1 ≢ 0)) (filter is_nonzero rest)
        → AllByRecursion (λ word. P word.0 × (word.1 ≢ 0)) (cond (not b) (word ∷ filter is_nonzero rest) (filter is_nonzero rest))
    by_test true e more = more
    by_test false e more = ((all.0, eqb-false word.1 0 e), more)

all_shared : (parts : Parts) (value : ℕ → Line) (first lines : ℕ) → first + lines ≤ line_count parts → AllByRecursion (λ word. IsSharedAddress parts word.0) (all_words value first lines)
all_shared parts value first zero within = tt
all_shared parts value first (suc lines) within = (
  (omega arith, omega arith, omega (arith, within)),
  (
    (omega arith, omega arith, omega (arith, within)),
    (
      (omega arith, omega arith, omega (arith, within)),
      ((omega arith, omega arith, omega (arith, within)), all_shared parts value (first + 1) lines (omega (arith, within))),
    ),
  ),
)

ascending : (low : ℕ) (words : List (ℕ × ℕ)) → WordsAreFrom low words → IsStrictlyIncreasing (map (λ word. word.0) words)
ascending low [] from = λ k within. absurd (omega (arith, within))
ascending low (word ∷ []) from = λ k within. absurd (omega (arith, within))
ascending low (word ∷ next ∷ rest) from = step (ascending (word.0 + 4) (next ∷ rest) from.2)
  where
    all : List ℕ
    all = map (λ (w : ℕ × ℕ). w.0) (word ∷ next ∷ rest)

    step : IsStrictlyIncreasing (map (λ (w : ℕ × ℕ). w.0) (next ∷ rest)) → (k : ℕ) → k + 1 < length all → slice_index all k < slice_index all (k + 1)
    step more zero within = omega (arith, from.2.0)
    step more (suc k) within =
        let e : suc (k + 1) ≡ suc k + 1 = omega arith in
        subst (λ (m : ℕ). slice_index all (suc k) < slice_index all m) e (more k (omega (arith, within)))

-- ---- runs

listed_forms : (parts : Parts) (value : ℕ → Line) → AllByRecursion (λ word. IsSharedAddress parts word.0 × (word.1 ≢ 0)) (listed_words value (line_count parts)) × IsStrictlyIncreasing (map (λ word. word.0) (listed_words value (line_count parts)))
listed_forms parts value =
    let lines = line_count parts in
    let is = sym (kept_is value 0 lines) in (
      subst (λ (words : List (ℕ × ℕ)). AllByRecursion (λ word. IsSharedAddress parts word.0 × (word.1 ≢ 0)) words) is
          (kept_all (IsSharedAddress parts) (all_words value 0 lines) (all_shared parts value 0 lines (omega arith))),
      subst (λ (words : List (ℕ × ℕ)). IsStrictlyIncreasing (map (λ word. word.0) words)) is
          (ascending shared_base (filter is_nonzero (all_words value 0 lines)) (kept_from shared_base (all_words value 0 lines) (all_from value 0 lines))),
    )

pub runs_claim : (image : Parts) → (parameters : Parameters) → (journal : List Entry) → (ended : Ended) → IsImage image → IsCoherentRun image parameters journal ended → length (turns_of image parameters journal) ≤ most_turns → IsClaim (claim_of image parameters journal)
unfolding are_ready flat_prints
runs_claim image parameters journal ended is run few =
    let turns = turns_of image parameters journal in
    let count = context_count image in
    let exist = contexts_exist image (flat_start image) count turns (length-map-range_with_len (context_start image) 0 count) run.ready in
    let listed = listed_forms image (line_at (flat_after image turns)) in
    record {
      image = is;
      turns = exist;
      turn_count = few;
      prints = subst (λ (prints : List (ℕ × ℕ)). AllByRecursion (λ (print : ℕ × ℕ). print.0 < count) prints) (sym run.prints) (printed_exist image (flat_start image) count turns exist);
      memory = subst (λ (words : List (ℕ × ℕ)). AllByRecursion (λ word. IsSharedAddress image word.0 × (word.1 ≢ 0)) words) (sym run.memory) listed.0;
      ascends = subst (λ (words : List (ℕ × ℕ)). IsStrictlyIncreasing (map (λ word. word.0) words)) (sym run.memory) listed.1;
    }
