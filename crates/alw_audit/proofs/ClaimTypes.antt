-- What a coherent run claims has a claim's types: what it prints is words, as registers hold them, and so is what memory holds.
use Rattle.std.proofs.Common.{◌≡◌, ℕ, zero, suc, ◌+◌, ◌*◌, ◌^◌, ◌<◌, ◌≤◌, Bool, true, false, cond, Some, List, [], ◌∷◌, ◌++◌, length, map, filter, find, slice_index_or, slice_set, refl, sym, subst, arith, length-append}
use Rattle.std.specs.Prelude.{unwrap_or, option_map}
use Rattle.std.specs.List.{AllByRecursion, range_with_len}
use Rattle.std.proofs.lemmas.Nat.{mul-le}
use Rattle.alw_num.specs.declared.addresses.Line.{Line}
use Rattle.alw_num.specs.declared.addresses.NodeNo.{NodeNo}
use Rattle.sparc_table.specs.Registers.{start_of}
use Rattle.sparc_table.specs.Turns.{need_of, turn_of}
use Rattle.sparc_table.specs.declared.outcomes.Need.{Need}
use Rattle.sparc_table.specs.declared.outcomes.Need.TheVariants as needs
use Rattle.sparc_table.specs.declared.outcomes.Outcome.{Outcome}
use Rattle.sparc_table.specs.declared.outcomes.Outcome.TheVariants as outcomes
use Rattle.sparc_exec.proofs.Lanes.{word_lane}
use Rattle.sparc_exec.proofs.RegisterWords.{HoldWords, PrintsWord, TurnHolds, of_start, of_turn}
use Rattle.alw_msg.specs.declared.contexts.Status.TheVariants.{Halted}
use Rattle.alw_msg.specs.declared.events.Entry.{Entry}
use Rattle.alw_image.specs.declared.parts.Parts.{Parts}
use Rattle.alw_image.specs.Images.{IsImage, IsStart, context_count, line_count, zero_line}
use Rattle.alw_image.specs.Numbers.{IsWord, HasWords}
use Rattle.alw_image.specs.Parameters.{Parameters}
use Rattle.alw_model.specs.declared.ends.Ended.{Ended}
use Rattle.alw_model.specs.Counts.{listed_words}
use Rattle.alw_model.specs.Flat.{Context, Flat, context_at, context_start, line_at, flat_start, flat_turn, flat_turn_by, print_of, turns_print, flat_after, flat_prints}
use Rattle.alw_model.specs.Headline.{IsCoherentRun}
use Rattle.alw_model.specs.Runs.{turns_of}
use Rattle.alw_trace.specs.Readings.{HasClaimTypes, most_turns}
use Rattle.alw_audit.specs.Claims.{claim_of}
use Rattle.alw_audit.proofs.RunClaims.{is_nonzero, all_words, kept_is}

-- ---- lists

all_at : {X : Type 0} (P : X → Type 0) (xs : List X) (i : ℕ) (other : X) → AllByRecursion P xs → P other → P (slice_index_or xs i other)
all_at P [] i other all is = is
all_at P (x ∷ xs) zero other all is = all.0
all_at P (x ∷ xs) (suc i) other all is = all_at P xs i other all.1 is

all_put : {X : Type 0} (P : X → Type 0) (xs : List X) (i : ℕ) (x : X) → AllByRecursion P xs → P x → AllByRecursion P (slice_set xs i x)
all_put P [] i x all is = tt
all_put P (first ∷ xs) zero x all is = (is, all.1)
all_put P (first ∷ xs) (suc i) x all is = (all.0, all_put P xs i x all.1 is)

all_kept : {X : Type 0} (P : X → Type 0) (test : X → Bool) (xs : List X) → AllByRecursion P xs → AllByRecursion P (filter test xs)
all_kept P test [] all = tt
all_kept P test (x ∷ xs) all = go (test x) (all_kept P test xs all.1)
  where
    go : (b : Bool) → AllByRecursion P (filter test xs) → AllByRecursion P (cond b (x ∷ filter test xs) (filter test xs))
    go true more = (all.0, more)
    go false more = more

few_kept : {X : Type 0} (test : X → Bool) (xs : List X) → length (filter test xs) ≤ length xs
few_kept test [] = omega arith
few_kept test (x ∷ xs) = go (test x) (few_kept test xs)
  where
    go : (b : Bool) → length (filter test xs) ≤ length xs → length (cond b (x ∷ filter test xs) (filter test xs)) ≤ suc (length xs)
    go true few = omega (arith, few)
    go false few = omega (arith, few)

-- ---- contexts

abbrev ContextHolds : Context → Type 0
ContextHolds context = HoldWords context.regs

abbrev FlatHolds : Flat → Type 0
FlatHolds flat = AllByRecursion ContextHolds flat.contexts

context_holds : (flat : Flat) → FlatHolds flat → (context : ℕ) → HoldWords (context_at flat context).regs
context_holds flat all context =
    all_at ContextHolds flat.contexts context (record { regs = start_of 0 0 0; status = Halted }) all (of_start 0 0 0 (omega arith) (omega arith) (omega arith))

started_low : (parts : Parts) (test : NodeNo × ℕ × ℕ → Bool) (starts : List (NodeNo × ℕ × ℕ)) → 4 * length parts.code < 2 ^ 32 → AllByRecursion (IsStart parts) starts
    → IsWord (unwrap_or (option_map (λ (start : NodeNo × ℕ × ℕ). start.2) (find test starts)) 0)
started_low parts test [] few all = omega arith
started_low parts test (start ∷ rest) few all = go (test start) (started_low parts test rest few all.1)
  where
    go : (b : Bool) → IsWord (unwrap_or (option_map (λ (start : NodeNo × ℕ × ℕ). start.2) (find test rest)) 0)
        → IsWord (unwrap_or (option_map (λ (start : NodeNo × ℕ × ℕ). start.2) (cond b (Some start) (find test rest))) 0)
    go true more = omega (arith, all.0.3, few)
    go false more = more

module _ (parts : Parts) (image : IsImage parts) where
  few_contexts : context_count parts ≤ 1024
  few_contexts = omega (arith, mul-le (parts.width * parts.height) parts.contexts 256 4 (mul-le parts.width parts.height 16 16 image.width.1 image.height.1) image.contexts.1)

  all_started : (first count : ℕ) → first + count ≤ context_count parts → AllByRecursion ContextHolds (map (context_start parts) (range_with_len first count))
  all_started first zero within = tt
  all_started first (suc count) within = (
    of_start _ first (context_count parts) (started_low parts _ parts.starts (omega (arith, image.code.1)) image.starts) (omega (arith, within, few_contexts)) (omega (arith, few_contexts)),
    all_started (first + 1) count (omega (arith, within)),
  )

  start_holds : FlatHolds (flat_start parts)
  start_holds = all_started 0 (context_count parts) (omega arith)

-- ---- turns

-- the contexts that a turn leaves, and what it prints
record StepHolds (after : Flat × Outcome) : Type 0 where
  flat : FlatHolds after.0
  print : PrintsWord after.1

module _ (parts : Parts) (flat : Flat) (all : FlatHolds flat) (context : ℕ) where
  left : (body : Line) → TurnHolds (turn_of parts.code (context_at flat context).regs (line_count parts) body)
  left body = of_turn (context_at flat context).regs (context_holds flat all context) body parts.code (line_count parts)

  turn_by_holds : (need : Need) → StepHolds (flat_turn_by parts flat context need)
  turn_by_holds (needs.Copy line mode) = let done = left (line_at flat line.0) in record { flat = all_put ContextHolds flat.contexts context _ all done.regs; print = done.print }
  turn_by_holds needs.Nothing = let done = left zero_line in record { flat = all_put ContextHolds flat.contexts context _ all done.regs; print = done.print }
  turn_by_holds (needs.Trap type) = let done = left zero_line in record { flat = all_put ContextHolds flat.contexts context _ all done.regs; print = done.print }

abbrev ArePrinted : List (ℕ × ℕ) → Type 0
ArePrinted prints = AllByRecursion (λ (print : ℕ × ℕ). IsWord print.1) prints

one_printed : (context : ℕ) (outcome : Outcome) (rest : List (ℕ × ℕ)) → PrintsWord outcome → ArePrinted rest → ArePrinted (print_of context outcome ++ rest)
one_printed context (outcomes.Out word) rest is all = (is, all)
one_printed context outcomes.Done rest is all = all
one_printed context (outcomes.Miss line mode) rest is all = all
one_printed context outcomes.Halt rest is all = all
one_printed context (outcomes.Trap type) rest is all = all

at_most_one : (context : ℕ) (outcome : Outcome) → length (print_of context outcome) ≤ 1
at_most_one context (outcomes.Out word) = omega arith
at_most_one context outcomes.Done = omega arith
at_most_one context (outcomes.Miss line mode) = omega arith
at_most_one context outcomes.Halt = omega arith
at_most_one context (outcomes.Trap type) = omega arith

words_printed : (parts : Parts) (flat : Flat) (turns : List ℕ) → FlatHolds flat → ArePrinted (turns_print parts flat turns)
words_printed parts flat [] all = tt
words_printed parts flat (context ∷ rest) all =
    let done = turn_by_holds parts flat all context (need_of parts.code (context_at flat context).regs (line_count parts)) in
    one_printed context (flat_turn parts flat context).1 (turns_print parts (flat_turn parts flat context).0 rest) done.print (words_printed parts (flat_turn parts flat context).0 rest done.flat)

few_printed : (parts : Parts) (flat : Flat) (turns : List ℕ) → length (turns_print parts flat turns) ≤ length turns
few_printed parts flat [] = omega arith
few_printed parts flat (context ∷ rest) =
    let done = flat_turn parts flat context in
    omega (arith, length-append (print_of context done.1) (turns_print parts done.0 rest), at_most_one context done.1, few_printed parts done.0 rest)

-- ---- memory

lanes_are : (value : ℕ → Line) (first lines : ℕ) → ArePrinted (all_words value first lines)
lanes_are value first zero = tt
lanes_are value first (suc lines) =
    let body = value first in
    (word_lane body 0, (word_lane body 4, (word_lane body 8, (word_lane body 12, lanes_are value (first + 1) lines))))

four_each : (value : ℕ → Line) (first lines : ℕ) → length (all_words value first lines) ≡ 4 * lines
four_each value first zero = refl
four_each value first (suc lines) = omega (arith, four_each value (first + 1) lines)

-- ---- runs

pub runs_types : (image : Parts) → (parameters : Parameters) → (journal : List Entry) → (ended : Ended) → IsImage image → HasWords image → IsCoherentRun image parameters journal ended
    → length (turns_of image parameters journal) ≤ most_turns → HasClaimTypes (claim_of image parameters journal)
unfolding flat_prints
runs_types image parameters journal ended is words run few =
    let turns = turns_of image parameters journal in
    let value = line_at (flat_after image turns) in
    let lines = line_count image in
    let all = all_words value 0 lines in
    let many = mul-le (image.width * image.height) image.per_node 256 4096 (mul-le image.width image.height 16 16 is.width.1 is.height.1) is.per_node.1 in
    let listed : listed_words value lines ≡ filter is_nonzero all = kept_is value 0 lines in
    record {
      words = words;
      printed = subst ArePrinted (sym run.prints) (words_printed image (flat_start image) turns (start_holds image is));
      print_count = subst (λ (prints : List (ℕ × ℕ)). length prints < 2 ^ 32) (sym run.prints) (omega (arith, few_printed image (flat_start image) turns, few));
      stored = subst ArePrinted (sym run.memory) (subst ArePrinted (sym listed) (all_kept (λ (word : ℕ × ℕ). IsWord word.1) is_nonzero all (lanes_are value 0 lines)));
      word_count = subst (λ (list : List (ℕ × ℕ)). length list < 2 ^ 32) (sym run.memory)
          (subst (λ (list : List (ℕ × ℕ)). length list < 2 ^ 32) (sym listed) (omega (arith, few_kept is_nonzero all, four_each value 0 lines, many)));
    }
