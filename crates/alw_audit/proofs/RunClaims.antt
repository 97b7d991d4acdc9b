-- What a coherent run claims is sound: its list of memory gives each word of shared data.
use Rattle.std.proofs.Common.{◌≡◌, ℕ, zero, suc, ◌+◌, ◌-◌, ◌*◌, ◌/◌, ◌%◌, ◌<◌, ◌≤◌, ◌==◌, Bool, true, false, not, cond, if◌then◌else◌, List, [], ◌∷◌, ◌++◌, map, filter, flat_map, refl, sym, ap, ◌∙◌, arith}
use Rattle.std.proofs.lemmas.Bool.{eqb-true}
use Rattle.std.proofs.lemmas.Bool.Decides.{nat_tests}
use Rattle.std.proofs.lemmas.List.Elements.{filter-append}
use Rattle.std.specs.List.{range_with_len}
use Rattle.alw_num.specs.Limits.{shared_base}
use Rattle.alw_num.specs.declared.addresses.Line.{Line}
use Rattle.alw_num.specs.declared.addresses.Width.TheVariants.{Word}
use Rattle.alw_num.specs.Lanes.{lane_of}
use Rattle.alw_num.proofs.Weigh.{cases_lt_then}
use Rattle.alw_msg.specs.declared.events.Entry.{Entry}
use Rattle.alw_image.specs.declared.parts.Parts.{Parts}
use Rattle.alw_image.specs.Images.{line_count}
use Rattle.alw_image.specs.Parameters.{Parameters}
use Rattle.alw_model.specs.declared.ends.Ended.{Ended}
use Rattle.alw_model.specs.Counts.{words_of, listed_words}
use Rattle.alw_model.specs.Flat.{Flat, line_at, flat_after}
use Rattle.alw_model.specs.Headline.{IsCoherentRun}
use Rattle.alw_model.specs.Runs.{turns_of}
use Rattle.alw_flat.specs.Machines.{IsSharedWord, word_of}
use Rattle.alw_audit.specs.Claims.{claim_of}
use Rattle.alw_audit.specs.Verdicts.{WordsAreFrom, ClaimIsSound, claimed_word}
use Rattle.alw_audit.proofs.Walks.{none_below, lower}

-- ---- words that are 0 needn't be listed

abbrev pub is_nonzero : ℕ × ℕ → Bool
is_nonzero word = not (word.1 == 0)

pub kept_from : (low : ℕ) (words : List (ℕ × ℕ)) → WordsAreFrom low words → WordsAreFrom low (filter is_nonzero words)
kept_from low [] from = tt
kept_from low (word ∷ rest) from = by_test (is_nonzero word) (kept_from (word.0 + 4) rest from.2)
  where
    by_test : (b : Bool) → WordsAreFrom (word.0 + 4) (filter is_nonzero rest) → WordsAreFrom low (cond b (word ∷ filter is_nonzero rest) (filter is_nonzero rest))
    by_test true more = (from.0, from.1, more)
    by_test false more = lower low (word.0 + 4) (filter is_nonzero rest) (omega (arith, from.0)) more

kept_same : (low addr : ℕ) (words : List (ℕ × ℕ)) → WordsAreFrom low words → claimed_word (filter is_nonzero words) addr ≡ claimed_word words addr
kept_same low addr [] from = refl
kept_same low addr (word ∷ rest) from = by_test (word.1 == 0) refl (word.0 == addr) refl (kept_same (word.0 + 4) addr rest from.2)
  where
    by_test : (b : Bool) → (word.1 == 0) ≡ b → (here : Bool) → (word.0 == addr) ≡ here → claimed_word (filter is_nonzero rest) addr ≡ claimed_word rest addr
        → claimed_word (cond (not b) (word ∷ filter is_nonzero rest) (filter is_nonzero rest)) addr ≡ (if here then word.1 else claimed_word rest addr)
    by_test false e true f more = rw f refl
    by_test false e false f more = rw f more
    by_test true e true f more =
        let low : addr < word.0 + 4 = omega (arith, eqb-true word.0 addr f) in
        none_below (word.0 + 4) addr (filter is_nonzero rest) low (kept_from (word.0 + 4) rest from.2) ∙ sym (eqb-true word.1 0 e)
    by_test true e false f more = more

-- ---- all words, by lines

abbrev pub four : ℕ → Line → List (ℕ × ℕ)
four line body = map (λ offset. (shared_base + 16 * line + offset, lane_of body offset Word)) (0 ∷ 4 ∷ 8 ∷ 12 ∷ [])

abbrev pub all_words : (ℕ → Line) → ℕ → ℕ → List (ℕ × ℕ)
all_words value first lines = flat_map (λ line. four line (value line)) (range_with_len first lines)

abbrev pub kept_words : (ℕ → Line) → ℕ → ℕ → List (ℕ × ℕ)
kept_words value first lines = flat_map (λ line. words_of line (value line)) (range_with_len first lines)

pub kept_is : (value : ℕ → Line) (first lines : ℕ) → kept_words value first lines ≡ filter is_nonzero (all_words value first lines)
kept_is value first zero = refl
kept_is value first (suc lines) =
    ap (λ (rest : List (ℕ × ℕ)). words_of first (value first) ++ rest) (kept_is value (first + 1) lines)
    ∙ sym (filter-append is_nonzero (four first (value first)) (all_words value (first + 1) lines))

pub all_from : (value : ℕ → Line) (first lines : ℕ) → WordsAreFrom (shared_base + 16 * first) (all_words value first lines)
all_from value first zero = tt
all_from value first (suc lines) =
    let rest : WordsAreFrom (shared_base + 16 * first + 12 + 4) (all_words value (first + 1) lines) =
    lower (shared_base + 16 * first + 12 + 4) (shared_base + 16 * (first + 1)) (all_words value (first + 1) lines) (omega arith) (all_from value (first + 1) lines) in
    (omega arith, omega arith, (omega arith, omega arith, (omega arith, omega arith, (omega arith, omega arith, rest))))

-- the words of one line, and those behind it
of_line : (base addr : ℕ) (word : ℕ → ℕ) (rest : List (ℕ × ℕ)) → base % 4 ≡ 0 → addr % 4 ≡ 0 → base ≤ addr → addr < base + 16
    → claimed_word (map (λ offset. (base + offset, word offset)) (0 ∷ 4 ∷ 8 ∷ 12 ∷ []) ++ rest) addr ≡ word (addr - base)
of_line base addr word rest aligned whole low high = by_test (base + 0 == addr) refl (base + 4 == addr) refl (base + 8 == addr) refl (base + 12 == addr) refl
  where
    at : (offset : ℕ) → (base + offset == addr) ≡ true → word offset ≡ word (addr - base)
    at offset e = ap word (omega (arith, eqb-true (base + offset) addr e))

    by_test : (a : Bool) → (base + 0 == addr) ≡ a → (b : Bool) → (base + 4 == addr) ≡ b → (c : Bool) → (base + 8 == addr) ≡ c → (d : Bool) → (base + 12 == addr) ≡ d
        → (if a then word 0 else if b then word 4 else if c then word 8 else if d then word 12 else claimed_word rest addr) ≡ word (addr - base)
    by_test true e b f c g d h = at 0 e
    by_test false e true f c g d h = at 4 f
    by_test false e false f true g d h = at 8 g
    by_test false e false f false g true h = at 12 h
    by_test false e false f false g false h = absurd (grind (arith, nat_tests))

behind_line : (base addr : ℕ) (word : ℕ → ℕ) (rest : List (ℕ × ℕ)) → base + 16 ≤ addr
    → claimed_word (map (λ offset. (base + offset, word offset)) (0 ∷ 4 ∷ 8 ∷ 12 ∷ []) ++ rest) addr ≡ claimed_word rest addr
behind_line base addr word rest high = by_test (base + 0 == addr) (other 0 (omega arith)) (base + 4 == addr) (other 4 (omega arith)) (base + 8 == addr) (other 8 (omega arith)) (base + 12 == addr) (other 12 (omega arith))
  where
    other : (offset : ℕ) → offset < 16 → (base + offset == addr) ≡ false
    other offset small = grind (arith, nat_tests)

    by_test : (a : Bool) → a ≡ false → (b : Bool) → b ≡ false → (c : Bool) → c ≡ false → (d : Bool) → d ≡ false
        → (if a then word 0 else if b then word 4 else if c then word 8 else if d then word 12 else claimed_word rest addr) ≡ claimed_word rest addr
    by_test a e b f c g d h = rw (e, f, g, h) refl

all_give : (value : ℕ → Line) (first lines addr : ℕ) → addr % 4 ≡ 0 → shared_base + 16 * first ≤ addr → addr < shared_base + 16 * (first + lines)
    → claimed_word (all_words value first lines) addr ≡ lane_of (value ((addr - shared_base) / 16)) (addr % 16) Word
all_give value first zero addr whole low high = absurd (omega arith)
all_give value first (suc lines) addr whole low high = cases_lt_then (shared_base + 16 * first + 16) addr
    (λ here.
    let line : first ≡ (addr - shared_base) / 16 = omega (arith, low, here) in
    let place : addr - (shared_base + 16 * first) ≡ addr % 16 = omega (arith, low, here) in
    of_line (shared_base + 16 * first) addr (λ offset. lane_of (value first) offset Word) (all_words value (first + 1) lines) (omega arith) whole low here
    ∙ ap (λ (n : ℕ). lane_of (value first) n Word) place ∙ ap (λ (n : ℕ). lane_of (value n) (addr % 16) Word) line)
    (λ there.
    behind_line (shared_base + 16 * first) addr (λ offset. lane_of (value first) offset Word) (all_words value (first + 1) lines) there
    ∙ all_give value (first + 1) lines addr whole (omega (arith, there)) (omega (arith, high)))

-- ---- runs

listed_gives : (parts : Parts) (flat : Flat) (addr : ℕ) → IsSharedWord parts addr → claimed_word (listed_words (line_at flat) (line_count parts)) addr ≡ word_of flat addr
unfolding word_of
listed_gives parts flat addr is =
    let lines = line_count parts in
    ap (λ (words : List (ℕ × ℕ)). claimed_word words addr) (kept_is (line_at flat) 0 lines)
    ∙ kept_same (shared_base + 16 * 0) addr (all_words (line_at flat) 0 lines) (all_from (line_at flat) 0 lines)
    ∙ all_give (line_at flat) 0 lines addr is.0 is.1 (omega (arith, is.2))

pub runs_sound : (image : Parts) → (parameters : Parameters) → (journal : List Entry) → (ended : Ended) → IsCoherentRun image parameters journal ended → ClaimIsSound (claim_of image parameters journal)
runs_sound image parameters journal ended run = record {
  turns = run.ready;
  prints = run.prints;
  memory = λ addr is. ap (λ (words : List (ℕ × ℕ)). claimed_word words addr) run.memory ∙ listed_gives image (flat_after image (turns_of image parameters journal)) addr is;
}
