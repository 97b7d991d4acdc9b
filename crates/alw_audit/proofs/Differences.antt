-- A claim has no difference exactly where it is sound.
use Rattle.std.proofs.Common.{◌≡◌, ℕ, zero, suc, ◌+◌, ◌-◌, ◌*◌, ◌/◌, ◌%◌, ◌<◌, ◌≤◌, ◌==◌, ◌&&◌, ◌↔◌, Bool, true, false, if◌then◌else◌, List, [], ◌∷◌, length, refl, sym, ap, subst, ◌∙◌, arith}
use Rattle.std.proofs.lemmas.Bool.{eqb-true, true≢false}
use Rattle.std.proofs.lemmas.Bool.Decides.{nat_tests}
use Rattle.alw_num.specs.Limits.{shared_base}
use Rattle.alw_msg.specs.Statuses.{is_ready}
use Rattle.alw_image.specs.declared.parts.Parts.{Parts}
use Rattle.alw_image.specs.Images.{line_count}
use Rattle.alw_model.specs.Flat.{Flat, context_at, flat_start, flat_turn, turns_ready, flat_after, flat_prints, are_ready}
use Rattle.alw_flat.specs.Machines.{IsSharedWord, word_of}
use Rattle.alw_trace.specs.declared.values.Claim.{Claim}
use Rattle.alw_audit.specs.declared.verdicts.Difference.TheVariants.{Turn, PrintCount, PrintContext, Print, Memory}
use Rattle.alw_audit.specs.declared.verdicts.Verdict.{Verdict}
use Rattle.alw_audit.specs.declared.verdicts.Verdict.TheVariants.{Sound, Differs}
use Rattle.alw_audit.specs.Verdicts.{ClaimIsSound, stop_number, claimed_word, or_else, turns_verdict, pairs_verdict, prints_verdict, words_verdict, verdict_of}

pub both_sound : (a b : Verdict) → or_else a b ≡ Sound → (a ≡ Sound) × (b ≡ Sound)
both_sound Sound b e = (refl, e)
both_sound (Differs place claimed real) b e = absurd (let no : Differs place claimed real ≡ Sound = e in cc)

-- ---- turns

turns_sound : (parts : Parts) (flat : Flat) (k : ℕ) (turns : List ℕ) → (turns_verdict parts flat k turns ≡ Sound) ↔ (turns_ready parts flat turns ≡ true)
turns_sound parts flat k [] = (λ e. refl, λ e. refl)
turns_sound parts flat k (context ∷ rest) = by_test (is_ready (context_at flat context).status) (turns_sound parts (flat_turn parts flat context).0 (k + 1) rest)
  where
    by_test : (b : Bool) → ((turns_verdict parts (flat_turn parts flat context).0 (k + 1) rest ≡ Sound) ↔ (turns_ready parts (flat_turn parts flat context).0 rest ≡ true))
        → ((if b then turns_verdict parts (flat_turn parts flat context).0 (k + 1) rest else Differs (Turn k) context (stop_number (context_at flat context).status)) ≡ Sound) ↔ ((b && turns_ready parts (flat_turn parts flat context).0 rest) ≡ true)
    by_test true more = more
    by_test false more = (λ e. absurd (let no : Differs (Turn k) context (stop_number (context_at flat context).status) ≡ Sound = e in cc), λ e. absurd (true≢false (sym e)))

-- ---- prints

-- the first print, and the others
pub pair_first : (k : ℕ) (claimed real : ℕ × ℕ) (more rest : List (ℕ × ℕ)) → pairs_verdict k (claimed ∷ more) (real ∷ rest) ≡ or_else (pairs_verdict k (claimed ∷ []) (real ∷ [])) (pairs_verdict (k + 1) more rest)
pair_first k claimed real more rest = by_test (claimed.0 == real.0) (claimed.1 == real.1)
  where
    by_test : (a b : Bool) → (if a then (if b then pairs_verdict (k + 1) more rest else Differs (Print k) claimed.1 real.1) else Differs (PrintContext k) claimed.0 real.0)
        ≡ or_else (if a then (if b then Sound else Differs (Print k) claimed.1 real.1) else Differs (PrintContext k) claimed.0 real.0) (pairs_verdict (k + 1) more rest)
    by_test true true = refl
    by_test true false = refl
    by_test false b = refl

pair_same : (k : ℕ) (claimed real : ℕ × ℕ) → pairs_verdict k (claimed ∷ []) (real ∷ []) ≡ Sound → claimed ≡ real
pair_same k claimed real e = by_test (claimed.0 == real.0) refl (claimed.1 == real.1) refl e
  where
    by_test : (a : Bool) → (claimed.0 == real.0) ≡ a → (b : Bool) → (claimed.1 == real.1) ≡ b → (if a then (if b then Sound else Differs (Print k) claimed.1 real.1) else Differs (PrintContext k) claimed.0 real.0) ≡ Sound → claimed ≡ real
    by_test true f true g e =
        let one = eqb-true claimed.0 real.0 f in
        let other = eqb-true claimed.1 real.1 g in
        λ i. (one i, other i)
    by_test true f false g e = absurd (let no : Differs (Print k) claimed.1 real.1 ≡ Sound = e in cc)
    by_test false f b g e = absurd (let no : Differs (PrintContext k) claimed.0 real.0 ≡ Sound = e in cc)

pairs_same : (k : ℕ) (claimed real : List (ℕ × ℕ)) → length claimed ≡ length real → pairs_verdict k claimed real ≡ Sound → claimed ≡ real
pairs_same k [] [] long e = refl
pairs_same k [] (r ∷ real) long e = absurd (omega (arith, long))
pairs_same k (c ∷ claimed) [] long e = absurd (omega (arith, long))
pairs_same k (c ∷ claimed) (r ∷ real) long e =
    let parts = both_sound (pairs_verdict k (c ∷ []) (r ∷ [])) (pairs_verdict (k + 1) claimed real) (sym (pair_first k c r claimed real) ∙ e) in
    let first = pair_same k c r parts.0 in
    let rest = pairs_same (k + 1) claimed real (omega (arith, long)) parts.1 in
    λ i. first i ∷ rest i

pairs_sound : (k : ℕ) (prints : List (ℕ × ℕ)) → pairs_verdict k prints prints ≡ Sound
pairs_sound k [] = refl
pairs_sound k (p ∷ rest) = by_test (p.0 == p.0) (grind (arith, nat_tests)) (p.1 == p.1) (grind (arith, nat_tests)) (pairs_sound (k + 1) rest)
  where
    by_test : (a : Bool) → a ≡ true → (b : Bool) → b ≡ true → pairs_verdict (k + 1) rest rest ≡ Sound → (if a then (if b then pairs_verdict (k + 1) rest rest else Differs (Print k) p.1 p.1) else Differs (PrintContext k) p.0 p.0) ≡ Sound
    by_test true e true f more = more
    by_test true e false f more = absurd (true≢false (sym f))
    by_test false e b f more = absurd (true≢false (sym e))

prints_sound : (claimed real : List (ℕ × ℕ)) → (prints_verdict claimed real ≡ Sound) ↔ (claimed ≡ real)
prints_sound claimed real = (λ e. one (length claimed == length real) refl e, λ same. subst (λ (r : List (ℕ × ℕ)). prints_verdict claimed r ≡ Sound) same (other (length claimed == length claimed) (grind (arith, nat_tests))))
  where
    one : (b : Bool) → (length claimed == length real) ≡ b → (if b then pairs_verdict 0 claimed real else Differs PrintCount (length claimed) (length real)) ≡ Sound → claimed ≡ real
    one true long e = pairs_same 0 claimed real (eqb-true (length claimed) (length real) long) e
    one false long e = absurd (let no : Differs PrintCount (length claimed) (length real) ≡ Sound = e in cc)

    other : (b : Bool) → b ≡ true → (if b then pairs_verdict 0 claimed claimed else Differs PrintCount (length claimed) (length claimed)) ≡ Sound
    other true e = pairs_sound 0 claimed
    other false e = absurd (true≢false (sym e))

-- ---- memory

-- the first word, and the others
pub word_first : (memory : List (ℕ × ℕ)) (flat : Flat) (addr count : ℕ) → claimed_word memory addr ≡ word_of flat addr → words_verdict memory flat addr (suc count) ≡ words_verdict memory flat (addr + 4) count
word_first memory flat addr count same = by_test (claimed_word memory addr == word_of flat addr) (grind (arith, nat_tests))
  where
    by_test : (b : Bool) → b ≡ true → (if b then words_verdict memory flat (addr + 4) count else Differs (Memory addr) (claimed_word memory addr) (word_of flat addr)) ≡ words_verdict memory flat (addr + 4) count
    by_test true e = refl
    by_test false e = absurd (true≢false (sym e))

word_same : (memory : List (ℕ × ℕ)) (flat : Flat) (addr count : ℕ) → words_verdict memory flat addr (suc count) ≡ Sound → claimed_word memory addr ≡ word_of flat addr
word_same memory flat addr count e = by_test (claimed_word memory addr == word_of flat addr) refl e
  where
    by_test : (b : Bool) → (claimed_word memory addr == word_of flat addr) ≡ b → (if b then words_verdict memory flat (addr + 4) count else Differs (Memory addr) (claimed_word memory addr) (word_of flat addr)) ≡ Sound → claimed_word memory addr ≡ word_of flat addr
    by_test true f e = eqb-true (claimed_word memory addr) (word_of flat addr) f
    by_test false f e = absurd (let no : Differs (Memory addr) (claimed_word memory addr) (word_of flat addr) ≡ Sound = e in cc)

words_same : (memory : List (ℕ × ℕ)) (flat : Flat) (addr count i : ℕ) → i < count → words_verdict memory flat addr count ≡ Sound → claimed_word memory (addr + 4 * i) ≡ word_of flat (addr + 4 * i)
words_same memory flat addr zero i l e = absurd (omega arith)
words_same memory flat addr (suc count) zero l e = subst (λ (a : ℕ). claimed_word memory a ≡ word_of flat a) (let here : addr ≡ addr + 4 * 0 = omega arith in here) (word_same memory flat addr count e)
words_same memory flat addr (suc count) (suc i) l e =
    let next : addr + 4 + 4 * i ≡ addr + 4 * suc i = omega arith in
    subst (λ (a : ℕ). claimed_word memory a ≡ word_of flat a) next (words_same memory flat (addr + 4) count i (omega arith) (sym (word_first memory flat addr count (word_same memory flat addr count e)) ∙ e))

words_sound : (memory : List (ℕ × ℕ)) (flat : Flat) (addr count : ℕ) → ((i : ℕ) → i < count → claimed_word memory (addr + 4 * i) ≡ word_of flat (addr + 4 * i)) → words_verdict memory flat addr count ≡ Sound
words_sound memory flat addr zero same = refl
words_sound memory flat addr (suc count) same =
    let next : (i : ℕ) → addr + 4 * suc i ≡ addr + 4 + 4 * i = λ i. omega arith in
    let rest : (i : ℕ) → i < count → claimed_word memory (addr + 4 + 4 * i) ≡ word_of flat (addr + 4 + 4 * i) = λ i l. subst (λ (a : ℕ). claimed_word memory a ≡ word_of flat a) (next i) (same (suc i) (omega arith)) in
    let first : claimed_word memory addr ≡ word_of flat addr = subst (λ (a : ℕ). claimed_word memory a ≡ word_of flat a) (let here : addr + 4 * 0 ≡ addr = omega arith in here) (same 0 (omega arith)) in
    word_first memory flat addr count first ∙ words_sound memory flat (addr + 4) count rest

-- ---- the whole

-- the number of a word of shared data
number_is : (lines addr : ℕ) → addr % 4 ≡ 0 → shared_base ≤ addr → addr < shared_base + 16 * lines → (shared_base + 4 * ((addr - shared_base) / 4) ≡ addr) × ((addr - shared_base) / 4 < 4 * lines)
number_is lines addr aligned low high = (omega arith, omega arith)

-- and the address of one
address_is : (parts : Parts) (i : ℕ) → i < 4 * line_count parts → IsSharedWord parts (shared_base + 4 * i)
address_is parts i l = (omega arith, omega arith, omega arith)

sound_one : (claim : Claim) → verdict_of claim ≡ Sound → ClaimIsSound claim
unfolding verdict_of are_ready
sound_one claim e =
    let parts = claim.image in
    let flat = flat_after parts claim.turns in
    let first = both_sound (turns_verdict parts (flat_start parts) 0 claim.turns) (or_else (prints_verdict claim.prints (flat_prints parts claim.turns)) (words_verdict claim.memory flat shared_base (4 * line_count parts))) e in
    let second = both_sound (prints_verdict claim.prints (flat_prints parts claim.turns)) (words_verdict claim.memory flat shared_base (4 * line_count parts)) first.1 in
    record {
      turns = (turns_sound parts (flat_start parts) 0 claim.turns).0 first.0;
      prints = (prints_sound claim.prints (flat_prints parts claim.turns)).0 second.0;
      memory = λ addr is.
          let n = number_is (line_count parts) addr is.0 is.1 is.2 in
          subst (λ (a : ℕ). claimed_word claim.memory a ≡ word_of flat a) n.0 (words_same claim.memory flat shared_base (4 * line_count parts) ((addr - shared_base) / 4) n.1 second.1);
    }

sound_other : (claim : Claim) → ClaimIsSound claim → verdict_of claim ≡ Sound
unfolding verdict_of are_ready
sound_other claim s =
    let parts = claim.image in
    let flat = flat_after parts claim.turns in
    let turns : turns_verdict parts (flat_start parts) 0 claim.turns ≡ Sound = (turns_sound parts (flat_start parts) 0 claim.turns).1 s.turns in
    let prints : prints_verdict claim.prints (flat_prints parts claim.turns) ≡ Sound = (prints_sound claim.prints (flat_prints parts claim.turns)).1 s.prints in
    let memory : words_verdict claim.memory flat shared_base (4 * line_count parts) ≡ Sound = words_sound claim.memory flat shared_base (4 * line_count parts) (λ i l. s.memory (shared_base + 4 * i) (address_is parts i l)) in
    ap (λ (v : Verdict). or_else v (or_else (prints_verdict claim.prints (flat_prints parts claim.turns)) (words_verdict claim.memory flat shared_base (4 * line_count parts)))) turns
    ∙ ap (λ (v : Verdict). or_else v (words_verdict claim.memory flat shared_base (4 * line_count parts))) prints ∙ memory

pub sound_is : (claim : Claim) → (verdict_of claim ≡ Sound) ↔ ClaimIsSound claim
sound_is claim = (sound_one claim, sound_other claim)
