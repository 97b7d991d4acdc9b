-- What is wrong with a claim: the first place at which it differs from the flat run of its turns. And which claims are sound.
use Rattle.std.specs.Prelude.{◌≡◌, ℕ, zero, suc, ◌+◌, ◌*◌, ◌%◌, ◌^◌, ◌<◌, ◌≤◌, ◌≢◌, ◌==◌, if◌then◌else◌, List, [], ◌∷◌, length, map, ⊤}
use Rattle.std.specs.List.{AllByRecursion}
use Rattle.std.specs.List.Sorted.{IsStrictlyIncreasing}
use Rattle.alw_num.specs.Limits.{shared_base}
use Rattle.alw_msg.specs.declared.contexts.Status.{Status}
use Rattle.alw_msg.specs.declared.contexts.Status.TheVariants.{Halted, Trapped}
use Rattle.alw_msg.specs.Statuses.{is_ready}
use Rattle.alw_image.specs.declared.parts.Parts.{Parts}
use Rattle.alw_image.specs.Images.{line_count, context_count}
use Rattle.alw_model.specs.Flat.{Flat, context_at, flat_start, flat_turn, flat_after, flat_prints, AreReady}
use Rattle.alw_flat.specs.Machines.{IsSharedWord, word_of}
use Rattle.alw_trace.specs.declared.values.Claim.{Claim}
use Rattle.alw_audit.specs.declared.verdicts.Difference.TheVariants.{Turn, PrintCount, PrintContext, Print, Memory}
use Rattle.alw_audit.specs.declared.verdicts.Verdict.{Verdict}
use Rattle.alw_audit.specs.declared.verdicts.Verdict.TheVariants.{Sound, Differs}

-- ---- claims that are sound

-- the word that a claim gives an address: 0 where it lists none
abbrev pub claimed_word : List (ℕ × ℕ) → ℕ → ℕ
claimed_word [] addr = 0
claimed_word (word ∷ rest) addr = if word.0 == addr then word.1 else claimed_word rest addr

-- the flat run of the claim's turns is defined, and gives its prints and its memory
pub record ClaimIsSound (claim : Claim) : Type 0 where
  pub turns : AreReady claim.image claim.turns
  pub prints : claim.prints ≡ flat_prints claim.image claim.turns
  pub memory : (addr : ℕ) → IsSharedWord claim.image addr → claimed_word claim.memory addr ≡ word_of (flat_after claim.image claim.turns) addr

-- ---- the first place that differs

-- what a context that isn't Ready did: 1 where it halted, 2 where it trapped
abbrev pub stop_number : Status → ℕ
stop_number Halted = 1
stop_number (Trapped pc tt) = 2
stop_number _ = 0

-- the values of a verdict are of 32 bits
abbrev pub VerdictIsOfWords : Verdict → Type 0
VerdictIsOfWords Sound = ⊤
VerdictIsOfWords (Differs place claimed real) = (claimed < 2 ^ 32) × (real < 2 ^ 32)

-- the first difference, or else the second
abbrev pub or_else : Verdict → Verdict → Verdict
or_else Sound second = second
or_else (Differs place claimed real) second = Differs place claimed real

-- a turn of a context that isn't Ready, with what that context did
abbrev pub turns_verdict : Parts → Flat → ℕ → List ℕ → Verdict
turns_verdict parts flat k [] = Sound
turns_verdict parts flat k (context ∷ rest) =
    if is_ready (context_at flat context).status then turns_verdict parts (flat_turn parts flat context).0 (k + 1) rest else
    Differs (Turn k) context (stop_number (context_at flat context).status)

-- a print of another context, or of another word
abbrev pub pairs_verdict : ℕ → List (ℕ × ℕ) → List (ℕ × ℕ) → Verdict
pairs_verdict k (claimed ∷ more) (real ∷ rest) =
    if claimed.0 == real.0 then (if claimed.1 == real.1 then pairs_verdict (k + 1) more rest else Differs (Print k) claimed.1 real.1) else
    Differs (PrintContext k) claimed.0 real.0
pairs_verdict k claimed real = Sound

-- another number of prints, or a print that differs
abbrev pub prints_verdict : List (ℕ × ℕ) → List (ℕ × ℕ) → Verdict
prints_verdict claimed real =
    if length claimed == length real then pairs_verdict 0 claimed real else Differs PrintCount (length claimed) (length real)

-- of so many words from an address on, one that differs
abbrev pub words_verdict : List (ℕ × ℕ) → Flat → ℕ → ℕ → Verdict
words_verdict memory flat addr zero = Sound
words_verdict memory flat addr (suc count) =
    if claimed_word memory addr == word_of flat addr then words_verdict memory flat (addr + 4) count else
    Differs (Memory addr) (claimed_word memory addr) (word_of flat addr)

-- turns come first, then prints, then the words of shared data by address
unfoldable pub verdict_of : Claim → Verdict
verdict_of claim =
    or_else (turns_verdict claim.image (flat_start claim.image) 0 claim.turns) (
    or_else (prints_verdict claim.prints (flat_prints claim.image claim.turns)) (
    words_verdict claim.memory (flat_after claim.image claim.turns) shared_base (4 * line_count claim.image)))

-- ---- claims that can be audited

-- the turns are of contexts that the image has, and the memory lists words of shared data that aren't 0, by address
pub record IsAuditable (claim : Claim) : Type 0 where
  pub turns : AllByRecursion (λ context. context < context_count claim.image) claim.turns
  pub memory : AllByRecursion (λ word. IsSharedWord claim.image word.0 × (word.1 ≢ 0)) claim.memory
  pub ascends : IsStrictlyIncreasing (map (λ word. word.0) claim.memory)

-- words listed from an address on, each at a multiple of 4 above the one before
abbrev pub WordsAreFrom : ℕ → List (ℕ × ℕ) → Type 0
WordsAreFrom low [] = ⊤
WordsAreFrom low (word ∷ rest) = (low ≤ word.0) × (word.0 % 4 ≡ 0) × WordsAreFrom (word.0 + 4) rest
