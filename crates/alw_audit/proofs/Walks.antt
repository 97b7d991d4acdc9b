-- A walk over a list of words by address.
use Rattle.std.proofs.Common.{◌≡◌, ℕ, ◌+◌, ◌-◌, ◌%◌, ◌<◌, ◌≤◌, ◌≢◌, ◌==◌, Bool, false, if◌then◌else◌, List, [], ◌∷◌, map, refl, sym, ap, subst, ◌∙◌, arith}
use Rattle.std.specs.Prelude.{⊤}
use Rattle.std.proofs.lemmas.Bool.Decides.{nat_tests}
use Rattle.std.specs.List.{AllByRecursion}
use Rattle.std.specs.List.Sorted.{IsStrictlyIncreasing}
use Rattle.alw_num.specs.Limits.{shared_base}
use Rattle.alw_image.specs.declared.parts.Parts.{Parts}
use Rattle.alw_flat.specs.Machines.{IsSharedWord}
use Rattle.alw_audit.specs.Verdicts.{WordsAreFrom, claimed_word}
use Rattle.alw_image.proofs.Orders.{tail_ascends}

-- nothing is listed below the first address
pub none_below : (low addr : ℕ) (words : List (ℕ × ℕ)) → addr < low → WordsAreFrom low words → claimed_word words addr ≡ 0
none_below low addr [] l from = refl
none_below low addr (word ∷ rest) l from =
    let other : (word.0 == addr) ≡ false = (let first : addr < word.0 = omega (arith, from.0) in grind (arith, nat_tests)) in
    ap (λ (b : Bool). if b then word.1 else claimed_word rest addr) other ∙ none_below (word.0 + 4) addr rest (omega (arith, from.0)) from.2

pub lower : (low next : ℕ) (words : List (ℕ × ℕ)) → low ≤ next → WordsAreFrom next words → WordsAreFrom low words
lower low next [] l from = tt
lower low next (word ∷ rest) l from = (omega (arith, from.0), from.1, from.2)

-- where the first word has another address, all are listed behind it
pub all_behind : (addr : ℕ) (word : ℕ × ℕ) (rest : List (ℕ × ℕ)) → addr % 4 ≡ 0 → word.0 ≢ addr → WordsAreFrom addr (word ∷ rest) → WordsAreFrom (addr + 4) (word ∷ rest)
all_behind addr word rest aligned other from = (omega (arith, from.0, from.1, other), from.1, from.2)

abbrev Begins : ℕ → List (ℕ × ℕ) → Type 0
Begins low [] = ⊤
Begins low (word ∷ rest) = low ≤ word.0

rises_from : (parts : Parts) (low : ℕ) (words : List (ℕ × ℕ)) → Begins low words → AllByRecursion (λ word. IsSharedWord parts word.0 × (word.1 ≢ 0)) words → IsStrictlyIncreasing (map (λ (word : ℕ × ℕ). word.0) words) → WordsAreFrom low words
rises_from parts low [] begins all ascends = tt
rises_from parts low (word ∷ []) begins all ascends = (begins, all.0.0.0, tt)
rises_from parts low (word ∷ next ∷ rest) begins all ascends =
    let up : word.0 < next.0 = ascends 0 (omega arith) in
    let here : word.0 % 4 ≡ 0 = all.0.0.0 in
    let there : next.0 % 4 ≡ 0 = all.1.0.0.0 in
    (begins, here, rises_from parts (word.0 + 4) (next ∷ rest) (omega (arith, up, here, there)) all.1 (tail_ascends word.0 (map (λ (w : ℕ × ℕ). w.0) (next ∷ rest)) ascends))

-- words of shared data that ascend
pub are_from : (parts : Parts) (words : List (ℕ × ℕ)) → AllByRecursion (λ word. IsSharedWord parts word.0 × (word.1 ≢ 0)) words → IsStrictlyIncreasing (map (λ word. word.0) words) → WordsAreFrom shared_base words
are_from parts [] all ascends = tt
are_from parts (word ∷ rest) all ascends = rises_from parts shared_base (word ∷ rest) all.0.0.1 all ascends

-- an address that isn't the first one is listed nowhere
pub not_first : (addr : ℕ) (words : List (ℕ × ℕ)) (word : ℕ × ℕ) (rest : List (ℕ × ℕ)) → words ≡ word ∷ rest → addr % 4 ≡ 0 → word.0 ≢ addr → WordsAreFrom addr words → (0 ≡ claimed_word words addr) × WordsAreFrom (addr + 4) words
not_first addr words word rest head aligned other from =
    let behind = all_behind addr word rest aligned other (subst (WordsAreFrom addr) head from) in
    let all = subst (WordsAreFrom (addr + 4)) (sym head) behind in
    (sym (none_below (addr + 4) addr words (omega arith) all), all)
