-- Lists gathered from the numbers below another.
use Rattle.std.proofs.Common.{◌≡◌, false, ℕ, suc, zero, ◌+◌, ◌-◌, ◌*◌, ◌<◌, ◌≤◌, add-one, List, [], ◌∷◌, ◌++◌, length, slice_index, refl, sym, ap, ◌∙◌, ⊎_elim, arith, append_assoc}
use Rattle.std.proofs.lemmas.Bool.{cases_lt}
use Rattle.std.proofs.lemmas.List.{append-nil, get_or_past}
use Rattle.alw_num.specs.declared.addresses.Line.{Line as Body}
use Rattle.alw_num.specs.declared.addresses.LineNo.{LineNo}
use Rattle.sparc_assemble.specs.Assembly.{gathered, word_in, body_at, is_zero, data_line}

pub gathered_more : {A : Type 0} (found : ℕ → List A) (n : ℕ) → gathered found (n + 1) ≡ gathered found n ++ found n
gathered_more found n = rw add-one

-- what one more number has
pub with_more : {A : Type 0} (found : ℕ → List A) (n : ℕ) (old new : List A) → old ≡ gathered found n → new ≡ old ++ found n → new ≡ gathered found (n + 1)
with_more found n old new before next = next ∙ ap (λ xs. xs ++ found n) before ∙ sym (gathered_more found n)

-- the same behind others
pub more_behind : {A : Type 0} (found : ℕ → List A) (n : ℕ) (first old new : List A) → old ≡ first ++ gathered found n → new ≡ old ++ found n → new ≡ first ++ gathered found (n + 1)
more_behind found n first old new before next = next ∙ ap (λ xs. xs ++ found n) before ∙ append_assoc first (gathered found n) (found n) ∙ ap (λ xs. first ++ xs) (sym (gathered_more found n))

pub none_behind : {A : Type 0} (found : ℕ → List A) (n : ℕ) (first old : List A) → old ≡ first ++ gathered found n → found n ≡ [] → old ≡ first ++ gathered found (n + 1)
none_behind found n first old before none = more_behind found n first old old before (sym (append-nil old) ∙ ap (λ xs. old ++ xs) (sym none))

-- a line that is listed
pub listed : (memory : ℕ → ℕ) (n : ℕ) (body : Body) → body ≡ body_at memory n → is_zero body ≡ false → data_line memory n ≡ (record { 0 = n }, body) ∷ []
listed memory n body e is =
    let some : is_zero (body_at memory n) ≡ false = ap is_zero (sym e) ∙ is in
    let number : LineNo = record { 0 = n } in
    rw some (ap (λ b. (number, b) ∷ []) (sym e))

-- numbers from some on that have nothing
pub gathered_past : {A : Type 0} (found : ℕ → List A) (n more : ℕ) → ((k : ℕ) → n ≤ k → found k ≡ []) → gathered found (n + more) ≡ gathered found n
gathered_past found n zero none = let here : n + 0 ≡ n = omega arith in ap (gathered found) here
gathered_past found n (suc more) none =
    let next : n + suc more ≡ n + more + 1 = omega arith in
    ap (gathered found) next ∙ gathered_more found (n + more) ∙ ap (λ xs. gathered found (n + more) ++ xs) (none (n + more) (omega arith)) ∙ append-nil (gathered found (n + more)) ∙ gathered_past found n more none

word_past : (memory : List ℕ) (place : ℕ) → length memory ≤ place → word_in (slice_index memory) place ≡ 0
word_past memory place l = rw (get_or_past memory place 0 l, get_or_past memory (place + 1) 0 (omega (arith, l)), get_or_past memory (place + 2) 0 (omega (arith, l)), get_or_past memory (place + 3) 0 (omega (arith, l))) refl

line_past : (memory : List ℕ) (n : ℕ) → length memory ≤ 16 * n → data_line (slice_index memory) n ≡ []
line_past memory n l = rw (word_past memory (16 * n) l, word_past memory (16 * n + 4) (omega (arith, l)), word_past memory (16 * n + 8) (omega (arith, l)), word_past memory (16 * n + 12) (omega (arith, l))) refl

-- the lines that bytes reach are all that have any
pub all_lines : (memory : List ℕ) (reached count : ℕ) → reached ≤ count → (reached < count → length memory ≤ 16 * reached) → gathered (data_line (slice_index memory)) reached ≡ gathered (data_line (slice_index memory)) count
all_lines memory reached count few rest = ⊎_elim
    (λ l. let whole : reached + (count - reached) ≡ count = omega (arith, few) in
    sym (gathered_past (data_line (slice_index memory)) reached (count - reached) (λ k behind. line_past memory k (omega (arith, rest l, behind)))) ∙ ap (gathered (data_line (slice_index memory))) whole)
    (λ l. let same : reached ≡ count = omega (arith, few, l) in ap (gathered (data_line (slice_index memory))) same)
    (cases_lt reached count)
