-- The words of a memory that aren't 0 tell its lines, where it is known how many there are.
use Rattle.std.proofs.Common.{◌≡◌, ℕ, zero, suc, ◌+◌, ◌*◌, ◌<◌, ◌≤◌, ◌==◌, Bool, true, false, if◌then◌else◌, List, [], ◌∷◌, ◌++◌, length, take, drop, slice_index_or, refl, sym, ap, ◌∙◌, subst, arith, append_assoc, append-nil}
use Rattle.std.proofs.lemmas.Bool.{eqb-true}
use Rattle.alw_num.specs.declared.addresses.Line.{Line}
use Rattle.alw_outcomes.specs.Endings.{kept_word, line_words, words_from, memory_words}
use Rattle.alw_outcomes.specs.Keys.{words_key}

-- ---- a word, and those behind it

-- the first word is at this address or above it
abbrev IsFrom : ℕ → List (ℕ × ℕ) → Type 0
IsFrom low [] = Unit {0}
IsFrom low (word ∷ rest) = low ≤ word.0

word_from : (address low word : ℕ) (rest : List (ℕ × ℕ)) → address ≤ low → IsFrom low rest → IsFrom address (kept_word address word ++ rest)
word_from address low word rest less from = by_test (word == 0) rest from
  where
    by_test : (b : Bool) → (rest : List (ℕ × ℕ)) → IsFrom low rest → IsFrom address ((if b then [] else (address, word) ∷ []) ++ rest)
    by_test true [] from = tt
    by_test true (first ∷ rest) from = omega (arith, less, from)
    by_test false rest from = omega arith

-- what begins above an address doesn't begin with a word there
not_there : (address low word : ℕ) (rest more : List (ℕ × ℕ)) → address < low → IsFrom low rest → rest ≡ (address, word) ∷ more → ⊥
not_there address low word rest more less from e = let f : low ≤ address = subst (IsFrom low) e from in omega (arith, less, f)

-- a word and what is behind it, told by both
told_apart : (address low one other : ℕ) (rest more : List (ℕ × ℕ)) → address < low → IsFrom low rest → IsFrom low more → kept_word address one ++ rest ≡ kept_word address other ++ more
    → (one ≡ other) × (rest ≡ more)
told_apart address low one other rest more less from from' = by_test (one == 0) refl (other == 0) refl
  where
    by_test : (a : Bool) → (one == 0) ≡ a → (b : Bool) → (other == 0) ≡ b → (if a then [] else (address, one) ∷ []) ++ rest ≡ (if b then [] else (address, other) ∷ []) ++ more
        → (one ≡ other) × (rest ≡ more)
    by_test true e true f same = (eqb-true one 0 e ∙ sym (eqb-true other 0 f), same)
    by_test true e false f same = absurd (not_there address low other rest more less from same)
    by_test false e true f same = absurd (not_there address low one more rest less from' (sym same))
    by_test false e false f same = (ap (λ (l : List (ℕ × ℕ)). (slice_index_or l 0 (0, 0)).1) same, ap (λ (l : List (ℕ × ℕ)). drop 1 l) same)

-- ---- a line, and those behind it

-- the words of a line, each before what is behind it
spread : (address : ℕ) (line : Line) (rest : List (ℕ × ℕ))
    → line_words address line ++ rest ≡ kept_word address line.a ++ (kept_word (address + 4) line.b ++ (kept_word (address + 8) line.c ++ (kept_word (address + 12) line.d ++ rest)))
spread address line rest =
    let a = kept_word address line.a in
    let b = kept_word (address + 4) line.b in
    let c = kept_word (address + 8) line.c in
    let d = kept_word (address + 12) line.d in
    append_assoc a (b ++ (c ++ d)) rest
    ∙ ap (λ (l : List (ℕ × ℕ)). a ++ l) (append_assoc b (c ++ d) rest)
    ∙ ap (λ (l : List (ℕ × ℕ)). a ++ (b ++ l)) (append_assoc c d rest)

-- what stands behind each word of a line begins with the next word or above it
record StandBehind (address : ℕ) (line : Line) (rest : List (ℕ × ℕ)) : Type 0 where
  first : IsFrom (address + 4) (kept_word (address + 4) line.b ++ (kept_word (address + 8) line.c ++ (kept_word (address + 12) line.d ++ rest)))
  second : IsFrom (address + 8) (kept_word (address + 8) line.c ++ (kept_word (address + 12) line.d ++ rest))
  third : IsFrom (address + 12) (kept_word (address + 12) line.d ++ rest)
  whole : IsFrom address (line_words address line ++ rest)

stand_behind : (address : ℕ) (line : Line) (rest : List (ℕ × ℕ)) → IsFrom (address + 16) rest → StandBehind address line rest
stand_behind address line rest from =
    let d = kept_word (address + 12) line.d ++ rest in
    let c = kept_word (address + 8) line.c ++ d in
    let b = kept_word (address + 4) line.b ++ c in
    let third : IsFrom (address + 12) d = word_from (address + 12) (address + 16) line.d rest (omega arith) from in
    let second : IsFrom (address + 8) c = word_from (address + 8) (address + 12) line.c d (omega arith) third in
    let first : IsFrom (address + 4) b = word_from (address + 4) (address + 8) line.b c (omega arith) second in
    record {
      first = first;
      second = second;
      third = third;
      whole = subst (IsFrom address) (sym (spread address line rest)) (word_from address (address + 4) line.a b (omega arith) first);
    }

lines_from : (address : ℕ) (lines : List Line) → IsFrom address (words_from address lines)
lines_from address [] = tt
lines_from address (line ∷ rest) = (stand_behind address line (words_from (address + 16) rest) (lines_from (address + 16) rest)).whole

line_told : (address : ℕ) (one other : Line) (rest more : List (ℕ × ℕ)) → IsFrom (address + 16) rest → IsFrom (address + 16) more → line_words address one ++ rest ≡ line_words address other ++ more
    → (one ≡ other) × (rest ≡ more)
line_told address one other rest more from from' same =
    let s = stand_behind address one rest from in
    let s' = stand_behind address other more from' in
    let a = told_apart address (address + 4) one.a other.a _ _ (omega arith) s.first s'.first (sym (spread address one rest) ∙ same ∙ spread address other more) in
    let b = told_apart (address + 4) (address + 8) one.b other.b _ _ (omega arith) s.second s'.second a.1 in
    let c = told_apart (address + 8) (address + 12) one.c other.c _ _ (omega arith) s.third s'.third b.1 in
    let d = told_apart (address + 12) (address + 16) one.d other.d rest more (omega arith) from from' c.1 in
    (λ i. record { a = a.0 i; b = b.0 i; c = c.0 i; d = d.0 i }, d.1)

lines_told : (address : ℕ) (xs ys : List Line) → length xs ≡ length ys → words_from address xs ≡ words_from address ys → xs ≡ ys
lines_told address [] [] e same = refl
lines_told address [] (y ∷ ys) e same = absurd (omega (arith, e))
lines_told address (x ∷ xs) [] e same = absurd (omega (arith, e))
lines_told address (x ∷ xs) (y ∷ ys) e same =
    let told = line_told address x y (words_from (address + 16) xs) (words_from (address + 16) ys) (lines_from (address + 16) xs) (lines_from (address + 16) ys) same in
    let rest = lines_told (address + 16) xs ys (omega (arith, e)) told.1 in
    λ i. told.0 i ∷ rest i

-- memories of as many lines with the same words are one
pub memory_told : (one other : List Line) → length one ≡ length other → memory_words one ≡ memory_words other → one ≡ other
memory_told one other e same = lines_told _ one other e same

-- ---- keys as code makes them

pub key_append : (xs ys : List (ℕ × ℕ)) → words_key (xs ++ ys) ≡ words_key xs ++ words_key ys
key_append [] ys = refl
key_append (x ∷ xs) ys = ap (λ (l : List ℕ). x.0 ∷ x.1 ∷ l) (key_append xs ys)

-- the four words of a line behind a key, one after the other
pub key_line : (at address : ℕ) (line : Line) (key one two three four : List ℕ) → at ≡ address
    → one ≡ key ++ words_key (kept_word at line.a) → two ≡ one ++ words_key (kept_word (at + 4) line.b) → three ≡ two ++ words_key (kept_word (at + 8) line.c)
    → four ≡ three ++ words_key (kept_word (at + 12) line.d)
    → four ≡ key ++ words_key (line_words address line)
key_line at address line key one two three four here e f g h =
    let a = kept_word at line.a in
    let b = kept_word (at + 4) line.b in
    let c = kept_word (at + 8) line.c in
    let d = kept_word (at + 12) line.d in
    h ∙ (λ i. g i ++ words_key d)
    ∙ append_assoc two (words_key c) (words_key d)
    ∙ (λ i. f i ++ sym (key_append c d) i)
    ∙ append_assoc one (words_key b) (words_key (c ++ d))
    ∙ (λ i. e i ++ sym (key_append b (c ++ d)) i)
    ∙ append_assoc key (words_key a) (words_key (b ++ (c ++ d)))
    ∙ ap (λ (l : List ℕ). key ++ l) (sym (key_append a (b ++ (c ++ d))))
    ∙ ap (λ (n : ℕ). key ++ words_key (line_words n line)) here

one_more : (address k : ℕ) (lines : List Line) (zero_line : Line) → k < length lines
    → words_from address (take (suc k) lines) ≡ words_from address (take k lines) ++ line_words (address + 16 * k) (slice_index_or lines k zero_line)
one_more address k [] zero_line less = absurd (omega (arith, less))
one_more address zero (line ∷ rest) zero_line less = append-nil (line_words address line) ∙ ap (λ (n : ℕ). line_words n line) here
  where
    here : address ≡ address + 16 * 0
    here = omega arith
one_more address (suc k) (line ∷ rest) zero_line less =
    ap (λ (l : List (ℕ × ℕ)). line_words address line ++ l) (one_more (address + 16) k rest zero_line (omega (arith, less)))
    ∙ sym (append_assoc (line_words address line) (words_from (address + 16) (take k rest)) _)
    ∙ ap (λ (n : ℕ). (line_words address line ++ words_from (address + 16) (take k rest)) ++ line_words n (slice_index_or rest k zero_line)) further
  where
    further : address + 16 + 16 * k ≡ address + 16 * suc k
    further = omega arith

pub key_more : (address : ℕ) (before key after : List ℕ) (lines : List Line) (k : ℕ) (zero_line : Line) → k < length lines → key ≡ before ++ words_key (words_from address (take k lines))
    → after ≡ key ++ words_key (line_words (address + 16 * k) (slice_index_or lines k zero_line))
    → after ≡ before ++ words_key (words_from address (take (k + 1) lines))
key_more address before key after lines k zero_line less is pushed =
    let line = line_words (address + 16 * k) (slice_index_or lines k zero_line) in
    pushed
    ∙ (λ i. is i ++ words_key line)
    ∙ append_assoc before (words_key (words_from address (take k lines))) (words_key line)
    ∙ ap (λ (l : List ℕ). before ++ l) (sym (key_append (words_from address (take k lines)) line) ∙ ap words_key (sym (one_more address k lines zero_line less)))
    ∙ ap (λ (n : ℕ). before ++ words_key (words_from address (take n lines))) next
  where
    next : suc k ≡ k + 1
    next = omega arith
