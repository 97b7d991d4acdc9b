-- The lines of data.
use Rattle.std.proofs.Common.{◌≡◌, ℕ, zero, suc, ◌+◌, ◌-◌, ◌*◌, ◌^◌, ◌<◌, ◌≤◌, Bool, true, false, ◌&&◌, ◌||◌, nat_lt, nat_le, List, [], ◌∷◌, map, None, refl, ap, ◌∙◌, arith}
use Rattle.std.proofs.lemmas.Bool.{and_parts, or_from, le-leb, eq-eqb, ltb-true, false_from_ne_true}
use Rattle.std.specs.List.{AllByRecursion, flat_map}
use Rattle.alw_num.specs.declared.addresses.Line.{Line as Body}
use Rattle.alw_num.specs.declared.addresses.LineNo.{LineNo}
use Rattle.alw_num.specs.declared.addresses.Width.TheVariants.{Word}
use Rattle.alw_num.specs.Lanes.{bytes_of}
use Rattle.alw_image.specs.declared.parts.Parts.{Parts}
use Rattle.alw_image.specs.Images.{IsDataLine}
use Rattle.alw_image.specs.Numbers.{HasFourWords}
use Rattle.sparc_asm.specs.declared.values.Sum.{Sum}
use Rattle.sparc_asm.specs.declared.statements.Signed.{Signed}
use Rattle.sparc_asm.specs.declared.statements.Statement.TheVariants as statement
use Rattle.sparc_asm.specs.Values.{above, below, is_between, modulo}
use Rattle.sparc_asm.specs.Encoding.{coded}
use Rattle.sparc_place.specs.Marks.{any_below}
use Rattle.sparc_place.specs.Places.{Layout, here_of, with_range}
use Rattle.sparc_assemble.specs.Assembly.{Filled, data_fault, datum, spelled_as, written_over, with_bytes}
use Rattle.sparc_assemble.proofs.Rising.{Rises}
use Rattle.law_sources.specs.Parsed.{number, line_of, data_read}
use Rattle.law_sources.proofs.Steps.{no_names, HasNumber, is_number, no_fault, Step, LinesGo, goes, ends}
use Rattle.law_sources.proofs.CodeLines.{laid_so, within_word}
use Rattle.law_sources.proofs.SizeLines.{nothing_added}

-- the bytes of data lines, over those of a memory
abbrev pub memory_with : List (LineNo × Body) → (ℕ → ℕ) → ℕ → ℕ
memory_with [] memory = memory
memory_with (x ∷ xs) memory = memory_with xs (written_over (16 * x.0.0) (bytes_of x.1) memory)

-- bytes that are written stand before a line
abbrev pub WrittenBelow : (ℕ → Bool) → ℕ → Type 0
WrittenBelow written low = (place : ℕ) → written place ≡ true → place < 16 * low

written_more : (x low : ℕ) (written : ℕ → Bool) → WrittenBelow written low → low ≤ x → WrittenBelow (with_range (16 * x) (16 * x + 16) written) (x + 1)
written_more x low written before least place holds = go (nat_le (16 * x) place && nat_lt place (16 * x + 16)) refl holds
  where
    go : (b : Bool) → (nat_le (16 * x) place && nat_lt place (16 * x + 16)) ≡ b → (b || written place) ≡ true → place < 16 * (x + 1)
    go true e holds = let parts = and_parts (nat_le (16 * x) place) (nat_lt place (16 * x + 16)) e in let below = ltb-true place (16 * x + 16) parts.1 in omega arith
    go false e holds = omega (arith, before place holds)

none_below : (count : ℕ) (test : ℕ → Bool) → ((i : ℕ) → test i ≡ false) → any_below count test ≡ false
none_below zero test none = refl
none_below (suc n) test none = or_from _ _ (none_below n test none) (none n)

between_is : (most n : ℕ) (v : Sum) → above v ≡ n → below v ≡ 0 → n ≤ most → is_between 0 most v ≡ true
between_is most n v high low small = rw (high, low) (le-leb n most small)

-- ---- four words

four_fit : (here : ℕ) (a b c d : List Signed) (body : Body) → HasNumber a body.a → HasNumber b body.b → HasNumber c body.c → HasNumber d body.d → body.a < 2 ^ 32 → body.b < 2 ^ 32 → body.c < 2 ^ 32 → body.d < 2 ^ 32
    → data_fault no_names here Word (a ∷ b ∷ c ∷ d ∷ []) ≡ None
four_fit here a b c d body is_a is_b is_c is_d small_a small_b small_c small_d =
    let wa = within_word body.a is_a.value is_a.above is_a.below small_a in
    let wb = within_word body.b is_b.value is_b.above is_b.below small_b in
    let wc = within_word body.c is_c.value is_c.above is_c.below small_c in
    let wd = within_word body.d is_d.value is_d.above is_d.below small_d in
    rw (is_a.is here, is_b.is here, is_c.is here, is_d.is here, wa, wb, wc, wd) refl

datum_is : (here n : ℕ) (e : List Signed) → HasNumber e n → n < 2 ^ 32 → datum no_names here (2 ^ 32) e ≡ n
datum_is here n e is small = let same : modulo (2 ^ 32) is.value ≡ n = omega (arith, is.above, is.below) in rw (is.is here, same) refl

four_equal : (a b c d a' b' c' d' : ℕ) → a ≡ a' → b ≡ b' → c ≡ c' → d ≡ d' → a ∷ b ∷ c ∷ d ∷ [] ≡ a' ∷ b' ∷ c' ∷ d' ∷ []
four_equal a b c d a' b' c' d' p q r s = rw (p, q, r, s) refl

module _ (p : Parts) (total : ℕ) (started : ℕ → ℕ → Bool) (always : ℕ → Bool) where
  abbrev in_lines : Bool → Bool → ℕ → (ℕ → Bool) → Layout
  in_lines begun in_data shared written = laid_so p begun in_data total shared written started always

  shared_step : (count n offset shared : ℕ) (begun in_data : Bool) (written : ℕ → Bool) (f : Filled) (a : List Signed) → HasNumber a offset → offset ≤ 16 * (p.width * p.height * p.per_node)
      → Step count n (line_of (statement.Shared a)) (in_lines begun in_data shared written) (in_lines true true offset written) f f
  unfolding coded
  shared_step count n offset shared begun in_data written f a is there =
      let here = here_of (in_lines begun in_data shared written) in
      let within = between_is (16 * (p.width * p.height * p.per_node)) offset is.value is.above is.below there in
      record {
        placed = rw (is.is here, within) refl;
        valued = refl;
        laid = rw (is.is here, is.above) refl;
        filled = nothing_added n f;
      }

  words_step : (count n line : ℕ) (written : ℕ → Bool) (f : Filled) (a b c d : List Signed) (body : Body) → HasNumber a body.a → HasNumber b body.b → HasNumber c body.c → HasNumber d body.d
      → body.a < 2 ^ 32 → body.b < 2 ^ 32 → body.c < 2 ^ 32 → body.d < 2 ^ 32 → line < p.width * p.height * p.per_node → WrittenBelow written line
      → Step count n (line_of (statement.Data Word (a ∷ b ∷ c ∷ d ∷ []))) (in_lines true true (16 * line) written) (in_lines true true (16 * line + 16) (with_range (16 * line) (16 * line + 16) written)) f (record f { memory = written_over (16 * line) (bytes_of body) f.memory })
  words_step count n line written f a b c d body is_a is_b is_c is_d small_a small_b small_c small_d there before =
      let l = in_lines true true (16 * line) written in
      let here = 0x40000000 + 16 * line in
      let room : nat_le (16 * line + 16) (16 * (p.width * p.height * p.per_node)) ≡ true = le-leb _ _ (omega arith) in
      let free : any_below 16 (λ i. written (16 * line + i)) ≡ false = none_below 16 (λ i. written (16 * line + i)) (λ i. false_from_ne_true _ (λ holds. (let below = before (16 * line + i) holds in omega arith))) in
      let values = four_equal _ _ _ _ _ _ _ _ (datum_is here body.a a is_a small_a) (datum_is here body.b b is_b small_b) (datum_is here body.c c is_c small_c) (datum_is here body.d d is_d small_d) in
      let from : 0x40000000 + 16 * line - 0x40000000 ≡ 16 * line = omega arith in
      record {
        placed = no_fault l (statement.Data Word (a ∷ b ∷ c ∷ d ∷ [])) refl refl room (eq-eqb _ _ (omega arith)) free;
        valued = four_fit here a b c d body is_a is_b is_c is_d small_a small_b small_c small_d;
        laid = refl;
        filled = ap (λ vs. with_bytes (0x40000000 + 16 * line - 0x40000000) (flat_map (spelled_as Word) vs) f) values ∙ ap (λ at. with_bytes at (bytes_of body) f) from;
      }

  -- behind the lines of data, which ascend and are the last
  pub data_goes : (count from : ℕ) (xs : List (LineNo × Body)) (low high : ℕ) (begun in_data : Bool) (shared : ℕ) (written : ℕ → Bool) (f : Filled) (Good : Layout → Filled → Type 0)
      → AllByRecursion (IsDataLine p) xs → AllByRecursion HasFourWords xs → Rises low high (map (λ entry. entry.0.0) xs) → WrittenBelow written low
      → ((b d : Bool) (s : ℕ) (w : ℕ → Bool) (g : Filled) → g.words ≡ f.words → g.starts ≡ f.starts → g.memory ≡ memory_with xs f.memory → Good (in_lines b d s w) g)
      → LinesGo count from (flat_map data_read xs) (in_lines begun in_data shared written) f Good
  data_goes count from [] low high begun in_data shared written f Good all small up before more =
      ends count from (in_lines begun in_data shared written) f Good (more begun in_data shared written f refl refl refl)
  data_goes count from (x ∷ xs) low high begun in_data shared written f Good all small up before more =
      let line = x.0.0 in
      let body = x.1 in
      let there : line < p.width * p.height * p.per_node = all.0.0 in
      let now : WrittenBelow written line = λ place holds. (let below = before place holds in let least = up.0 in omega arith) in
      let g : Filled = record f { memory = written_over (16 * line) (bytes_of body) f.memory } in
      goes count from (line_of (statement.Shared (number (16 * line)))) _ (in_lines begun in_data shared written) (in_lines true true (16 * line) written) f f Good
      (shared_step count from (16 * line) shared begun in_data written f (number (16 * line)) (is_number (16 * line)) (omega arith))
      (goes count (from + 1) (line_of (statement.Data Word (number body.a ∷ number body.b ∷ number body.c ∷ number body.d ∷ []))) (flat_map data_read xs) (in_lines true true (16 * line) written)
      (in_lines true true (16 * line + 16) (with_range (16 * line) (16 * line + 16) written)) f g Good
      (words_step count (from + 1) line written f (number body.a) (number body.b) (number body.c) (number body.d) body (is_number body.a) (is_number body.b) (is_number body.c) (is_number body.d)
      small.0.0 small.0.1.0 small.0.1.1.0 small.0.1.1.1 there now)
      (data_goes count (from + 1 + 1) xs (line + 1) high true true (16 * line + 16) (with_range (16 * line) (16 * line + 16) written) g Good all.1 small.1 up.1 (written_more line low written before up.0) more))
