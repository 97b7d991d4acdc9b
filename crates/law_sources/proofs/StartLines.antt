-- The lines of starts, and those of lines that are Trap-Always.
use Rattle.std.proofs.Common.{◌≡◌, ℕ, ◌+◌, ◌*◌, ◌%◌, ◌^◌, ◌<◌, ◌≤◌, Bool, true, false, ◌&&◌, ◌||◌, ◌==◌, nat_lt, nat_le, List, [], ◌∷◌, ◌++◌, map, length, Option, refl, arith}
use Rattle.std.proofs.lemmas.Bool.{and_parts, eqb-true, eq-eqb, lt-ltb, ltb-true, false_from_ne_true}
use Rattle.std.specs.List.{AllByRecursion}
use Rattle.alw_num.specs.declared.addresses.NodeNo.{NodeNo}
use Rattle.alw_image.specs.declared.parts.Parts.{Parts}
use Rattle.alw_image.specs.Images.{IsStart, context_started}
use Rattle.sparc_asm.specs.declared.values.Sum.{Sum}
use Rattle.sparc_asm.specs.declared.statements.Signed.{Signed}
use Rattle.sparc_asm.specs.declared.statements.Statement.TheVariants as statement
use Rattle.sparc_asm.specs.declared.statements.Line.{Line}
use Rattle.sparc_asm.specs.Values.{above, below, modulo}
use Rattle.sparc_asm.specs.Encoding.{coded}
use Rattle.sparc_place.specs.Places.{Layout, is_index, with_start, with_range}
use Rattle.sparc_assemble.specs.Assembly.{Filled, put_start}
use Rattle.sparc_assemble.proofs.Rising.{Rises}
use Rattle.law_sources.specs.Parsed.{number, line_of, start_read, always_read}
use Rattle.law_sources.proofs.Steps.{HasNumber, is_number, Step, LinesGo, goes}
use Rattle.law_sources.proofs.CodeLines.{laid_so}
use Rattle.law_sources.proofs.SizeLines.{nothing_added}

index_within : (most n : ℕ) (v : Sum) → above v ≡ n → below v ≡ 0 → n < most → is_index most v ≡ true
index_within most n v high low small = rw (high, low) (lt-ltb n most small)

-- ---- starts

-- starts and those of a list
abbrev pub starts_with : List (NodeNo × ℕ × ℕ) → (ℕ → ℕ → Option ℕ) → ℕ → ℕ → Option ℕ
starts_with [] starts = starts
starts_with (x ∷ xs) starts = starts_with xs (put_start x.0.0 x.1 x.2 starts)

-- contexts with a start have numbers below another
abbrev pub StartsBelow : ℕ → (ℕ → ℕ → Bool) → ℕ → Type 0
StartsBelow contexts started low = (n s : ℕ) → s < contexts → started n s ≡ true → n * contexts + s < low

started_more : (contexts node slot low : ℕ) (started : ℕ → ℕ → Bool) → StartsBelow contexts started low → low ≤ node * contexts + slot → StartsBelow contexts (with_start node slot started) (node * contexts + slot + 1)
started_more contexts node slot low started before least n s small holds = go ((n == node) && (s == slot)) refl holds
  where
    go : (b : Bool) → ((n == node) && (s == slot)) ≡ b → (b || started n s) ≡ true → n * contexts + s < node * contexts + slot + 1
    go true e holds =
        let parts = and_parts _ _ e in
        let same : n ≡ node = eqb-true _ _ parts.0 in
        let alike : s ≡ slot = eqb-true _ _ parts.1 in
        rw (same, alike) (omega arith)
    go false e holds = omega (arith, before n s small holds)

module _ (p : Parts) (total : ℕ) (written : ℕ → Bool) (always : ℕ → Bool) where
  abbrev in_starts : Bool → (ℕ → ℕ → Bool) → Layout
  in_starts begun started = laid_so p begun false total 0 written started always

  start_step : (count n node slot address : ℕ) (begun : Bool) (started : ℕ → ℕ → Bool) (f : Filled) (a b e : List Signed) → HasNumber a node → HasNumber b slot → HasNumber e address
      → started node slot ≡ false → node < p.width * p.height → slot < p.contexts → address % 4 ≡ 0 → address < 4 * count → count ≤ 65536
      → Step count n (line_of (statement.Start a b e)) (in_starts begun started) (in_starts true (with_start node slot started)) f (record f { starts = put_start node slot address f.starts })
  start_step count n node slot address begun started f a b e is_a is_b is_e new node_is slot_is even low few =
      let one = index_within (p.width * p.height) node is_a.value is_a.above is_a.below node_is in
      let other = index_within p.contexts slot is_b.value is_b.above is_b.below slot_is in
      let in_code : nat_lt address (4 * count) ≡ true = lt-ltb _ _ low in
      let aligned : (address % 4 == 0) ≡ true = eq-eqb _ _ even in
      let same : modulo (2 ^ 32) is_e.value ≡ address = omega (arith, is_e.above, is_e.below) in
      record {
        placed = rw (is_a.is (4 * total), is_b.is (4 * total), one, other, is_a.above, is_a.below, is_b.above, is_b.below, new) refl;
        valued = rw (is_e.is (4 * total), is_e.above, is_e.below, in_code, aligned) refl;
        laid = rw (is_a.is (4 * total), is_b.is (4 * total), is_a.above, is_b.above) refl;
        filled = rw (is_a.is (4 * total), is_b.is (4 * total), is_e.is (4 * total), is_a.above, is_b.above, same) refl;
      }

  -- behind lines of starts that ascend
  pub starts_go : (from : ℕ) (xs : List (NodeNo × ℕ × ℕ)) (low high : ℕ) (rest : List Line) (begun : Bool) (started : ℕ → ℕ → Bool) (f : Filled) (Good : Layout → Filled → Type 0)
      → length p.code ≤ 65536 → AllByRecursion (IsStart p) xs → Rises low high (map (context_started p) xs) → StartsBelow p.contexts started low
      → ((b : Bool) (n : ℕ) (started' : ℕ → ℕ → Bool) (g : Filled) → g.words ≡ f.words → g.memory ≡ f.memory → g.starts ≡ starts_with xs f.starts → LinesGo (length p.code) n rest (in_starts b started') g Good)
      → LinesGo (length p.code) from (map start_read xs ++ rest) (in_starts begun started) f Good
  starts_go from [] low high rest begun started f Good few all up before more = more begun from started f refl refl refl
  starts_go from (x ∷ xs) low high rest begun started f Good few all up before more =
      let new : started x.0.0 x.1 ≡ false = false_from_ne_true _ (λ holds. (let below = before x.0.0 x.1 all.0.1 holds in let least = up.0 in omega arith)) in
      let g : Filled = record f { starts = put_start x.0.0 x.1 x.2 f.starts } in
      goes (length p.code) from (start_read x) (map start_read xs ++ rest) (in_starts begun started) (in_starts true (with_start x.0.0 x.1 started)) f g Good
      (start_step (length p.code) from x.0.0 x.1 x.2 begun started f (number x.0.0) (number x.1) (number x.2) (is_number x.0.0) (is_number x.1) (is_number x.2) new all.0.0 all.0.1 all.0.2 all.0.3 few)
      (starts_go (from + 1) xs (context_started p x + 1) high rest true (with_start x.0.0 x.1 started) g Good few all.1 up.1 (started_more p.contexts x.0.0 x.1 low started before up.0)
      (λ b n started' h words memory starts. more b n started' h words memory starts))

-- ---- lines that are Trap-Always

-- the lines of a list, and those of a set
abbrev pub always_with : List ℕ → (ℕ → Bool) → ℕ → Bool
always_with [] always = always
always_with (x ∷ xs) always = always_with xs (with_range x (x + 1) always)

abbrev pub AlwaysBelow : (ℕ → Bool) → ℕ → Type 0
AlwaysBelow always low = (n : ℕ) → always n ≡ true → n < low

always_more : (x low : ℕ) (always : ℕ → Bool) → AlwaysBelow always low → low ≤ x → AlwaysBelow (with_range x (x + 1) always) (x + 1)
always_more x low always before least n holds = go (nat_le x n && nat_lt n (x + 1)) refl holds
  where
    go : (b : Bool) → (nat_le x n && nat_lt n (x + 1)) ≡ b → (b || always n) ≡ true → n < x + 1
    go true e holds = ltb-true _ _ (and_parts _ _ e).1
    go false e holds = omega (arith, before n holds)

module _ (p : Parts) (total : ℕ) (written : ℕ → Bool) (started : ℕ → ℕ → Bool) where
  abbrev in_always : Bool → (ℕ → Bool) → Layout
  in_always begun always = laid_so p begun false total 0 written started always

  always_step : (count n line : ℕ) (begun : Bool) (always : ℕ → Bool) (f : Filled) (a : List Signed) → HasNumber a line → always line ≡ false → line < p.width * p.height * p.per_node
      → Step count n (line_of (statement.Always a)) (in_always begun always) (in_always true (with_range line (line + 1) always)) f f
  unfolding coded
  always_step count n line begun always f a is new there =
      let within = index_within (p.width * p.height * p.per_node) line is.value is.above is.below there in
      record {
        placed = rw (is.is (4 * total), within, is.above, is.below, new) refl;
        valued = refl;
        laid = rw (is.is (4 * total), is.above) refl;
        filled = nothing_added n f;
      }

  -- behind lines of Trap-Always lines that ascend
  pub always_go : (count from : ℕ) (xs : List ℕ) (low high : ℕ) (rest : List Line) (begun : Bool) (always : ℕ → Bool) (f : Filled) (Good : Layout → Filled → Type 0)
      → AllByRecursion (λ line. line < p.width * p.height * p.per_node) xs → Rises low high xs → AlwaysBelow always low
      → ((b : Bool) (n : ℕ) → LinesGo count n rest (in_always b (always_with xs always)) f Good)
      → LinesGo count from (map always_read xs ++ rest) (in_always begun always) f Good
  always_go count from [] low high rest begun always f Good all up before more = more begun from
  always_go count from (x ∷ xs) low high rest begun always f Good all up before more =
      let new : always x ≡ false = false_from_ne_true _ (λ holds. (let below = before x holds in let least = up.0 in omega arith)) in
      goes count from (always_read x) (map always_read xs ++ rest) (in_always begun always) (in_always true (with_range x (x + 1) always)) f f Good
      (always_step count from x begun always f (number x) (is_number x) new all.0)
      (always_go count (from + 1) xs (x + 1) high rest true (with_range x (x + 1) always) f Good all.1 up.1 (always_more x low always before up.0) more)
