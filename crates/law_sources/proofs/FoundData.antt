-- What lines of data fill in is gathered to those lines.
use Rattle.std.proofs.Common.{◌≡◌, ◌≢◌, ℕ, ◌+◌, ◌-◌, ◌*◌, ◌/◌, ◌%◌, ◌^◌, ◌<◌, ◌≤◌, Bool, true, false, cond, ◌&&◌, ◌==◌, nat_lt, nat_le, if◌then◌else◌, List, [], ◌∷◌, map, slice_index, refl, sym, ap, ◌∙◌, arith}
use Rattle.std.proofs.lemmas.Bool.{and_parts, and_from, eqb-true, eqb-false, lt-ltb, le-leb, ltb-true, leb-true, false_from_ne_true}
use Rattle.std.proofs.lemmas.Nat.{from_be_bytes-to_be_bytes_4}
use Rattle.std.specs.List.{AllByRecursion}
use Rattle.alw_num.specs.declared.addresses.Line.{Line as Body}
use Rattle.alw_num.specs.declared.addresses.LineNo.{LineNo}
use Rattle.alw_num.specs.Lanes.{bytes_of}
use Rattle.alw_image.specs.Images.{zero_line}
use Rattle.alw_image.specs.Numbers.{HasFourWords}
use Rattle.sparc_assemble.specs.Assembly.{gathered, written_over, word_in, body_at, is_zero, data_line}
use Rattle.sparc_assemble.proofs.Rising.{Rises}
use Rattle.law_sources.proofs.DataLines.{memory_with}
use Rattle.law_sources.proofs.Gathered.{with_key, none_with_key, gathered_all}

-- ---- the bytes of one line

-- a byte of a line that is written
byte_there : (n i place : ℕ) (body : Body) (memory : ℕ → ℕ) → place ≡ 16 * n + i → i < 16 → written_over (16 * n) (bytes_of body) memory place ≡ slice_index (bytes_of body) i
byte_there n i place body memory is small =
    let inside : (nat_le (16 * n) place && nat_lt place (16 * n + 16)) ≡ true = and_from _ _ (le-leb (16 * n) place (omega arith)) (lt-ltb place (16 * n + 16) (omega arith)) in
    let at : place - 16 * n ≡ i = omega arith in
    there (nat_le (16 * n) place && nat_lt place (16 * n + 16)) (bytes_of body) (place - 16 * n) (memory place) inside ∙ ap (slice_index (bytes_of body)) at
  where
    there : (b : Bool) (bytes : List ℕ) (at other : ℕ) → b ≡ true → (if b then slice_index bytes at else other) ≡ slice_index bytes at
    there b bytes at other is = rw is refl

-- a byte of another line
byte_elsewhere : (n x place : ℕ) (body : Body) (memory : ℕ → ℕ) → x ≢ n → 16 * n ≤ place → place < 16 * n + 16 → written_over (16 * x) (bytes_of body) memory place ≡ memory place
byte_elsewhere n x place body memory other low top =
    elsewhere (nat_le (16 * x) place && nat_lt place (16 * x + 16)) (bytes_of body) (place - 16 * x) (memory place)
    (false_from_ne_true _ (λ both. (let parts = and_parts (nat_le (16 * x) place) (nat_lt place (16 * x + 16)) both in let least = leb-true (16 * x) place parts.0 in let most = ltb-true place (16 * x + 16) parts.1 in other (omega arith))))
  where
    elsewhere : (b : Bool) (bytes : List ℕ) (at unwritten : ℕ) → b ≡ false → (if b then slice_index bytes at else unwritten) ≡ unwritten
    elsewhere b bytes at unwritten is = rw is refl

word_back : (memory : ℕ → ℕ) (at word : ℕ) → word < 2 ^ 32 → memory at ≡ word / 16777216 % 256 → memory (at + 1) ≡ word / 65536 % 256 → memory (at + 2) ≡ word / 256 % 256 → memory (at + 3) ≡ word % 256 → word_in memory at ≡ word
word_back memory at word small a b c d = rw (a, b, c, d) (from_be_bytes-to_be_bytes_4 word small)

word_same : (old new : ℕ → ℕ) (at : ℕ) → new at ≡ old at → new (at + 1) ≡ old (at + 1) → new (at + 2) ≡ old (at + 2) → new (at + 3) ≡ old (at + 3) → word_in new at ≡ word_in old at
word_same old new at a b c d = rw (a, b, c, d) refl

body_equal : (b c : Body) → b.a ≡ c.a → b.b ≡ c.b → b.c ≡ c.c → b.d ≡ c.d → b ≡ c
body_equal b c p q r s = λ i. record { a = p i; b = q i; c = r i; d = s i }

-- a line that is written
body_back : (n : ℕ) (body : Body) (memory : ℕ → ℕ) → body.a < 2 ^ 32 → body.b < 2 ^ 32 → body.c < 2 ^ 32 → body.d < 2 ^ 32 → body_at (written_over (16 * n) (bytes_of body) memory) n ≡ body
body_back n body memory small_a small_b small_c small_d =
    let new : ℕ → ℕ = written_over (16 * n) (bytes_of body) memory in
    body_equal _ body
    (word_back new (16 * n) body.a small_a (byte_there n 0 _ body memory (omega arith) (omega arith)) (byte_there n 1 _ body memory (omega arith) (omega arith)) (byte_there n 2 _ body memory (omega arith) (omega arith)) (byte_there n 3 _ body memory (omega arith) (omega arith)))
    (word_back new (16 * n + 4) body.b small_b (byte_there n 4 _ body memory (omega arith) (omega arith)) (byte_there n 5 _ body memory (omega arith) (omega arith)) (byte_there n 6 _ body memory (omega arith) (omega arith)) (byte_there n 7 _ body memory (omega arith) (omega arith)))
    (word_back new (16 * n + 8) body.c small_c (byte_there n 8 _ body memory (omega arith) (omega arith)) (byte_there n 9 _ body memory (omega arith) (omega arith)) (byte_there n 10 _ body memory (omega arith) (omega arith)) (byte_there n 11 _ body memory (omega arith) (omega arith)))
    (word_back new (16 * n + 12) body.d small_d (byte_there n 12 _ body memory (omega arith) (omega arith)) (byte_there n 13 _ body memory (omega arith) (omega arith)) (byte_there n 14 _ body memory (omega arith) (omega arith)) (byte_there n 15 _ body memory (omega arith) (omega arith)))

-- another line stays
body_same : (n x : ℕ) (body : Body) (memory : ℕ → ℕ) → x ≢ n → body_at (written_over (16 * x) (bytes_of body) memory) n ≡ body_at memory n
body_same n x body memory other =
    let new : ℕ → ℕ = written_over (16 * x) (bytes_of body) memory in
    let same : (place : ℕ) → 16 * n ≤ place → place < 16 * n + 16 → new place ≡ memory place = λ place low top. byte_elsewhere n x place body memory other low top in
    body_equal _ _
    (word_same memory new (16 * n) (same _ (omega arith) (omega arith)) (same _ (omega arith) (omega arith)) (same _ (omega arith) (omega arith)) (same _ (omega arith) (omega arith)))
    (word_same memory new (16 * n + 4) (same _ (omega arith) (omega arith)) (same _ (omega arith) (omega arith)) (same _ (omega arith) (omega arith)) (same _ (omega arith) (omega arith)))
    (word_same memory new (16 * n + 8) (same _ (omega arith) (omega arith)) (same _ (omega arith) (omega arith)) (same _ (omega arith) (omega arith)) (same _ (omega arith) (omega arith)))
    (word_same memory new (16 * n + 12) (same _ (omega arith) (omega arith)) (same _ (omega arith) (omega arith)) (same _ (omega arith) (omega arith)) (same _ (omega arith) (omega arith)))

-- ---- the bytes of all

abbrev line : LineNo × Body → ℕ
line entry = entry.0.0

data_stays : (low high : ℕ) (xs : List (LineNo × Body)) (memory : ℕ → ℕ) (n : ℕ) → Rises low high (map line xs) → n < low → body_at (memory_with xs memory) n ≡ body_at memory n
data_stays low high [] memory n up less = refl
data_stays low high (x ∷ xs) memory n up less =
    let least = up.0 in
    data_stays (line x + 1) high xs (written_over (16 * line x) (bytes_of x.1) memory) n up.1 (omega arith) ∙ body_same n (line x) x.1 memory (λ same. omega arith)

-- a line is listed where its bytes aren't all 0
listed : (b : Body) (n : ℕ) → List (LineNo × Body)
listed b n = if is_zero b then [] else (record { 0 = n }, b) ∷ []

some_byte : (b : Body) → b ≢ zero_line → is_zero b ≡ false
some_byte b some = false_from_ne_true _ (λ zeros. (
    let first = and_parts (b.a == 0) ((b.b == 0) && ((b.c == 0) && (b.d == 0))) zeros in
    let second = and_parts (b.b == 0) ((b.c == 0) && (b.d == 0)) first.1 in
    let third = and_parts (b.c == 0) (b.d == 0) second.1 in
    some (body_equal b zero_line (eqb-true b.a 0 first.0) (eqb-true b.b 0 second.0) (eqb-true b.c 0 third.0) (eqb-true b.d 0 third.1))))

abbrev AreSome : List (LineNo × Body) → Type 0
AreSome xs = AllByRecursion (λ entry. entry.1 ≢ zero_line) xs

data_found : (low high : ℕ) (xs : List (LineNo × Body)) (memory : ℕ → ℕ) (n : ℕ) → AreSome xs → AllByRecursion HasFourWords xs → Rises low high (map line xs) → is_zero (body_at memory n) ≡ true
    → listed (body_at (memory_with xs memory) n) n ≡ with_key line n xs
unfolding listed
data_found low high [] memory n some small up zeros = rw zeros refl
data_found low high (x ∷ xs) memory n some small up zeros = go (line x == n) refl (data_found (line x + 1) high xs (written_over (16 * line x) (bytes_of x.1) memory) n some.1 small.1 up.1)
  where
    here : (b : Body) → b ≡ x.1 → line x ≡ n → listed b n ≡ x ∷ []
    here b is same = let some_one : is_zero x.1 ≡ false = some_byte x.1 some.0 in rw (is, some_one, sym same) refl

    go : (b : Bool) → (line x == n) ≡ b → (is_zero (body_at (written_over (16 * line x) (bytes_of x.1) memory) n) ≡ true → listed (body_at (memory_with xs (written_over (16 * line x) (bytes_of x.1) memory)) n) n ≡ with_key line n xs)
        → listed (body_at (memory_with xs (written_over (16 * line x) (bytes_of x.1) memory)) n) n ≡ cond b (x ∷ with_key line n xs) (with_key line n xs)
    go true e rest =
        let same = eqb-true (line x) n e in
        let kept : body_at (memory_with xs (written_over (16 * line x) (bytes_of x.1) memory)) n ≡ body_at (written_over (16 * line x) (bytes_of x.1) memory) n = data_stays (line x + 1) high xs (written_over (16 * line x) (bytes_of x.1) memory) n up.1 (omega arith) in
        let back : body_at (written_over (16 * line x) (bytes_of x.1) memory) n ≡ x.1 = ap (body_at (written_over (16 * line x) (bytes_of x.1) memory)) (sym same) ∙ body_back (line x) x.1 memory small.0.0 small.0.1.0 small.0.1.1.0 small.0.1.1.1 in
        let none_behind : with_key line n xs ≡ [] = none_with_key line (line x + 1) high n xs up.1 (omega arith) in
        here (body_at (memory_with xs (written_over (16 * line x) (bytes_of x.1) memory)) n) (kept ∙ back) same ∙ ap (λ ys. x ∷ ys) (sym none_behind)
    go false e rest = rest (ap is_zero (body_same n (line x) x.1 memory (eqb-false (line x) n e)) ∙ zeros)

-- the lines are gathered from memory
pub data_gathered : (high : ℕ) (xs : List (LineNo × Body)) → AreSome xs → AllByRecursion HasFourWords xs → Rises 0 high (map line xs) → gathered (data_line (memory_with xs (λ place. 0))) high ≡ xs
unfolding listed
data_gathered high xs some small up = gathered_all line high xs up (data_line (memory_with xs (λ place. 0))) (λ k less. data_found 0 high xs (λ place. 0) k some small up refl)
