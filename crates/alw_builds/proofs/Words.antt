-- The words of an image that bytes spell are below 2^32.
use Rattle.std.proofs.Common.{ℕ, zero, suc, ◌+◌, ◌-◌, ◌<◌, ◌^◌, List, [], ◌∷◌, take, drop, slice_index, arith}
use Rattle.std.specs.List.{AllByRecursion}
use Rattle.alw_num.specs.Lanes.{word_at}
use Rattle.alw_image.specs.Faults.{header_of, bodies_at, starts_at, piece, table_of, word_of, body_of_bytes, image_in}
use Rattle.alw_image.specs.Numbers.{IsWord, HasFourWords, HasWords}

-- each is below 256
abbrev pub AreBytes : List ℕ → Type 0
AreBytes bytes = AllByRecursion (λ byte. byte < 256) bytes

taken : (n : ℕ) (bytes : List ℕ) → AreBytes bytes → AreBytes (take n bytes)
taken zero bytes all = tt
taken (suc n) [] all = tt
taken (suc n) (byte ∷ rest) all = (all.0, taken n rest all.1)

dropped : (n : ℕ) (bytes : List ℕ) → AreBytes bytes → AreBytes (drop n bytes)
dropped zero bytes all = all
dropped (suc n) [] all = tt
dropped (suc n) (byte ∷ rest) all = dropped n rest all.1

byte_at : (bytes : List ℕ) (i : ℕ) → AreBytes bytes → slice_index bytes i < 256
byte_at [] i all = omega arith
byte_at (byte ∷ rest) zero all = all.0
byte_at (byte ∷ rest) (suc i) all = byte_at rest i all.1

pieced : (from to : ℕ) (bytes : List ℕ) → AreBytes bytes → AreBytes (piece from to bytes)
pieced from to bytes all = taken (to - from) (drop from bytes) (dropped from bytes all)

is_word : (bytes : List ℕ) (i : ℕ) → AreBytes bytes → IsWord (word_at bytes i)
is_word bytes i all = omega (arith, byte_at bytes i all, byte_at bytes (i + 1) all, byte_at bytes (i + 2) all, byte_at bytes (i + 2 + 1) all)

code_words : (n : ℕ) (bytes : List ℕ) → AreBytes bytes → AllByRecursion IsWord (table_of word_of 4 n bytes)
code_words zero bytes all = tt
code_words (suc n) bytes all = (is_word (take 4 bytes) 0 (taken 4 bytes all), code_words n (drop 4 bytes) (dropped 4 bytes all))

body_words : (n : ℕ) (bytes : List ℕ) → AreBytes bytes → AllByRecursion HasFourWords (table_of body_of_bytes 20 n bytes)
body_words zero bytes all = tt
body_words (suc n) bytes all =
    let line = drop 4 (take 20 bytes) in
    let fits = dropped 4 (take 20 bytes) (taken 20 bytes all) in
    ((is_word line 0 fits, (is_word line 4 fits, (is_word line 8 fits, is_word line 12 fits))), body_words n (drop 20 bytes) (dropped 20 bytes all))

pub has_words : (bytes : List ℕ) → AreBytes bytes → HasWords (image_in bytes)
has_words bytes all =
    let h = header_of bytes in
    record {
      code = code_words h.code (piece 28 (bodies_at h) bytes) (pieced 28 (bodies_at h) bytes all);
      bodies = body_words h.bodies (piece (bodies_at h) (starts_at h) bytes) (pieced (bodies_at h) (starts_at h) bytes all);
    }

-- the bytes of a slice, each of which fits
pub all_bytes : (bytes : List ℕ) → ((k : ℕ) → slice_index bytes k < 256) → AreBytes bytes
all_bytes [] each = tt
all_bytes (byte ∷ rest) each = (each 0, all_bytes rest (λ k. each (suc k)))
