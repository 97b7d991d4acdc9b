-- Parts that are read off bytes have words of 32 bits.
use Rattle.std.proofs.Common.{ℕ, zero, suc, ◌+◌, ◌<◌, List, [], ◌∷◌, drop, slice_index, take, arith}
use Rattle.std.specs.List.{AllByRecursion}
use Rattle.alw_num.specs.Lanes.{word_at}
use Rattle.alw_image.specs.Numbers.{IsWord, HasFourWords, HasWords}
use Rattle.alw_image.specs.Faults.{image_in, header_of, bodies_at, starts_at, piece, table_of, word_of, body_of_bytes}
use Rattle.alw_trace.specs.Lines.{IsByte}
use Rattle.alw_trace.proofs.OneLine.{all_take, all_drop}

a_byte : (bytes : List ℕ) (i : ℕ) → AllByRecursion IsByte bytes → slice_index bytes i < 256
a_byte [] i all = omega arith
a_byte (byte ∷ rest) zero all = all.0
a_byte (byte ∷ rest) (suc i) all = a_byte rest i all.1

a_word : (bytes : List ℕ) (i : ℕ) → AllByRecursion IsByte bytes → IsWord (word_at bytes i)
a_word bytes i all =
    let a = a_byte bytes i all in
    let b = a_byte bytes (i + 1) all in
    let c = a_byte bytes (i + 2) all in
    let d = a_byte bytes (i + 2 + 1) all in
    omega arith

-- what holds of each member read off bytes holds of a table
a_table : {X : Type 0} (P : X → Type 0) (read : List ℕ → X) (size : ℕ) → ((bytes : List ℕ) → AllByRecursion IsByte bytes → P (read bytes))
    → (count : ℕ) (bytes : List ℕ) → AllByRecursion IsByte bytes → AllByRecursion P (table_of read size count bytes)
a_table P read size each zero bytes all = tt
a_table P read size each (suc count) bytes all =
    (each (take size bytes) (all_take size bytes all), a_table P read size each count (drop size bytes) (all_drop size bytes all))

a_piece : (from to : ℕ) (bytes : List ℕ) → AllByRecursion IsByte bytes → AllByRecursion IsByte (piece from to bytes)
a_piece from to bytes all = all_take _ (drop from bytes) (all_drop from bytes all)

four_words : (bytes : List ℕ) → AllByRecursion IsByte bytes → HasFourWords (body_of_bytes bytes)
four_words bytes all =
    let body = all_drop 4 bytes all in
    (a_word (drop 4 bytes) 0 body, (a_word (drop 4 bytes) 4 body, (a_word (drop 4 bytes) 8 body, a_word (drop 4 bytes) 12 body)))

pub words_in : (bytes : List ℕ) → AllByRecursion IsByte bytes → HasWords (image_in bytes)
words_in bytes all =
    let h = header_of bytes in
    record {
      code = a_table IsWord word_of 4 (λ read fits. a_word read 0 fits) h.code (piece 28 (bodies_at h) bytes) (a_piece 28 (bodies_at h) bytes all);
      bodies = a_table HasFourWords body_of_bytes 20 four_words h.bodies (piece (bodies_at h) (starts_at h) bytes) (a_piece (bodies_at h) (starts_at h) bytes all);
    }
