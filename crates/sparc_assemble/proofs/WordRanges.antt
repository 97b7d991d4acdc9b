-- An assembled source's words are of 32 bits.
use Rattle.std.proofs.Common.{◌≡◌, ℕ, zero, suc, ◌+◌, ◌-◌, ◌*◌, ◌<◌, ◌&&◌, Bool, true, false, if◌then◌else◌, nat_lt, nat_le, Option, Some, None, Result, Ok, Err, List, [], ◌∷◌, length, map, slice_index, arith}
use Rattle.std.specs.List.{flat_map, AllByRecursion}
use Rattle.std.specs.Option.{option_map_or}
use Rattle.alw_num.specs.declared.addresses.Width.{Width}
use Rattle.alw_num.specs.declared.addresses.Width.TheVariants.{Byte, Half, Word}
use Rattle.alw_image.specs.Numbers.{IsWord, HasFourWords, HasWords}
use Rattle.sparc_asm.specs.declared.encoding.Coded.{Coded}
use Rattle.sparc_asm.specs.declared.encoding.Coded.TheVariants.{Nothing, One, Two}
use Rattle.sparc_asm.specs.declared.faults.Fault.{Fault}
use Rattle.sparc_asm.specs.declared.statements.Line.{Line}
use Rattle.sparc_asm.specs.declared.statements.Signed.{Signed}
use Rattle.sparc_asm.specs.declared.statements.Statement.{Statement}
use Rattle.sparc_asm.specs.declared.statements.Statement.TheVariants as statement
use Rattle.sparc_asm.specs.declared.values.Sum.{Sum}
use Rattle.sparc_asm.specs.Encoding.{coded}
use Rattle.sparc_asm.specs.Ranges.{StatementFits, FitsIn, EachFits}
use Rattle.sparc_asm.specs.Values.{value_of, modulo}
use Rattle.sparc_asm.specs.Words.{coded_words}
use Rattle.sparc_asm.proofs.CodedRanges.{Holds, CodedFits, coded_fits}
use Rattle.sparc_asm.proofs.InstrWords.{spelled}
use Rattle.sparc_place.specs.declared.cursors.Position.{Position}
use Rattle.sparc_place.specs.Places.{Layout, line_count}
use Rattle.sparc_assemble.specs.declared.assembling.Assembled.{Assembled}
use Rattle.sparc_assemble.specs.Assembly.{Names, Filled, nothing_filled, datum, modulus_of, spelled_as, with_code, with_bytes, with_values, filled, filled_in, all_filled, gathered, word_in, body_at, is_zero, data_line, parts_of, assembled}
use Rattle.sparc_assemble.proofs.Passes.{holds_of_all}
use Rattle.alw_num.proofs.Alls.{all_append}

-- what lines fill in: words of 32 bits, and bytes
record IsFilled (f : Filled) : Type 0 where
  words : AllByRecursion (λ (w : ℕ × ℕ). IsWord w.0) f.words
  bytes : (place : ℕ) → f.memory place < 256

all-map : {X Y : Type 0} (P : X → Type 0) (Q : Y → Type 0) (f : X → Y) (xs : List X) → ((x : X) → P x → Q (f x)) → AllByRecursion P xs →
    AllByRecursion Q (map f xs)
all-map P Q f [] each all = tt
all-map P Q f (x ∷ xs) each (h, all) = (each x h, all-map P Q f xs each all)

all-of : {X Y : Type 0} (Q : Y → Type 0) (f : X → Y) (xs : List X) → ((x : X) → Q (f x)) → AllByRecursion Q (map f xs)
all-of Q f [] each = tt
all-of Q f (x ∷ xs) each = (each x, all-of Q f xs each)

-- ---- code words

coded-words : (found : Result Coded Fault) → Holds CodedFits found → AllByRecursion IsWord (coded_words found)
coded-words (Err fault) fits = tt
coded-words (Ok Nothing) fits = tt
coded-words (Ok (One first)) fits = ((spelled first fits).1, tt)
coded-words (Ok (Two first second)) fits = ((spelled first fits.0).1, ((spelled second fits.1).1, tt))

filled-code : (number : ℕ) (words : List ℕ) (f : Filled) → AllByRecursion IsWord words → IsFilled f → IsFilled (with_code number words f)
filled-code number words f all is = record {
  words = all_append (λ (w : ℕ × ℕ). IsWord w.0) f.words (map (λ word. (word, number)) words) is.words
      (all-map IsWord (λ (w : ℕ × ℕ). IsWord w.0) (λ word. (word, number)) words (λ word h. h) all);
  bytes = is.bytes;
}

-- ---- data

datum-word : (names : Names) (here : ℕ) (width : Width) (e : List Signed) → IsWord (datum names here (modulus_of width) e)
datum-word names here width e = by_value width (value_of names here e)
  where
    by_value : (width : Width) (value : Option Sum) → IsWord (option_map_or (modulo (modulus_of width)) value 0)
    by_value width None = omega arith
    by_value Byte (Some value) = omega arith
    by_value Half (Some value) = omega arith
    by_value Word (Some value) = omega arith

spelled-bytes : (width : Width) (value : ℕ) → AllByRecursion (λ byte. byte < 256) (spelled_as width value)
spelled-bytes Byte value = (omega arith, tt)
spelled-bytes Half value = (omega arith, (omega arith, tt))
spelled-bytes Word value = (omega arith, (omega arith, (omega arith, (omega arith, tt))))

all-bytes : (width : Width) (values : List ℕ) → AllByRecursion (λ byte. byte < 256) (flat_map (spelled_as width) values)
all-bytes width [] = tt
all-bytes width (value ∷ rest) =
    all_append (λ byte. byte < 256) (spelled_as width value) (flat_map (spelled_as width) rest) (spelled-bytes width value) (all-bytes width rest)

byte-at : (bytes : List ℕ) (i : ℕ) → AllByRecursion (λ byte. byte < 256) bytes → slice_index bytes i < 256
byte-at [] i all = omega arith
byte-at (byte ∷ rest) zero all = all.0
byte-at (byte ∷ rest) (suc i) all = byte-at rest i all.1

filled-bytes : (from : ℕ) (bytes : List ℕ) (f : Filled) → AllByRecursion (λ byte. byte < 256) bytes → IsFilled f → IsFilled (with_bytes from bytes f)
filled-bytes from bytes f all is = record { words = is.words; bytes = λ place. by_test place (nat_le from place && nat_lt place (from + length bytes)) }
  where
    by_test : (place : ℕ) (test : Bool) → (if test then slice_index bytes (place - from) else f.memory place) < 256
    by_test place true = byte-at bytes (place - from) all
    by_test place false = is.bytes place

filled-values : (number : ℕ) (p : Position) (width : Width) (values : List ℕ) (f : Filled) → AllByRecursion IsWord values → IsFilled f →
    IsFilled (with_values number p width values f)
filled-values number p width values f all is = by_test p.in_data
  where
    by_test : (test : Bool) → IsFilled (if test then with_bytes (p.here - 0x40000000) (flat_map (spelled_as width) values) f else with_code number values f)
    by_test true = filled-bytes (p.here - 0x40000000) (flat_map (spelled_as width) values) f (all-bytes width values) is
    by_test false = filled-code number values f all is

-- ---- lines

filled-statement : (names : Names) (number : ℕ) (p : Position) (s : Statement) (f : Filled) → StatementFits s → IsFilled f → IsFilled (filled names number p s f)
filled-statement names number p (statement.Data width values) f fits is =
    filled-values number p width (map (datum names p.here (modulus_of width)) values) f
    (all-of IsWord (datum names p.here (modulus_of width)) values (datum-word names p.here width)) is
filled-statement names number p (statement.Start node slot address) f fits is = record { words = is.words; bytes = is.bytes }
filled-statement names number p s f fits is =
    filled-code number (coded_words (coded names p.here s)) f (coded-words (coded names p.here s) (coded_fits names p.here s fits)) is

filled-line : (names : Names) (number : ℕ) (p : Position) (s : Option Statement) (f : Filled) → FitsIn s → IsFilled f → IsFilled (filled_in names number p s f)
filled-line names number p None f fits is = is
filled-line names number p (Some s) f fits is = filled-statement names number p s f fits is

filled-lines : (names : Names) (number : ℕ) (ps : List Position) (lines : List Line) (f : Filled) → EachFits lines → IsFilled f →
    IsFilled (all_filled names number ps lines f)
filled-lines names number [] lines f all is = is
filled-lines names number (p ∷ ps) [] f all is = is
filled-lines names number (p ∷ ps) (line ∷ lines) f (fits, all) is =
    filled-lines names (number + 1) ps lines (filled_in names number p line.statement f) all (filled-line names number p line.statement f fits is)

-- ---- the image

word-at : (memory : ℕ → ℕ) (place : ℕ) → ((at : ℕ) → memory at < 256) → IsWord (word_in memory place)
word-at memory place bytes =
    let a = bytes place in
    let b = bytes (place + 1) in
    let c = bytes (place + 2) in
    let d = bytes (place + 3) in
    omega arith

four-words : (memory : ℕ → ℕ) (n : ℕ) → ((at : ℕ) → memory at < 256) → AllByRecursion HasFourWords (data_line memory n)
four-words memory n bytes = by_test (is_zero (body_at memory n))
  where
    by_test : (test : Bool) → AllByRecursion HasFourWords (if test then [] else (record { 0 = n }, body_at memory n) ∷ [])
    by_test true = tt
    by_test false =
        ((word-at memory (16 * n) bytes, (word-at memory (16 * n + 4) bytes, (word-at memory (16 * n + 8) bytes, word-at memory (16 * n + 12) bytes))), tt)

all-lines : (memory : ℕ → ℕ) (count : ℕ) → ((at : ℕ) → memory at < 256) → AllByRecursion HasFourWords (gathered (data_line memory) count)
all-lines memory zero bytes = tt
all-lines memory (suc n) bytes =
    all_append HasFourWords (gathered (data_line memory) n) (data_line memory n) (all-lines memory n bytes) (four-words memory n bytes)

have-words : (l : Layout) (f : Filled) → IsFilled f → HasWords (parts_of l f)
have-words l f is = record {
  code = all-map (λ (w : ℕ × ℕ). IsWord w.0) IsWord (λ (w : ℕ × ℕ). w.0) f.words (λ w h. h) is.words;
  bodies = all-lines f.memory (line_count l) is.bytes;
}

-- the image that a source is assembled to
pub assembled_words : (source : List ℕ) (a : Assembled) → assembled source ≡ Ok a → HasWords a.image
assembled_words source a is = holds_of_all (λ (b : Assembled). HasWords b.image) source a made is
  where
    at_first : IsFilled nothing_filled
    at_first = record { words = tt; bytes = λ place. omega arith }

    made : (l : Layout) (ps : List Position) (lines : List Line) → EachFits lines → HasWords (parts_of l (all_filled l.names 1 ps lines nothing_filled))
    made l ps lines fits = have-words l (all_filled l.names 1 ps lines nothing_filled) (filled-lines l.names 1 ps lines nothing_filled fits at_first)
