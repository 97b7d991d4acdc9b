-- A lane of one, two or four bytes holds a number of 8, 16 or 32 bits.
use Rattle.std.proofs.Common.{ℕ, zero, suc, ◌<◌, ◌+◌, ◌^◌, List, [], ◌∷◌, slice_index, arith}
use Rattle.alw_num.specs.declared.addresses.Line.{Line}
use Rattle.alw_num.specs.declared.addresses.Width.TheVariants.{Byte, Half, Word}
use Rattle.alw_num.specs.Lanes.{bytes_of, lane_of}

abbrev AreBytes : List ℕ → Type 0
AreBytes [] = Unit {0}
AreBytes (x ∷ xs) = (x < 256) × AreBytes xs

byte_below : (xs : List ℕ) (i : ℕ) → AreBytes xs → slice_index xs i < 256
byte_below [] i h = omega arith
byte_below (x ∷ xs) zero h = h.0
byte_below (x ∷ xs) (suc i) h = byte_below xs i h.1

pub bytes_of_are : (line : Line) → AreBytes (bytes_of line)
bytes_of_are line = (omega arith, (omega arith, (omega arith, (omega arith, (omega arith, (omega arith, (omega arith, (omega arith, (omega arith, (omega arith, (omega arith, (omega arith, (omega arith, (omega arith, (omega arith, (omega arith, tt))))))))))))))))

pub byte_lane : (line : Line) (offset : ℕ) → lane_of line offset Byte < 256
byte_lane line offset = byte_below (bytes_of line) offset (bytes_of_are line)

pub half_lane : (line : Line) (offset : ℕ) → lane_of line offset Half < 65536
half_lane line offset =
    let a = byte_below (bytes_of line) offset (bytes_of_are line) in
    let b = byte_below (bytes_of line) (offset + 1) (bytes_of_are line) in
    omega arith

pub word_lane : (line : Line) (offset : ℕ) → lane_of line offset Word < 2 ^ 32
word_lane line offset = omega (arith, half_lane line offset, half_lane line (offset + 2))
