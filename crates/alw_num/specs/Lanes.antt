-- The bytes of a line are the big-endian digits of its four words, and a lane is the number that some of them spell.
use Rattle.std.specs.Prelude.{◌≡◌, ℕ, ◌+◌, ◌*◌, ◌/◌, ◌%◌, List, ◌++◌, slice_index, slice_set}
use Rattle.std.specs.Int.{w32, to_be_bytes}
use Rattle.alw_num.specs.declared.addresses.Line.{Line}
use Rattle.alw_num.specs.declared.addresses.Width.{Width}
use Rattle.alw_num.specs.declared.addresses.Width.TheVariants.{Byte, Half, Word}

-- the 16 bytes of a line, lowest address first
abbrev pub bytes_of : Line → List ℕ
bytes_of l = to_be_bytes w32 l.a ++ (to_be_bytes w32 l.b ++ (to_be_bytes w32 l.c ++ to_be_bytes w32 l.d))

-- the number that two bytes spell, the one at the lower address first
abbrev pub half_at : List ℕ → ℕ → ℕ
half_at bytes i = 256 * slice_index bytes i + slice_index bytes (i + 1)

-- the number that four bytes spell
abbrev pub word_at : List ℕ → ℕ → ℕ
word_at bytes i = 65536 * half_at bytes i + half_at bytes (i + 2)

-- the line of 16 bytes
abbrev pub line_from : List ℕ → Line
line_from bytes = record { a = word_at bytes 0; b = word_at bytes 4; c = word_at bytes 8; d = word_at bytes 12 }

-- how many bytes an access takes
abbrev pub bytes_in : Width → ℕ
bytes_in Byte = 1
bytes_in Half = 2
bytes_in Word = 4

-- the place is a multiple of the access's size
abbrev pub IsAligned : Width → ℕ → Type 0
IsAligned width offset = offset % bytes_in width ≡ 0

-- the number in the lane at a place
abbrev pub lane_in : List ℕ → ℕ → Width → ℕ
lane_in bytes offset Byte = slice_index bytes offset
lane_in bytes offset Half = half_at bytes offset
lane_in bytes offset Word = word_at bytes offset

abbrev pub lane_of : Line → ℕ → Width → ℕ
lane_of l offset width = lane_in (bytes_of l) offset width

-- the bytes with the low two bytes of a number written at a place
abbrev pub put_half : List ℕ → ℕ → ℕ → List ℕ
put_half bytes offset value = slice_set (slice_set bytes offset (value / 256 % 256)) (offset + 1) (value % 256)

-- the bytes with the low bytes of a number written at a place, as many as the width takes
abbrev pub put_lane : List ℕ → ℕ → Width → ℕ → List ℕ
put_lane bytes offset Byte value = slice_set bytes offset (value % 256)
put_lane bytes offset Half value = put_half bytes offset value
put_lane bytes offset Word value = put_half (put_half bytes offset (value / 65536)) (offset + 2) value

abbrev pub with_lane_of : Line → ℕ → Width → ℕ → Line
with_lane_of l offset width value = line_from (put_lane (bytes_of l) offset width value)
