-- What is wrong with bytes that spell no image: the checks in their order, of which the first that fails decides.
use Rattle.std.specs.Prelude.{ℕ, zero, suc, ◌+◌, ◌-◌, ◌*◌, ◌%◌, ◌==◌, ◌&&◌, Bool, true, not, nat_le, nat_lt, if◌then◌else◌, eqb, Option, None, Some, List, [], ◌∷◌, length, take, drop, slice_index, codes}
use Rattle.std.specs.List.{starts_with}
use Rattle.alw_num.specs.declared.addresses.Line.{Line}
use Rattle.alw_num.specs.declared.addresses.LineNo.{LineNo}
use Rattle.alw_num.specs.declared.addresses.NodeNo.{NodeNo}
use Rattle.alw_num.specs.Lanes.{half_at, word_at, line_from}
use Rattle.alw_image.specs.declared.parts.Parts.{Parts}
use Rattle.alw_image.specs.declared.headers.Header.{Header}
use Rattle.alw_image.specs.declared.faults.ImageErr.{ImageErr}
use Rattle.alw_image.specs.declared.faults.ImageErr.TheVariants.{Magic, Version, Short, Trailing, Range, Order}
use Rattle.alw_image.specs.Images.{node_count, line_count, context_started}

-- ---- the header

-- the numbers in the first 28 bytes, behind `ALEW`
abbrev pub header_of : List ℕ → Header
header_of bytes = record {
  version = half_at bytes 4;
  width = slice_index bytes 6;
  height = slice_index bytes 7;
  contexts = slice_index bytes 8;
  blank = slice_index bytes 9;
  per_node = half_at bytes 10;
  code = word_at bytes 12;
  bodies = word_at bytes 16;
  starts = word_at bytes 20;
  always = word_at bytes 24;
}

abbrev pub is_within : ℕ → ℕ → ℕ → Bool
is_within least most n = nat_le least n && nat_le n most

-- the greatest width and height of a version
abbrev pub most_side : ℕ → ℕ
most_side version = if version == 1 then 8 else 16

-- the least height: an image of at most 8 columns and rows is of version 1
abbrev pub least_height : Header → ℕ
least_height h = if h.version == 1 then 1 else (if nat_le h.width 8 then 9 else 1)

-- the fields in their order, each by its place, and whether it is within its range
unfoldable pub fields : Header → List (ℕ × Bool)
fields h =
    let nodes = h.width * h.height in
    (6, is_within 1 (most_side h.version) h.width)
    ∷ (7, is_within (least_height h) (most_side h.version) h.height)
    ∷ (8, is_within 1 4 h.contexts)
    ∷ (9, is_within 0 0 h.blank)
    ∷ (10, is_within 1 4096 h.per_node)
    ∷ (12, is_within 1 65536 h.code)
    ∷ (16, is_within 0 (nodes * h.per_node) h.bodies)
    ∷ (20, is_within 1 (nodes * h.contexts) h.starts)
    ∷ (24, is_within 0 (nodes * h.per_node) h.always)
    ∷ []

-- the place of the first that isn't
abbrev pub first_unfit : List (ℕ × Bool) → Option ℕ
first_unfit [] = None
first_unfit (field ∷ rest) = if field.1 then first_unfit rest else Some field.0

-- the first field that is outside its range, by its place
abbrev pub range_fault : Header → Option ℕ
range_fault h = first_unfit (fields h)

-- where the data lines, the starts and the Trap-Always lines begin, and where an image ends
abbrev pub bodies_at : Header → ℕ
bodies_at h = 28 + 4 * h.code

abbrev pub starts_at : Header → ℕ
starts_at h = bodies_at h + 20 * h.bodies

abbrev pub always_at : Header → ℕ
always_at h = starts_at h + 8 * h.starts

abbrev pub image_end : Header → ℕ
image_end h = always_at h + 4 * h.always

-- the first bytes are those of `ALEW`, as far as they go
abbrev pub is_magic : List ℕ → Bool
is_magic bytes = starts_with eqb (codes "ALEW") (take 4 bytes)

abbrev pub ranged : Option ℕ → Option ImageErr → Option ImageErr
ranged None rest = rest
ranged (Some at) rest = Some (Range at)

-- a header of so many bytes, `rest` is what is wrong behind it
abbrev pub header_fault : ℕ → Header → Option ImageErr → Option ImageErr
header_fault n h rest = ranged (range_fault h) (
    if nat_lt n (image_end h) then Some (Short n) else (
    if nat_lt (image_end h) n then Some (Trailing (image_end h)) else rest))

-- ---- what stands behind the header

-- `count` members of a table, each read off so many bytes
abbrev pub table_of : {X : Type 0} → (List ℕ → X) → ℕ → ℕ → List ℕ → List X
table_of read size zero bytes = []
table_of read size (suc count) bytes = read (take size bytes) ∷ table_of read size count (drop size bytes)

-- a word of the program, or the number of a line
abbrev pub word_of : List ℕ → ℕ
word_of bytes = word_at bytes 0

-- a data line: its number and its 16 bytes
abbrev pub body_of_bytes : List ℕ → LineNo × Line
body_of_bytes bytes = (record { 0 = word_at bytes 0 }, line_from (drop 4 bytes))

-- the slot of a start, behind which a 0 stands: with another byte there it is a slot that no node has
abbrev pub slot_of : ℕ → ℕ → ℕ
slot_of slot blank = if blank == 0 then slot else 255

-- a start: node, slot and address
abbrev pub start_of_bytes : List ℕ → NodeNo × ℕ × ℕ
start_of_bytes bytes = (record { 0 = half_at bytes 0 }, slot_of (slice_index bytes 2) (slice_index bytes 3), word_at bytes 4)

-- the bytes from one place up to another
abbrev pub piece : ℕ → ℕ → List ℕ → List ℕ
piece from to bytes = take (to - from) (drop from bytes)

-- the parts that bytes spell, in range and in order or not
abbrev pub parts_in : Header → List ℕ → Parts
parts_in h bytes = record {
  width = h.width;
  height = h.height;
  contexts = h.contexts;
  per_node = h.per_node;
  code = table_of word_of 4 h.code (piece 28 (bodies_at h) bytes);
  bodies = table_of body_of_bytes 20 h.bodies (piece (bodies_at h) (starts_at h) bytes);
  starts = table_of start_of_bytes 8 h.starts (piece (starts_at h) (always_at h) bytes);
  always = table_of word_of 4 h.always (piece (always_at h) (image_end h) bytes);
}

-- the same, whatever stands in the header
abbrev pub image_in : List ℕ → Parts
image_in bytes = parts_in (header_of bytes) bytes

-- ---- members out of range or out of order

-- a key is above the one before it, if there is one
abbrev pub is_above : Option ℕ → ℕ → Bool
is_above None key = true
is_above (Some before) key = nat_lt before key

-- the first member of a table that doesn't fit, or whose key isn't above the one before: the table stands at a place, and a member takes so many bytes
abbrev pub table_fault : {X : Type 0} → (X → Bool) → (X → ℕ) → ℕ → ℕ → Option ℕ → List X → Option ImageErr
table_fault fits key size at before [] = None
table_fault fits key size at before (x ∷ rest) =
    if not (fits x) then Some (Range at) else (
    if not (is_above before (key x)) then Some (Order at) else
    table_fault fits key size (at + size) (Some (key x)) rest)

abbrev pub is_zero : Line → Bool
is_zero body = body.a == 0 && (body.b == 0 && (body.c == 0 && (body.d == 0)))

-- a data line exists, and its bytes aren't all 0
abbrev pub fits_body : ℕ → LineNo × Line → Bool
fits_body lines entry = nat_lt entry.0.0 lines && not (is_zero entry.1)

-- a start is of a context that exists, at a code word
abbrev pub fits_start : ℕ → ℕ → ℕ → NodeNo × ℕ × ℕ → Bool
fits_start nodes contexts words start =
    nat_lt start.0.0 nodes && (nat_lt start.1 contexts && ((start.2 % 4 == 0) && nat_lt start.2 (4 * words)))

abbrev pub fits_line : ℕ → ℕ → Bool
fits_line lines line = nat_lt line lines

abbrev pub body_key : LineNo × Line → ℕ
body_key entry = entry.0.0

abbrev pub line_key : ℕ → ℕ
line_key line = line

-- the first fault, or else the second
abbrev pub first_fault : Option ImageErr → Option ImageErr → Option ImageErr
first_fault None rest = rest
first_fault (Some fault) rest = Some fault

-- the first member of the three tables, which stand at these places, that is out of range or out of order
abbrev pub tables_fault : Parts → ℕ → ℕ → ℕ → Option ImageErr
tables_fault p at_bodies at_starts at_always =
    first_fault (table_fault (fits_body (line_count p)) body_key 20 at_bodies None p.bodies) (
    first_fault (table_fault (fits_start (node_count p) p.contexts (length p.code)) (context_started p) 8 at_starts None p.starts) (
    table_fault (fits_line (line_count p)) line_key 4 at_always None p.always))

-- what is wrong with bytes of which 28 stand there
abbrev pub body_fault : List ℕ → Option ImageErr
body_fault bytes =
    let h = header_of bytes in
    header_fault (length bytes) h (tables_fault (parts_in h bytes) (bodies_at h) (starts_at h) (always_at h))

-- what is wrong with bytes: nothing exactly where they spell an image
unfoldable pub image_fault : List ℕ → Option ImageErr
image_fault bytes =
    let n = length bytes in
    if not (is_magic bytes) then Some (Magic 0) else (
    if nat_lt n 6 then Some (Short n) else (
    if not (is_within 1 2 (half_at bytes 4)) then Some (Version 4) else (
    if nat_lt n 28 then Some (Short n) else
    body_fault bytes)))
