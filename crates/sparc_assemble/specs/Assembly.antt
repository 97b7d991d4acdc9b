-- The third pass, where all names are known, and the image of a source with the line of each of its code words.
use Rattle.std.specs.Prelude.{◌≡◌, ℕ, zero, suc, ◌+◌, ◌-◌, ◌*◌, ◌%◌, ◌^◌, ◌==◌, ◌&&◌, Bool, false, not, if◌then◌else◌, nat_lt, nat_le, List, [], ◌∷◌, ◌++◌, length, map, slice_index, Option, Some, None, is_none, Result, Ok, Err, ⊤}
use Rattle.std.specs.Option.{option_map_or}
use Rattle.std.specs.List.{list_any, flat_map}
use Rattle.std.specs.Int.{w8, w16, w32, to_be_bytes, from_be_bytes}
use Rattle.alw_num.specs.declared.addresses.Line.{Line as Body}
use Rattle.alw_num.specs.declared.addresses.LineNo.{LineNo}
use Rattle.alw_num.specs.declared.addresses.NodeNo.{NodeNo}
use Rattle.alw_num.specs.declared.addresses.Width.{Width}
use Rattle.alw_num.specs.declared.addresses.Width.TheVariants.{Byte, Half, Word}
use Rattle.alw_image.specs.declared.parts.Parts.{Parts}
use Rattle.sparc_asm.specs.declared.names.Value.{Value}
use Rattle.sparc_asm.specs.declared.values.Sum.{Sum}
use Rattle.sparc_asm.specs.declared.encoding.Coded.{Coded}
use Rattle.sparc_asm.specs.declared.faults.Fault.{Fault}
use Rattle.sparc_asm.specs.declared.faults.Fault.TheVariants.{UnknownName, Range, Unaligned}
use Rattle.sparc_asm.specs.declared.faults.AsmErr.{AsmErr}
use Rattle.sparc_asm.specs.declared.faults.AsmErr.TheVariants as error
use Rattle.sparc_asm.specs.declared.statements.Signed.{Signed}
use Rattle.sparc_asm.specs.declared.statements.Statement.{Statement}
use Rattle.sparc_asm.specs.declared.statements.Statement.TheVariants.{Data, Start}
use Rattle.sparc_asm.specs.declared.statements.Line.{Line}
use Rattle.sparc_asm.specs.Values.{value_of, above, below, is_between, modulo}
use Rattle.sparc_asm.specs.Encoding.{coded}
use Rattle.sparc_asm.specs.Sources.{read_source}
use Rattle.sparc_asm.specs.Words.{coded_words}
use Rattle.sparc_place.specs.declared.cursors.Position.{Position}
use Rattle.sparc_assemble.specs.declared.assembling.Assembled.{Assembled}
use Rattle.sparc_place.specs.Sizes.{size_of}
use Rattle.sparc_place.specs.Places.{Layout, nothing_laid, node_count, line_count, fault_at, places, places_of}

-- ---- faults of the third pass, in the order of their numbers

-- the names, with those of every line
abbrev pub Names : Type 0
Names = List ℕ → Option Value

-- a value of data within its width, with or without a sign
abbrev pub is_datum : Width → Sum → Bool
is_datum Byte s = is_between 128 255 s
is_datum Half s = is_between 32768 65535 s
is_datum Word s = is_between 0x80000000 0xffffffff s

-- a value of data that is known is outside its width
abbrev pub is_outside : Width → Option Sum → Bool
is_outside width value = option_map_or (λ s. not (is_datum width s)) value false

-- values of data: all names known, then all within their width
abbrev pub data_fault : Names → ℕ → Width → List (List Signed) → Option Fault
data_fault names here width values =
    if list_any (λ e. is_none (value_of names here e)) values then Some UnknownName else (
    if list_any (λ e. is_outside width (value_of names here e)) values then Some Range else None)

-- the address of a start: of one of `count` code words, and a multiple of 4
abbrev pub start_fault : ℕ → Option Sum → Option Fault
start_fault count None = Some UnknownName
start_fault count (Some s) =
    if not ((below s == 0) && nat_lt (above s) (4 * count)) then Some Range else (
    if not (above s % 4 == 0) then Some Unaligned else None)

abbrev pub coded_fault : Result Coded Fault → Option Fault
coded_fault (Ok found) = None
coded_fault (Err fault) = Some fault

-- the fault of a statement at a place, where a source has so many code words
abbrev pub value_fault : Names → ℕ → Position → Statement → Option Fault
value_fault names count p (Data width values) = data_fault names p.here width values
value_fault names count p (Start node slot address) = start_fault count (value_of names p.here address)
value_fault names count p s = coded_fault (coded names p.here s)

abbrev pub value_fault_in : Names → ℕ → Position → Option Statement → Option Fault
value_fault_in names count p None = None
value_fault_in names count p (Some s) = value_fault names count p s

abbrev pub first_of : ℕ → Option Fault → Option AsmErr → Option AsmErr
first_of number None rest = rest
first_of number (Some fault) rest = Some (fault_at fault number)

-- the first fault of lines at their places
abbrev pub values_fault : Names → ℕ → ℕ → List Position → List Line → Option AsmErr
values_fault names count number (p ∷ ps) (line ∷ lines) = first_of number (value_fault_in names count p line.statement) (values_fault names count (number + 1) ps lines)
values_fault names count number _ _ = None

-- ---- what lines fill in

-- code words with the source line of each, the bytes of shared data, and where contexts start, by node and slot
pub record Filled : Type 0 where
  pub words : List (ℕ × ℕ)
  pub memory : ℕ → ℕ
  pub starts : ℕ → ℕ → Option ℕ

-- no line has filled in anything: bytes that no line writes are 0
abbrev pub nothing_filled : Filled
nothing_filled = record { words = []; memory = λ place. 0; starts = λ node slot. None }

-- the value of an expression modulo a power of two
abbrev pub datum : Names → ℕ → ℕ → List Signed → ℕ
datum names here modulus e = option_map_or (modulo modulus) (value_of names here e) 0

-- how many values a width has
abbrev pub modulus_of : Width → ℕ
modulus_of Byte = 2 ^ 8
modulus_of Half = 2 ^ 16
modulus_of Word = 2 ^ 32

-- the bytes of a value, the highest first
abbrev pub spelled_as : Width → ℕ → List ℕ
spelled_as Byte value = to_be_bytes w8 value
spelled_as Half value = to_be_bytes w16 value
spelled_as Word value = to_be_bytes w32 value

-- code words, each with the number of its line
abbrev pub with_code : ℕ → List ℕ → Filled → Filled
with_code number words f = record f { words = f.words ++ map (λ word. (word, number)) words }

-- memory with bytes from a place on
abbrev pub written_over : ℕ → List ℕ → (ℕ → ℕ) → ℕ → ℕ
written_over from bytes memory place = if nat_le from place && nat_lt place (from + length bytes) then slice_index bytes (place - from) else memory place

-- bytes from a place of shared data on
abbrev pub with_bytes : ℕ → List ℕ → Filled → Filled
with_bytes from bytes f = record f { memory = written_over from bytes f.memory }

-- values of data, in shared data or in code
abbrev pub with_values : ℕ → Position → Width → List ℕ → Filled → Filled
with_values number p width values f =
    if p.in_data then with_bytes (p.here - 0x40000000) (flat_map (spelled_as width) values) f
    else with_code number values f

-- starts and that of a context
abbrev pub put_start : ℕ → ℕ → ℕ → (ℕ → ℕ → Option ℕ) → ℕ → ℕ → Option ℕ
put_start node slot address starts n s = if (n == node) && (s == slot) then Some address else starts n s

-- the context of a place starts at an address
abbrev pub with_address : Position → ℕ → Filled → Filled
with_address p address f = record f { starts = put_start p.node p.slot address f.starts }

-- what a statement without a fault fills in
abbrev pub filled : Names → ℕ → Position → Statement → Filled → Filled
filled names number p (Data width values) f = with_values number p width (map (datum names p.here (modulus_of width)) values) f
filled names number p (Start node slot address) f = with_address p (datum names p.here (2 ^ 32) address) f
filled names number p s f = with_code number (coded_words (coded names p.here s)) f

abbrev pub filled_in : Names → ℕ → Position → Option Statement → Filled → Filled
filled_in names number p None f = f
filled_in names number p (Some s) f = filled names number p s f

-- what lines at their places fill in, the first of which has a number
abbrev pub all_filled : Names → ℕ → List Position → List Line → Filled → Filled
all_filled names number (p ∷ ps) (line ∷ lines) f = all_filled names (number + 1) ps lines (filled_in names number p line.statement f)
all_filled names number _ _ f = f

-- ---- the image

-- what the numbers below another have, in order
abbrev pub gathered : {A : Type 0} → (ℕ → List A) → ℕ → List A
gathered found zero = []
gathered found (suc n) = gathered found n ++ found n

-- the word whose first byte stands at a place
abbrev pub word_in : (ℕ → ℕ) → ℕ → ℕ
word_in memory place = from_be_bytes w32 (memory place ∷ memory (place + 1) ∷ memory (place + 2) ∷ memory (place + 3) ∷ [])

-- the bytes of a line of shared data
abbrev pub body_at : (ℕ → ℕ) → ℕ → Body
body_at memory n = record { a = word_in memory (16 * n); b = word_in memory (16 * n + 4); c = word_in memory (16 * n + 8); d = word_in memory (16 * n + 12) }

-- all of a line's bytes are 0
abbrev pub is_zero : Body → Bool
is_zero body = (body.a == 0) && ((body.b == 0) && ((body.c == 0) && (body.d == 0)))

-- a line whose bytes aren't all 0
abbrev pub data_line : (ℕ → ℕ) → ℕ → List (LineNo × Body)
data_line memory n = let body = body_at memory n in if is_zero body then [] else (record { 0 = n }, body) ∷ []

-- a start, where a line starts the context
abbrev pub start_at : (ℕ → ℕ → Option ℕ) → ℕ → ℕ → List (NodeNo × ℕ × ℕ)
start_at starts node slot = option_map_or (λ address. (record { 0 = node }, slot, address) ∷ []) (starts node slot) []

-- the same for each context of so many nodes with so many slots, by node and slot
abbrev pub starts_of : (ℕ → ℕ → Option ℕ) → ℕ → ℕ → List (NodeNo × ℕ × ℕ)
starts_of starts nodes slots = gathered (λ node. gathered (start_at starts node) slots) nodes

-- where no line starts a context, each starts at 0
abbrev pub some_starts : List (NodeNo × ℕ × ℕ) → ℕ → ℕ → List (NodeNo × ℕ × ℕ)
some_starts [] nodes slots = starts_of (λ node slot. Some 0) nodes slots
some_starts (first ∷ rest) nodes slots = first ∷ rest

-- a line that is Trap-Always
abbrev pub always_at : (ℕ → Bool) → ℕ → List ℕ
always_at always n = if always n then n ∷ [] else []

-- the parts of a source's image: `l` is what all its lines have laid down, `f` what they fill in
abbrev pub parts_of : Layout → Filled → Parts
parts_of l f = record {
  width = size_of l.width;
  height = size_of l.height;
  contexts = size_of l.contexts;
  per_node = size_of l.per_node;
  code = map (λ w. w.0) f.words;
  bodies = gathered (data_line f.memory) (line_count l);
  starts = some_starts (starts_of f.starts (node_count l) (size_of l.contexts)) (node_count l) (size_of l.contexts);
  always = gathered (always_at l.always) (line_count l);
}

-- a source without a code word is Range at line 0
abbrev pub whole_of : Layout → Filled → Result Assembled AsmErr
whole_of l f = if l.code == 0 then Err (error.Range 0) else Ok (record { image = parts_of l f; lines = map (λ w. w.1) f.words })

abbrev pub after_values : Option AsmErr → Result Assembled AsmErr → Result Assembled AsmErr
after_values None found = found
after_values (Some e) found = Err e

-- what follows the second pass, with the places that it gives the lines
abbrev pub after_places : List Position → List Line → Result Layout AsmErr → Result Assembled AsmErr
after_places ps lines (Err e) = Err e
after_places ps lines (Ok l) = after_values (values_fault l.names l.code 1 ps lines) (whole_of l (all_filled l.names 1 ps lines nothing_filled))

abbrev pub after_lines : Result (List Line) AsmErr → Result Assembled AsmErr
after_lines (Err e) = Err e
after_lines (Ok lines) = after_places (places_of nothing_laid lines) lines (places 1 nothing_laid lines)

-- what a source is assembled to: its image and the line of each code word, or the fault that decides
unfoldable pub assembled : List ℕ → Result Assembled AsmErr
assembled source = after_lines (read_source source)

-- an answer is the wanted one, or memory was refused
abbrev pub Answers : Result Assembled AsmErr → Result Assembled AsmErr → Type 0
Answers wanted (Err error.NoMemory) = ⊤
Answers wanted answer = wanted ≡ answer
