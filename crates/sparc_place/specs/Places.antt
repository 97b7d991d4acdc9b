-- The second pass: where each line stands, what its labels and names stand for, and what is wrong with it there.
use Rattle.std.specs.Prelude.{ℕ, ◌+◌, ◌-◌, ◌*◌, ◌/◌, ◌%◌, ◌==◌, ◌&&◌, ◌||◌, Bool, true, false, not, if◌then◌else◌, nat_lt, nat_le, List, [], ◌∷◌, length, Option, Some, None, is_some, is_none, unwrap_or, Result, Ok, Err}
use Rattle.std.specs.List.{list_any}
use Rattle.std.specs.Str.{bytes_eq}
use Rattle.alw_num.specs.declared.addresses.Width.{Width}
use Rattle.alw_num.specs.declared.addresses.Width.TheVariants.{Word}
use Rattle.alw_num.specs.Lanes.{bytes_in}
use Rattle.sparc_asm.specs.declared.names.Value.{Value}
use Rattle.sparc_asm.specs.declared.values.Sum.{Sum}
use Rattle.sparc_asm.specs.declared.faults.Fault.{Fault}
use Rattle.sparc_asm.specs.declared.faults.Fault.TheVariants.{UnknownName, Redefined, Range, Unaligned, Overlap}
use Rattle.sparc_asm.specs.declared.faults.AsmErr.{AsmErr}
use Rattle.sparc_asm.specs.declared.faults.AsmErr.TheVariants as error
use Rattle.sparc_asm.specs.declared.statements.Signed.{Signed}
use Rattle.sparc_asm.specs.declared.statements.Statement.{Statement}
use Rattle.sparc_asm.specs.declared.statements.Statement.TheVariants.{Set, Mesh, Contexts, Lines, Text, Shared, Data, Skip, Align, Equ, Start, Always}
use Rattle.sparc_asm.specs.declared.statements.Line.{Line}
use Rattle.sparc_asm.specs.Values.{value_of, above, below, is_between}
use Rattle.sparc_place.specs.declared.cursors.Position.{Position}
use Rattle.sparc_place.specs.Marks.{any_below}
use Rattle.sparc_place.specs.Sizes.{size_of}

-- ---- what the lines so far have laid down

-- the sizes, what is named, where the next byte stands and what stands already
pub record Layout : Type 0 where
  pub width : Option ℕ
  pub height : Option ℕ
  pub contexts : Option ℕ
  pub per_node : Option ℕ
  -- a label stood, or a statement that is no size
  pub begun : Bool
  pub names : List ℕ → Option Value
  pub in_data : Bool
  -- code words so far
  pub code : ℕ
  -- the place in shared data, from its first byte
  pub shared : ℕ
  -- the bytes of shared data that are written
  pub written : ℕ → Bool
  -- the contexts with a start, by node and slot
  pub started : ℕ → ℕ → Bool
  -- the Trap-Always lines
  pub always : ℕ → Bool

-- nothing is laid down
abbrev pub nothing_laid : Layout
nothing_laid = record {
  width = None;
  height = None;
  contexts = None;
  per_node = None;
  begun = false;
  names = λ name. None;
  in_data = false;
  code = 0;
  shared = 0;
  written = λ place. false;
  started = λ node slot. false;
  always = λ line. false;
}

abbrev pub node_count : Layout → ℕ
node_count l = size_of l.width * size_of l.height

abbrev pub line_count : Layout → ℕ
line_count l = node_count l * size_of l.per_node

-- the end of shared data
abbrev pub data_end : Layout → ℕ
data_end l = 16 * line_count l

-- the address at which the next line stands
abbrev pub here_of : Layout → ℕ
here_of l = if l.in_data then 0x40000000 + l.shared else 4 * l.code

-- ---- expressions that use names of earlier lines

abbrev pub early : Statement → List (List Signed)
early (Mesh width height) = width ∷ height ∷ []
early (Contexts count) = count ∷ []
early (Lines count) = count ∷ []
early (Shared offset) = offset ∷ []
early (Skip count) = count ∷ []
early (Align unit) = unit ∷ []
early (Equ name value) = value ∷ []
early (Start node slot address) = node ∷ slot ∷ []
early (Always line) = line ∷ []
early _ = []

-- the value of an expression at a layout: None where one of its names is defined on no earlier line
abbrev pub value_at : Layout → List Signed → Option Sum
value_at l e = value_of l.names (here_of l) e

-- one of the names is defined on no earlier line
abbrev pub is_unknown : Layout → Statement → Bool
is_unknown l s = list_any (λ e. is_none (value_at l e)) (early s)

-- the value of an expression whose names are known
abbrev pub valued : Layout → List Signed → Sum
valued l e = unwrap_or (value_at l e) (record { plus = 0; minus = 0 })

-- a number from 1 to a greatest one
abbrev pub is_size : ℕ → Sum → Bool
is_size most s = nat_le 1 (above s) && nat_le (above s) most

-- a number below another
abbrev pub is_index : ℕ → Sum → Bool
is_index count s = (below s == 0) && nat_lt (above s) count

-- ---- what a statement lays down

abbrev pub is_word : Width → Bool
is_word Word = true
is_word _ = false

-- the code words of an instruction: `set` has two
abbrev pub word_count : Statement → ℕ
word_count (Set value rd) = 2
word_count _ = 1

-- the place moved on by a value that may be negative
abbrev pub moved_on : ℕ → Sum → Sum
moved_on place s = record { plus = place + above s; minus = below s }

-- the next multiple of a number
abbrev pub rounded_up : ℕ → ℕ → ℕ
rounded_up place unit = (place + (unit - 1)) / unit * unit

abbrev pub is_unit : Sum → Bool
is_unit s = (below s == 0) && list_any (λ unit. above s == unit) (1 ∷ 2 ∷ 4 ∷ 8 ∷ 16 ∷ [])

-- ---- faults, in the order of their numbers

-- a name, a size, a start or a Trap-Always line again, or a size too late
abbrev pub is_defined : Layout → List ℕ → Bool
is_defined l name = is_some (l.names name)

abbrev pub is_label : Option (List ℕ) → List ℕ → Bool
is_label None name = false
is_label (Some label) name = bytes_eq label name

abbrev pub label_again : Layout → Option (List ℕ) → Bool
label_again l None = false
label_again l (Some label) = is_defined l label

abbrev pub size_again : Layout → Option (List ℕ) → Option ℕ → Bool
size_again l label size = is_some label || (l.begun || is_some size)

-- a context or a line: a number below 0 is none
abbrev pub start_again : Layout → Sum → Sum → Bool
start_again l node slot = (below node == 0) && ((below slot == 0) && l.started (above node) (above slot))

abbrev pub always_again : Layout → Sum → Bool
always_again l line = (below line == 0) && l.always (above line)

abbrev pub statement_again : Layout → Option (List ℕ) → Statement → Bool
statement_again l label (Mesh width height) = size_again l label l.width
statement_again l label (Contexts count) = size_again l label l.contexts
statement_again l label (Lines count) = size_again l label l.per_node
statement_again l label (Equ name value) = is_label label name || is_defined l name
statement_again l label (Start node slot address) = start_again l (valued l node) (valued l slot)
statement_again l label (Always line) = always_again l (valued l line)
statement_again l label _ = false

-- values of data within shared data, or words of code
abbrev pub data_fits : Layout → Width → ℕ → Bool
data_fits l width count =
    if l.in_data then nat_le (l.shared + bytes_in width * count) (data_end l)
    else is_word width && nat_le (l.code + count) 65536

-- sizes, numbers and places within their ranges
abbrev pub fits : Layout → Statement → Bool
fits l (Mesh width height) = is_size 16 (valued l width) && is_size 16 (valued l height)
fits l (Contexts count) = is_size 4 (valued l count)
fits l (Lines count) = is_size 4096 (valued l count)
fits l Text = true
fits l (Shared offset) = is_between 0 (data_end l) (valued l offset)
fits l (Data width values) = data_fits l width (length values)
fits l (Skip count) = l.in_data && is_between 0 (data_end l) (moved_on l.shared (valued l count))
fits l (Align unit) = l.in_data && is_unit (valued l unit)
fits l (Equ name value) = is_between 0x80000000 0xffffffff (valued l value)
fits l (Start node slot address) = is_index (node_count l) (valued l node) && is_index (size_of l.contexts) (valued l slot)
fits l (Always line) = is_index (line_count l) (valued l line)
fits l s = not l.in_data && nat_le (l.code + word_count s) 65536

-- a value of data stands at a multiple of its size
abbrev pub is_aligned : Layout → Statement → Bool
is_aligned l (Data width values) = not l.in_data || (l.shared % bytes_in width == 0)
is_aligned l s = true

-- a byte is written again
abbrev pub overlaps : Layout → Statement → Bool
overlaps l (Data width values) = l.in_data && any_below (bytes_in width * length values) (λ i. l.written (l.shared + i))
overlaps l s = false

-- the fault of a statement: the first in the order of the numbers
abbrev pub statement_fault : Layout → Option (List ℕ) → Statement → Option Fault
statement_fault l label s =
    if is_unknown l s then Some UnknownName else (
    if label_again l label || statement_again l label s then Some Redefined else (
    if not (fits l s) then Some Range else (
    if not (is_aligned l s) then Some Unaligned else (
    if overlaps l s then Some Overlap else None))))

abbrev pub fault_with : Layout → Option (List ℕ) → Option Statement → Option Fault
fault_with l label None = if label_again l label then Some Redefined else None
fault_with l label (Some s) = statement_fault l label s

-- the fault of a line in this pass
abbrev pub place_fault : Layout → Line → Option Fault
place_fault l line = fault_with l line.label line.statement

-- ---- what stands behind a line without a fault

-- names and one more
abbrev pub named_so : List ℕ → Value → (List ℕ → Option Value) → List ℕ → Option Value
named_so name value names other = if bytes_eq name other then Some value else names other

-- names and that of a label, which stands for an address
abbrev pub with_label : Option (List ℕ) → ℕ → (List ℕ → Option Value) → List ℕ → Option Value
with_label None address names = names
with_label (Some label) address names = named_so label (record { plus = address; minus = 0 }) names

-- a label stands for the address of its line
abbrev pub labelled : Option (List ℕ) → Layout → Layout
labelled label l = record l { begun = l.begun || is_some label; names = with_label label (here_of l) l.names }

abbrev pub code_behind : ℕ → Layout → Layout
code_behind count l = record l { begun = true; code = l.code + count }

-- a set of numbers with those from one up to another, without that one
abbrev pub with_range : ℕ → ℕ → (ℕ → Bool) → ℕ → Bool
with_range from to set n = (nat_le from n && nat_lt n to) || set n

-- bytes of data are written, and stand
abbrev pub data_behind : ℕ → Layout → Layout
data_behind count l = record l { begun = true; shared = l.shared + count; written = with_range l.shared (l.shared + count) l.written }

-- contexts and one more
abbrev pub with_start : ℕ → ℕ → (ℕ → ℕ → Bool) → ℕ → ℕ → Bool
with_start node slot set n s = ((n == node) && (s == slot)) || set n s

-- `l` is what stands before the line, `m` the same with the line's label
abbrev pub laid : Layout → Statement → Layout → Layout
laid l (Mesh width height) m = record m { width = Some (above (valued l width)); height = Some (above (valued l height)) }
laid l (Contexts count) m = record m { contexts = Some (above (valued l count)) }
laid l (Lines count) m = record m { per_node = Some (above (valued l count)) }
laid l Text m = record m { begun = true; in_data = false }
laid l (Shared offset) m = record m { begun = true; in_data = true; shared = above (valued l offset) }
laid l (Data width values) m = if l.in_data then data_behind (bytes_in width * length values) m else code_behind (length values) m
laid l (Skip count) m = record m { begun = true; shared = above (moved_on l.shared (valued l count)) }
laid l (Align unit) m = record m { begun = true; shared = rounded_up l.shared (above (valued l unit)) }
laid l (Equ name value) m = record m { begun = true; names = named_so name (record { plus = above (valued l value); minus = below (valued l value) }) m.names }
laid l (Start node slot address) m = record m { begun = true; started = with_start (above (valued l node)) (above (valued l slot)) m.started }
laid l (Always line) m = record m { begun = true; always = with_range (above (valued l line)) (above (valued l line) + 1) m.always }
laid l s m = code_behind (word_count s) m

abbrev pub laid_with : Layout → Option Statement → Layout → Layout
laid_with l None m = m
laid_with l (Some s) m = laid l s m

-- what stands behind a line
abbrev pub behind : Layout → Line → Layout
behind l line = laid_with l line.statement (labelled line.label l)

-- ---- the pass

-- a fault with the number of its line
abbrev pub fault_at : Fault → ℕ → AsmErr
fault_at UnknownName number = error.UnknownName number
fault_at Redefined number = error.Redefined number
fault_at Range number = error.Range number
fault_at Unaligned number = error.Unaligned number
fault_at Overlap number = error.Overlap number

abbrev pub place_or : ℕ → Option Fault → Result Layout AsmErr → Result Layout AsmErr
place_or number (Some fault) rest = Err (fault_at fault number)
place_or number None rest = rest

-- what stands behind lines, the first of which has a number, or the first fault
abbrev pub places : ℕ → Layout → List Line → Result Layout AsmErr
places number l [] = Ok l
places number l (line ∷ rest) = place_or number (place_fault l line) (places (number + 1) (behind l line) rest)

-- ---- places

-- where a statement stands, and the context that it starts
abbrev pub place_of : Layout → Option Statement → Position
place_of l (Some (Start node slot address)) = record { here = here_of l; in_data = l.in_data; node = above (valued l node); slot = above (valued l slot) }
place_of l _ = record { here = here_of l; in_data = l.in_data; node = 0; slot = 0 }

-- the places of lines that stand behind a layout
abbrev pub places_of : Layout → List Line → List Position
places_of l [] = []
places_of l (line ∷ rest) = place_of l line.statement ∷ places_of (behind l line) rest
