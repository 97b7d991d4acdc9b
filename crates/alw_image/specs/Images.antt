-- What an image's parts say of its machine, which parts are an image, and how an image is spelled.
use Rattle.std.specs.Prelude.{◌≡◌, ◌≢◌, ℕ, ◌+◌, ◌-◌, ◌*◌, ◌/◌, ◌%◌, ◌<◌, ◌≤◌, ◌&&◌, ◌==◌, Bool, if◌then◌else◌, nat_le, Option, find, List, [], ◌∷◌, ◌++◌, length, map, codes}
use Rattle.std.specs.Int.{w16, w32, to_be_bytes}
use Rattle.std.specs.Option.{option_map}
use Rattle.std.specs.List.{list_any, flat_map, AllByRecursion}
use Rattle.std.specs.List.Sorted.{IsStrictlyIncreasing}
use Rattle.alw_num.specs.declared.addresses.Line.{Line}
use Rattle.alw_num.specs.declared.addresses.LineNo.{LineNo}
use Rattle.alw_num.specs.declared.addresses.NodeNo.{NodeNo}
use Rattle.alw_num.specs.Lanes.{bytes_of}
use Rattle.alw_image.specs.declared.parts.Parts.{Parts}
use Rattle.alw_image.specs.declared.parts.Sizes.{Sizes}

-- the sizes of its machine
abbrev pub sizes_of : Parts → Sizes
sizes_of p = record { width = p.width; height = p.height; contexts = p.contexts; per_node = p.per_node }

-- the number of nodes
abbrev pub node_count : Parts → ℕ
node_count p = p.width * p.height

-- the number of lines of shared data
abbrev pub line_count : Parts → ℕ
line_count p = node_count p * p.per_node

-- the number of contexts
abbrev pub context_count : Parts → ℕ
context_count p = node_count p * p.contexts

-- columns and rows between two nodes
abbrev pub hops_between : Parts → ℕ → ℕ → ℕ
hops_between p from to = distance (from % p.width) (to % p.width) + distance (from / p.width) (to / p.width)
  where
    distance : ℕ → ℕ → ℕ
    distance a b = (a - b) + (b - a)

-- the line of 16 zero bytes
abbrev pub zero_line : Line
zero_line = record { a = 0; b = 0; c = 0; d = 0 }

-- the bytes that data lines give a line: zero where it isn't listed
abbrev pub body_in : List (LineNo × Line) → ℕ → Line
body_in [] line = zero_line
body_in (entry ∷ rest) line = if entry.0.0 == line then entry.1 else body_in rest line

-- the bytes of a line at the start
abbrev pub body_of : Parts → ℕ → Line
body_of p line = body_in p.bodies line

-- the address that starts give a slot of a node: None where it isn't listed
abbrev pub start_in : List (NodeNo × ℕ × ℕ) → ℕ → ℕ → Option ℕ
start_in starts node slot = option_map (λ start. start.2) (find (λ start. start.0.0 == node && (start.1 == slot)) starts)

-- the address at which a slot of a node starts: None where it is halted from the beginning
abbrev pub started_at : Parts → ℕ → ℕ → Option ℕ
started_at p node slot = start_in p.starts node slot

-- the line is Trap-Always
abbrev pub is_always : Parts → ℕ → Bool
is_always p line = list_any (λ listed. line == listed) p.always

-- a data line exists, and its bytes aren't all 0
abbrev pub IsDataLine : Parts → LineNo × Line → Type 0
IsDataLine p entry = (entry.0.0 < line_count p) × (entry.1 ≢ zero_line)

-- a start is of a context that exists, at a code word
abbrev pub IsStart : Parts → NodeNo × ℕ × ℕ → Type 0
IsStart p start = (start.0.0 < node_count p) × (start.1 < p.contexts) × (start.2 % 4 ≡ 0) × (start.2 < 4 * length p.code)

-- the number of the context that a start is of
abbrev pub context_started : Parts → NodeNo × ℕ × ℕ → ℕ
context_started p start = start.0.0 * p.contexts + start.1

-- the parts of an image
pub record IsImage (p : Parts) : Type 0 where
  pub width : (1 ≤ p.width) × (p.width ≤ 16)
  pub height : (1 ≤ p.height) × (p.height ≤ 16)
  pub contexts : (1 ≤ p.contexts) × (p.contexts ≤ 4)
  pub per_node : (1 ≤ p.per_node) × (p.per_node ≤ 4096)
  pub code : (1 ≤ length p.code) × (length p.code ≤ 65536)
  pub some_start : 1 ≤ length p.starts
  pub bodies : AllByRecursion (IsDataLine p) p.bodies
  pub bodies_ascend : IsStrictlyIncreasing (map (λ entry. entry.0.0) p.bodies)
  pub starts : AllByRecursion (IsStart p) p.starts
  pub starts_ascend : IsStrictlyIncreasing (map (context_started p) p.starts)
  pub always : AllByRecursion (λ line. line < line_count p) p.always
  pub always_ascend : IsStrictlyIncreasing p.always

-- the version that an image is spelled in
abbrev pub version_of : Parts → ℕ
version_of p = if nat_le p.width 8 && nat_le p.height 8 then 1 else 2

-- the words of a program, four bytes each
abbrev pub words : List ℕ → List ℕ
words [] = []
words (word ∷ rest) = to_be_bytes w32 word ++ words rest

-- a data line: its number and its 16 bytes
abbrev pub data_line : LineNo × Line → List ℕ
data_line entry = to_be_bytes w32 entry.0.0 ++ bytes_of entry.1

-- a start: node, slot, a zero byte and the address
abbrev pub start_bytes : NodeNo × ℕ × ℕ → List ℕ
start_bytes start = to_be_bytes w16 start.0.0 ++ (start.1 ∷ 0 ∷ to_be_bytes w32 start.2)

-- the numbers of members, four bytes each
abbrev pub counts : Parts → List ℕ
counts p = to_be_bytes w32 (length p.code) ++ (to_be_bytes w32 (length p.bodies) ++ (to_be_bytes w32 (length p.starts) ++ to_be_bytes w32 (length p.always)))

-- the 28 bytes before the code
abbrev pub header : Parts → List ℕ
header p = codes "ALEW" ++ (to_be_bytes w16 (version_of p) ++ (p.width ∷ p.height ∷ p.contexts ∷ 0 ∷ to_be_bytes w16 p.per_node ++ counts p))

-- the one spelling of an image
unfoldable pub spelling : Parts → List ℕ
spelling p = header p ++ (words p.code ++ (flat_map data_line p.bodies ++ (flat_map start_bytes p.starts ++ words p.always)))
