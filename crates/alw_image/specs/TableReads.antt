-- What reading a table of an image comes to: its members, of which its bytes are the spelling.
use Rattle.std.specs.Prelude.{◌≡◌, ℕ, ◌+◌, ◌<◌, List, ◌++◌, length, take, drop}
use Rattle.std.specs.List.{flat_map, AllByRecursion}
use Rattle.alw_num.specs.declared.addresses.NodeNo.{NodeNo}
use Rattle.std.specs.Int.{w32, to_be_bytes}
use Rattle.alw_image.specs.declared.headers.Header.{Header}
use Rattle.alw_image.specs.declared.parts.Parts.{Parts}
use Rattle.alw_image.specs.Images.{data_line, start_bytes}
use Rattle.alw_image.specs.Faults.{table_of, piece, word_of, body_of_bytes, start_of_bytes, bodies_at, starts_at, always_at, image_end}

-- what one step reads: a member off the first bytes, which are its spelling where the member is good, and what follows them
pub record IsMember {X : Type 0} (read : List ℕ → X) (spell : X → List ℕ) (Good : X → Type 0) (size : ℕ) (bytes : List ℕ) (x : X) (after : List ℕ) : Type 0 where
  pub reading : read (take size bytes) ≡ x
  pub rest : drop size bytes ≡ after
  pub bytes_left : length bytes ≡ size + length after
  pub spelled : Good x → bytes ≡ spell x ++ after

-- all members are read
pub record TableIsWhole {X : Type 0} (read : List ℕ → X) (spell : X → List ℕ) (Good : X → Type 0) (size count : ℕ) (bytes : List ℕ) (table : List X) : Type 0 where
  pub reading : table_of read size count bytes ≡ table
  pub spelled : AllByRecursion Good table → bytes ≡ flat_map spell table
  pub number : length table ≡ count

-- any member
abbrev pub IsAnyMember : {X : Type 0} → X → Type 0
IsAnyMember x = Unit {0}

-- the start of a slot that is none of those that stand for a wrong byte
abbrev pub IsSlot : NodeNo × ℕ × ℕ → Type 0
IsSlot start = start.1 < 255

-- the parts that bytes spell, table by table
pub record PartsAreRead (h : Header) (bytes : List ℕ) (p : Parts) : Type 0 where
  pub width : p.width ≡ h.width
  pub height : p.height ≡ h.height
  pub contexts : p.contexts ≡ h.contexts
  pub per_node : p.per_node ≡ h.per_node
  pub code : TableIsWhole word_of (to_be_bytes w32) IsAnyMember 4 h.code (piece 28 (bodies_at h) bytes) p.code
  pub bodies : TableIsWhole body_of_bytes data_line IsAnyMember 20 h.bodies (piece (bodies_at h) (starts_at h) bytes) p.bodies
  pub starts : TableIsWhole start_of_bytes start_bytes IsSlot 8 h.starts (piece (starts_at h) (always_at h) bytes) p.starts
  pub always : TableIsWhole word_of (to_be_bytes w32) IsAnyMember 4 h.always (piece (always_at h) (image_end h) bytes) p.always
