-- The sizes of an image's parts: each within its range, and no more members than the machine has lines and contexts.
use Rattle.std.specs.Prelude.{◌≤◌, ◌&&◌, Bool, length}
use Rattle.alw_image.specs.declared.headers.Header.{Header}
use Rattle.alw_image.specs.declared.parts.Parts.{Parts}
use Rattle.alw_image.specs.Images.{line_count, context_count}
use Rattle.alw_image.specs.Faults.{is_within}

pub record HasSizes (p : Parts) : Type 0 where
  pub width : (1 ≤ p.width) × (p.width ≤ 16)
  pub height : (1 ≤ p.height) × (p.height ≤ 16)
  pub contexts : (1 ≤ p.contexts) × (p.contexts ≤ 4)
  pub per_node : (1 ≤ p.per_node) × (p.per_node ≤ 4096)
  pub code : (1 ≤ length p.code) × (length p.code ≤ 65536)
  pub bodies : length p.bodies ≤ line_count p
  pub starts : (1 ≤ length p.starts) × (length p.starts ≤ context_count p)
  pub always : length p.always ≤ line_count p

-- the same as tests: the sizes of the mesh and of a node, and the numbers of members
abbrev pub has_sides : Parts → Bool
has_sides p = is_within 1 16 p.width && (is_within 1 16 p.height && (is_within 1 4 p.contexts && is_within 1 4096 p.per_node))

abbrev pub has_counts : Parts → Bool
has_counts p =
    is_within 1 65536 (length p.code) && (is_within 0 (line_count p) (length p.bodies) && (is_within 1 (context_count p) (length p.starts) && is_within 0 (line_count p) (length p.always)))

abbrev pub has_sizes : Parts → Bool
has_sizes p = has_sides p && has_counts p

-- so few members that an image of them is short
pub record ImageIsShort (h : Header) : Type 0 where
  pub code : h.code ≤ 65536
  pub bodies : h.bodies ≤ 1048576
  pub starts : h.starts ≤ 1024
  pub always : h.always ≤ 1048576
