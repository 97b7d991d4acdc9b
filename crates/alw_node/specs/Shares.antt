-- What a node keeps of an image: everything that it ever reads of it.
use Rattle.std.specs.Prelude.{ℕ, filter}
use Rattle.alw_image.specs.declared.parts.Parts.{Parts}
use Rattle.alw_image.specs.Nodes.{is_line_of, is_body_of, is_start_of}

-- a node's share of an image: sizes and code are the image's, and the lists are cut down to the node's home lines and contexts
abbrev pub share_of : Parts → ℕ → Parts
share_of parts number = record parts {
  bodies = filter (is_body_of parts.per_node number) parts.bodies;
  starts = filter (is_start_of number) parts.starts;
  always = filter (is_line_of parts.per_node number) parts.always;
}
