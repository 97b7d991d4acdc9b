-- How a header is spelled.
use Rattle.std.specs.Prelude.{ℕ, List, ◌∷◌, ◌++◌, codes}
use Rattle.std.specs.Int.{w16, w32, to_be_bytes}
use Rattle.alw_image.specs.declared.headers.Header.{Header}

-- the 28 bytes of a header
unfoldable pub header_bytes : Header → List ℕ
header_bytes h = codes "ALEW" ++ (to_be_bytes w16 h.version ++ (h.width ∷ h.height ∷ h.contexts ∷ h.blank ∷ to_be_bytes w16 h.per_node
    ++ (to_be_bytes w32 h.code ++ (to_be_bytes w32 h.bodies ++ (to_be_bytes w32 h.starts ++ to_be_bytes w32 h.always)))))
