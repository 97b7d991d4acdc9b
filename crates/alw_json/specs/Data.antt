-- Values of JSON (RFC 8259) that several texts are made of. What a value is, and the text that it has, are serde_json's words.
use Rattle.std.specs.Prelude.{ℕ, List, [], ◌∷◌, map, codes}
use Rattle.serde_json.specs.Data.{Data, number, unsigned, array, object, Members, no_members, member}
use Rattle.serde_json.specs.View.{items_of}
use Rattle.alw_image.specs.Parameters.{Parameters}

abbrev pub natural : ℕ → Data
natural n = number (unsigned n)

-- a list of values
abbrev pub listed : {A : Type 0} → (A → Data) → List A → Data
listed of xs = array (items_of (map of xs))

-- a list of two numbers
abbrev pub pair : ℕ × ℕ → Data
pair p = listed natural (p.0 ∷ p.1 ∷ [])

-- an object of these keys with their values
abbrev pub members : List (List ℕ × Data) → Members
members [] = no_members
members (m ∷ ms) = member m.0 m.1 (members ms)

abbrev pub keyed : List (List ℕ × Data) → Data
keyed ms = object (members ms)

-- the parameters of a run, but for evictions
abbrev pub params_data : Parameters → Data
params_data p = keyed (
    (codes "limit", natural p.limit) ∷
    (codes "pointers", natural p.pointers) ∷
    (codes "sets", natural p.sets) ∷ [])
