-- The one member of a set, by what is left without its least.
use Rattle.std.proofs.Common.{◌≡◌, ℕ, Some, None, List, [], ◌∷◌, refl, sym, ap, ◌∙◌}
use Rattle.alw_num.specs.NodeSets.{Nodes, no_nodes, drop_node, members}
use Rattle.alw_num.proofs.Sets.{members-none, none_of_members}
use Rattle.alw_model.specs.FullMap.{only, sole}

pub sole_one : (P rest : Nodes) (m : ℕ) → members P ≡ m ∷ members (drop_node P m) → rest ≡ drop_node P m → rest ≡ no_nodes → sole P ≡ Some m
sole_one P rest m least dropped none = ap only (least ∙ ap (λ (js : List ℕ). m ∷ js) (ap members (sym dropped ∙ none) ∙ members-none))

pub sole_of_more : (P rest : Nodes) (m : ℕ) → members P ≡ m ∷ members (drop_node P m) → rest ≡ drop_node P m → (rest ≡ no_nodes → ⊥) → sole P ≡ None
sole_of_more P rest m least dropped some = ap only least ∙ go (members (drop_node P m)) refl
  where
    go : (js : List ℕ) → members (drop_node P m) ≡ js → only (m ∷ js) ≡ None
    go [] e = absurd (some (dropped ∙ none_of_members (drop_node P m) e))
    go (j ∷ js) e = refl
