-- Sets of written-out nodes compute.
use Rattle.std.proofs.Common.{◌≡◌, [], ◌∷◌, refl, true, false}
use Rattle.alw_num.specs.NodeSets.{no_nodes, has_node, add_node, drop_node, one_node, join_nodes, members, count_nodes, nodes_of, node_sets}

two_members : members (add_node (add_node no_nodes 3) 1) ≡ 1 ∷ 3 ∷ []
unfolding node_sets
two_members = refl

dropped : members (drop_node (add_node (add_node (add_node no_nodes 255) 1) 128) 1) ≡ 128 ∷ 255 ∷ []
unfolding node_sets
dropped = refl

either_order : add_node (add_node no_nodes 3) 1 ≡ add_node (add_node (one_node 1) 3) 3
unfolding node_sets
either_order = refl

last_node : has_node (one_node 255) 255 ≡ true
unfolding node_sets
last_node = refl

other_node : has_node (one_node 255) 127 ≡ false
unfolding node_sets
other_node = refl

joined : members (join_nodes (add_node (one_node 7) 200) (add_node (one_node 0) 7)) ≡ 0 ∷ 7 ∷ 200 ∷ []
unfolding node_sets
joined = refl

counted : count_nodes (add_node (add_node (one_node 9) 255) 9) ≡ 2
unfolding node_sets
counted = refl

all_words : members (nodes_of (record { words = 5 ∷ 2 ∷ 0 ∷ 1 ∷ [] })) ≡ 0 ∷ 2 ∷ 65 ∷ 192 ∷ []
unfolding node_sets
all_words = refl
