-- A set of nodes is the number whose binary digit n says whether node n is in it, so that two sets with the same members are equal.
use Rattle.std.specs.Prelude.{ℕ, zero, suc, ◌+◌, ◌*◌, ◌/◌, ◌%◌, ◌^◌, ◌≡◌, ◌<◌, List, [], ◌∷◌, length, take, Bool, true, false, ◌==◌, bit_and, bit_or, bit_xor, refl}
use Rattle.std.specs.Int.{bit_at}
use Rattle.std.specs.Coded.{Coded, code_by, coded_ℕ}
use Rattle.alw_num.specs.declared.node_sets.NodeSet.{NodeSet}

-- a set of nodes
pub record Nodes : Type 0 where
  pub bits : ℕ

-- what tells two sets apart, for a type that contracts see as one with a set in it
abbrev pub nodes_code : Coded Nodes
nodes_code = code_by ℕ coded_ℕ (λ s. s.bits) (λ n. record { bits = n }) (λ _. refl)

-- the set without a member
unfoldable pub no_nodes : Nodes
no_nodes = record { bits = 0 }

-- whether a node is a member
unfoldable pub has_node : Nodes → ℕ → Bool
has_node set n = bit_at set.bits n == 1

-- the set and a node
unfoldable pub add_node : Nodes → ℕ → Nodes
add_node set n = record { bits = bit_or set.bits (2 ^ n) }

-- the set without a node
unfoldable pub drop_node : Nodes → ℕ → Nodes
drop_node set n = record { bits = bit_xor set.bits (bit_and set.bits (2 ^ n)) }

-- the set of one node
abbrev pub one_node : ℕ → Nodes
one_node n = add_node no_nodes n

-- the nodes that are in one of two sets, or in both
unfoldable pub join_nodes : Nodes → Nodes → Nodes
join_nodes one other = record { bits = bit_or one.bits other.bits }

-- the list with a number in front, or without it
abbrev pub front_if : Bool → ℕ → List ℕ → List ℕ
front_if true n rest = n ∷ rest
front_if false n rest = rest

-- The places of a number's ones, lowest first, where its last digit has the place `at`. No more than `most` digits are looked at, and none where the number `is_zero`.
abbrev pub places : ℕ → Bool → ℕ → ℕ → List ℕ
places zero is_zero at bits = []
places (suc most) true at bits = []
places (suc most) false at bits = front_if (bits % 2 == 1) at (places most (bits / 2 == 0) (at + 1) (bits / 2))

-- the members, ascending, each once
unfoldable pub members : Nodes → List ℕ
members set = places set.bits (set.bits == 0) 0 set.bits

-- each member is below a number
abbrev pub AreBelow : ℕ → Nodes → Type 0
AreBelow n set = (k : ℕ) → has_node set k ≡ true → k < n

-- how many members there are
abbrev pub count_nodes : Nodes → ℕ
count_nodes set = length (members set)

-- the number that words of 64 bits spell, the lowest first
abbrev pub bits_in : List ℕ → ℕ
bits_in [] = 0
bits_in (word ∷ rest) = bits_in rest * 2 ^ 64 + word % 2 ^ 64

-- the set that four words spell: node n is digit n % 64 of word n / 64
unfoldable pub nodes_of : NodeSet → Nodes
nodes_of set = record { bits = bits_in (take 4 set.words) }

-- To unfold this is to unfold each word of this file, so that sets of written-out nodes compute.
unfoldable pub node_sets : Unit {0}
unfolding no_nodes has_node add_node drop_node join_nodes members nodes_of
node_sets = tt
