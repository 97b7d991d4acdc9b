-- What the links keep: the pool of places, and which nodes have something on the way to a node.
use Rattle.std.specs.Prelude.{◌≡◌, ◌<◌, ◌≤◌, ℕ, ◌*◌, nat_lt, ◌&&◌, List, length, replicate, slice_index_or}
use Rattle.alw_num.specs.declared.node_sets.NodeSet.{NodeSet}
use Rattle.alw_num.specs.Limits.{most_nodes}
use Rattle.alw_num.specs.NodeSets.{has_node, nodes_of}
use Rattle.alw_msg.specs.declared.messages.Msg.{Msg}
use Rattle.alw_msg.specs.Lists.{is_nonempty}
use Rattle.alw_links.specs.Traffic.{link_of}
use Rattle.alw_links.specs.declared.pools.Ends.{Ends}
use Rattle.alw_links.specs.declared.pools.PoolPlace.{PoolPlace}
use Rattle.alw_links.specs.Chains.{links_of, IsPool}

abbrev pub nobody : NodeSet
nobody = record { words = replicate 4 0 }

-- each set has the nodes with something on the way to its node
abbrev pub AreSenders : ℕ → List (List Msg) → List NodeSet → Type 0
AreSenders nodes links senders = (from to : ℕ) → to < nodes
    → has_node (nodes_of (slice_index_or senders to nobody)) from ≡ (nat_lt from nodes && is_nonempty (link_of nodes links from to))

pub record IsTraffic (nodes : ℕ) (links : List Ends) (senders : List NodeSet) (places : List PoolPlace) (spare room : ℕ) : Type 0 where
  pub few_nodes : nodes ≤ most_nodes
  pub links_are : length links ≡ nodes * nodes
  pub senders_are : length senders ≡ nodes
  pub sent_by : AreSenders nodes (links_of places links) senders
  pub pool : IsPool places links spare room
