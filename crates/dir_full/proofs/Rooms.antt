-- Room for what a home sends, where all nodes are below the room's number.
use Rattle.std.proofs.Common.{◌≡◌, ℕ, ◌<◌, true, [], ◌∙◌, ap, arith}
use Rattle.alw_num.specs.NodeSets.{Nodes, nodes_of, has_node}
use Rattle.alw_num.specs.declared.node_sets.NodeSet.{NodeSet}
use Rattle.alw_num.proofs.Words.{nodes_below}
use Rattle.alw_msg.specs.Sending.{Sending}
use Rattle.dir_full.specs.Reactions.{HasRoom}

pub room_for : (P : Nodes) (i : ℕ) (sending : Sending) → sending.messages ≡ [] → sending.room ≡ 256 → i < 256 → ((k : ℕ) → has_node P k ≡ true → k < 256) → HasRoom P i sending
room_for P i sending empty room below members = record { empty = empty; sender = omega (arith, room, below); members = λ k h. omega (arith, room, members k h) }

-- the members of a set as code has it
pub below_by : (P : Nodes) (set : NodeSet) → nodes_of set ≡ P → (k : ℕ) → has_node P k ≡ true → k < 256
below_by P set e k h = nodes_below set k (ap (λ (Q : Nodes). has_node Q k) e ∙ h)
