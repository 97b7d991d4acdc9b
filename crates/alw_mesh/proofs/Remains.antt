-- What remains at nodes that are gone through slot by slot and node by node.
use Rattle.std.proofs.Common.{◌≡◌, ℕ, ◌+◌, ◌<◌, ◌≤◌, not, List, [], ◌∷◌, ◌++◌, length, take, get_or, sym, ap, ◌∙◌, arith}
use Rattle.std.proofs.lemmas.List.{take_more, take_all, map-append}
use Rattle.alw_num.specs.Weights.{digit, weigh}
use Rattle.alw_num.proofs.Weigh.{weigh_push}
use Rattle.alw_msg.specs.declared.contexts.Status.{Status}
use Rattle.alw_msg.specs.Statuses.{is_halted, has_trapped}
use Rattle.alw_model.specs.Contexts.{Slot, slot_at}
use Rattle.alw_model.specs.NodeStates.{NodeState}
use Rattle.alw_tally.specs.declared.remains.Remains.{Remains}
use Rattle.alw_tally.specs.Remaining.{live_in, trapped_in, packets_in, remains_of}
use Rattle.alw_node.specs.Nodes.{Whole}
use Rattle.alw_mesh.specs.Joins.{states_of}

-- a node with the first so many slots alone
abbrev pub so_far : NodeState → ℕ → NodeState
so_far node i = record node { slots = take i node.slots }

-- one slot more of a weight
weigh_more : (f : Status → ℕ) (slots : List Slot) (i : ℕ) (status : Status) (sum one : ℕ) → i < length slots → status ≡ (slot_at slots i).status
    → sum ≡ weigh (λ (slot : Slot). f slot.status) (take i slots) → one ≡ f status → sum + one ≡ weigh (λ (slot : Slot). f slot.status) (take (i + 1) slots)
weigh_more f slots i status sum one here is so_far_is one_is =
    let slot = slot_at slots i in
    (λ x. so_far_is x + (one_is ∙ ap f is) x)
    ∙ (sym (weigh_push (λ (s : Slot). f s.status) (take i slots) slot) ∙ ap (weigh (λ (s : Slot). f s.status)) (sym (take_more slots i _ here)))

pub live_more : (node : NodeState) (i : ℕ) (status : Status) (sum one : ℕ) → i < length node.slots → status ≡ (slot_at node.slots i).status
    → sum ≡ live_in (so_far node i) → one ≡ digit (not (is_halted status)) → sum + one ≡ live_in (so_far node (i + 1))
live_more node i status sum one here is so one_is = weigh_more (λ s. digit (not (is_halted s))) node.slots i status sum one here is so one_is

pub trapped_more : (node : NodeState) (i : ℕ) (status : Status) (sum one : ℕ) → i < length node.slots → status ≡ (slot_at node.slots i).status
    → sum ≡ trapped_in (so_far node i) → one ≡ digit (has_trapped status) → sum + one ≡ trapped_in (so_far node (i + 1))
trapped_more node i status sum one here is so one_is = weigh_more (λ s. digit (has_trapped s)) node.slots i status sum one here is so one_is

pub live_all : (node : NodeState) (i : ℕ) → length node.slots ≤ i → live_in (so_far node i) ≡ live_in node
live_all node i past = ap (λ (slots : List Slot). live_in (record node { slots = slots })) (take_all i node.slots past)

pub trapped_all : (node : NodeState) (i : ℕ) → length node.slots ≤ i → trapped_in (so_far node i) ≡ trapped_in node
trapped_all node i past = ap (λ (slots : List Slot). trapped_in (record node { slots = slots })) (take_all i node.slots past)

pub one_remains : (node : NodeState) (live trapped packets : ℕ) → live ≡ live_in node → trapped ≡ trapped_in node → packets ≡ length node.packets
    → ◌≡◌ {A = Remains} (record { live = live; trapped = trapped; packets = packets }) (remains_of (node ∷ []))
one_remains node live trapped packets l t p =
    let alone : (n : ℕ) → n ≡ n + 0 = λ n. omega arith in
    λ x. record { live = (l ∙ alone (live_in node)) x; trapped = (t ∙ alone (trapped_in node)) x; packets = (p ∙ alone (packets_in node)) x }

-- one node more
pub all_more : (nodes : List Whole) (i : ℕ) (node : Whole) (all one : Remains) → i < length nodes → get_or nodes i node ≡ node → all ≡ remains_of (states_of (take i nodes)) → one ≡ remains_of (node.state ∷ [])
    → ◌≡◌ {A = Remains} (record { live = all.live + one.live; trapped = all.trapped + one.trapped; packets = all.packets + one.packets }) (remains_of (states_of (take (i + 1) nodes)))
all_more nodes i node all one here read so_far_is one_is =
    let before = states_of (take i nodes) in
    let taken : take (i + 1) nodes ≡ take i nodes ++ node ∷ [] = take_more nodes i node here ∙ ap (λ (w : Whole). take i nodes ++ w ∷ []) read in
    let split : states_of (take (i + 1) nodes) ≡ before ++ node.state ∷ [] = ap states_of taken ∙ map-append (λ (w : Whole). w.state) (take i nodes) (node ∷ []) in
    let push : (f : NodeState → ℕ) → weigh f before + weigh f (node.state ∷ []) ≡ weigh f (before ++ node.state ∷ []) = λ f. omega (arith, weigh_push f before node.state) in
    (λ x. record { live = (so_far_is x).live + (one_is x).live; trapped = (so_far_is x).trapped + (one_is x).trapped; packets = (so_far_is x).packets + (one_is x).packets })
    ∙ ((λ x. record { live = push live_in x; trapped = push trapped_in x; packets = push packets_in x }) ∙ ap remains_of (sym split))
