-- A write to a shared line, by whether there are other sharers.
use Rattle.std.proofs.Common.{◌≡◌, ℕ, ◌+◌, ◌≤◌, Bool, true, false, cond, ◌==◌, List, [], ◌∷◌, length, refl, sym, ap, ◌∙◌, arith}
use Rattle.alw_num.specs.declared.states.State.TheVariants.{WT}
use Rattle.alw_num.specs.NodeSets.{Nodes, no_nodes, has_node, drop_node, members, count_nodes}
use Rattle.alw_num.proofs.Sets.{members-none, none_of_members, has-drop, count_below}
use Rattle.alw_model.specs.FullMap.{Home, write_shared, others, begin}
use Rattle.alw_msg.specs.Sending.{Sending}
use Rattle.dir_full.specs.Reactions.{HasRoom}

-- the others fit in the list
pub others_fit : (P rest : Nodes) (i : ℕ) (sent : Sending) → HasRoom P i sent → rest ≡ drop_node P i → length sent.messages + count_nodes rest ≤ sent.room
others_fit P rest i sent room dropped =
    let few = count_below (drop_node P i) sent.room (λ k past. has-drop P i k ∙ beyond k past (k == i) (has_node P k) refl) in
    rw (dropped, room.empty) (omega arith)
  where
    beyond : (k : ℕ) → sent.room ≤ k → (same here : Bool) → has_node P k ≡ here → cond same false here ≡ false
    beyond k past true here e = refl
    beyond k past false false e = refl
    beyond k past false true e = absurd (omega (arith, room.members k e))

-- there is none
pub alone : (h : Home) (i : ℕ) (rest : Nodes) → rest ≡ drop_node h.pointers i → rest ≡ no_nodes → write_shared h i (others h.pointers i) ≡ write_shared h i []
alone h i rest dropped none = ap (write_shared h i) (ap members (sym dropped ∙ none) ∙ members-none)

-- there is one
pub more : (h : Home) (i : ℕ) (rest : Nodes) → rest ≡ drop_node h.pointers i → (rest ≡ no_nodes → ⊥) → write_shared h i (others h.pointers i) ≡ begin h i WT (members rest)
more h i rest dropped some = rw (← dropped) (go (members rest) refl)
  where
    go : (js : List ℕ) → members rest ≡ js → write_shared h i js ≡ begin h i WT js
    go [] e = absurd (some (none_of_members rest e))
    go (j ∷ js) e = refl
