-- Every machine after a legal journal aims at nodes that exist; so the laws hold of whole journals.
use Rattle.std.proofs.Common.{◌≡◌, ◌≢◌, ℕ, ◌≤◌, List, [], ◌∷◌, ◌++◌, sym, ◌∙◌, arith}
use Rattle.alw_msg.specs.declared.events.Entry.{Entry}
use Rattle.alw_image.specs.declared.parts.Parts.{Parts}
use Rattle.alw_image.specs.Parameters.{Parameters}
use Rattle.alw_msg.specs.Events.{node_of}
use Rattle.alw_model.specs.Machine.{MachineState, machine_start, step, after, state, AreLegal, IsLegal}
use Rattle.alw_model.specs.Threads.{in_order}
use Rattle.alw_model.proofs.Journals.{after-append}
use Rattle.law_order.specs.Orders.{NodesRise, Ascends, kept_by, later_than}
use Rattle.law_order.specs.Aims.{IsAimed}
use Rattle.law_order.proofs.Aimed.{start_aimed, step_aimed}
use Rattle.law_order.proofs.Clocks.{nodes_rise}
use Rattle.law_order.proofs.Sorting.{LeavesSame, swap_legal, sorted_legal}
use Rattle.law_order.proofs.Orders.{sorted_ascends}
use Rattle.law_order.proofs.Cutting.{cut_legal, front_legal, back_legal}

module _ (parts : Parts) (parameters : Parameters) where
  after_aimed : (s : MachineState) (journal : List Entry) → IsAimed parts s → AreLegal parts parameters s journal → IsAimed parts (after parts parameters s journal)
  after_aimed s [] aimed legal = aimed
  after_aimed s (entry ∷ rest) aimed (next, legal) = after_aimed (step parts parameters s entry.event) rest (step_aimed parts parameters s entry.event next.enabled aimed) legal

  pub state_aimed : (journal : List Entry) → IsLegal parts parameters journal → IsAimed parts (state parts parameters journal)
  unfolding state
  state_aimed journal legal = after_aimed (machine_start parts) journal (start_aimed parts parameters) legal

  -- a legal list leaves the same behind one that was legal
  join_legal : (s : MachineState) (front back : List Entry) → AreLegal parts parameters s front → AreLegal parts parameters (after parts parameters s front) back → AreLegal parts parameters s (front ++ back)
  join_legal s [] back legal more = more
  join_legal s (entry ∷ rest) back (next, legal) more = (next, join_legal (step parts parameters s entry.event) rest back legal more)

  pub rise : (journal : List Entry) → IsLegal parts parameters journal → NodesRise journal
  rise journal legal = nodes_rise parts parameters (machine_start parts) journal (start_aimed parts parameters) legal

  -- ---- two neighbours

  module _ (front : List Entry) (one other : Entry) (rest : List Entry) (legal : IsLegal parts parameters (front ++ one ∷ other ∷ rest)) (le : other.stamp ≤ one.stamp) where
    abbrev here : MachineState
    here = after parts parameters (machine_start parts) front

    swap : LeavesSame parts parameters here (other ∷ one ∷ rest) (one ∷ other ∷ rest)
    swap = swap_legal parts parameters here one other rest
        (after_aimed (machine_start parts) front (start_aimed parts parameters) (front_legal parts parameters (machine_start parts) front (one ∷ other ∷ rest) legal))
        (back_legal parts parameters (machine_start parts) front (one ∷ other ∷ rest) legal) le

    pub swapped_legal : IsLegal parts parameters (front ++ other ∷ one ∷ rest)
    swapped_legal = join_legal (machine_start parts) front (other ∷ one ∷ rest) (front_legal parts parameters (machine_start parts) front (one ∷ other ∷ rest) legal) swap.legal

    pub swapped_state : state parts parameters (front ++ other ∷ one ∷ rest) ≡ state parts parameters (front ++ one ∷ other ∷ rest)
    unfolding state
    swapped_state = after-append parts parameters (machine_start parts) front (other ∷ one ∷ rest) ∙ (swap.state ∙ sym (after-append parts parameters (machine_start parts) front (one ∷ other ∷ rest)))

    pub swapped_nodes : node_of one.event ≢ node_of other.event
    swapped_nodes same =
        let below = front_legal parts parameters (machine_start parts) front (one ∷ other ∷ rest) legal in
        let rises = nodes_rise parts parameters here (one ∷ other ∷ rest) (after_aimed (machine_start parts) front (start_aimed parts parameters) below) (back_legal parts parameters (machine_start parts) front (one ∷ other ∷ rest) legal) in
        absurd (let above = rises.0.0 (sym same) in omega arith)

  -- ---- sorted, and cut

  module _ (journal : List Entry) (legal : IsLegal parts parameters journal) where
    pub in_order_legal : IsLegal parts parameters (in_order journal)
    in_order_legal = (sorted_legal parts parameters (machine_start parts) journal (start_aimed parts parameters) legal).legal

    pub in_order_state : state parts parameters (in_order journal) ≡ state parts parameters journal
    unfolding state
    in_order_state = (sorted_legal parts parameters (machine_start parts) journal (start_aimed parts parameters) legal).state

    pub in_order_ascends : Ascends (in_order journal)
    in_order_ascends = sorted_ascends journal (rise (in_order journal) in_order_legal)

    pub cut_whole : (t : ℕ) → IsLegal parts parameters (kept_by t journal ++ later_than t journal)
    cut_whole t = (cut_legal parts parameters (machine_start parts) t journal (start_aimed parts parameters) legal).legal

    pub cut_state : (t : ℕ) → state parts parameters (kept_by t journal ++ later_than t journal) ≡ state parts parameters journal
    unfolding state
    cut_state t = (cut_legal parts parameters (machine_start parts) t journal (start_aimed parts parameters) legal).state

    pub cut_front : (t : ℕ) → IsLegal parts parameters (kept_by t journal)
    cut_front t = front_legal parts parameters (machine_start parts) (kept_by t journal) (later_than t journal) (cut_whole t)

    pub cut_back : (t : ℕ) → AreLegal parts parameters (state parts parameters (kept_by t journal)) (later_than t journal)
    unfolding state
    cut_back t = back_legal parts parameters (machine_start parts) (kept_by t journal) (later_than t journal) (cut_whole t)
