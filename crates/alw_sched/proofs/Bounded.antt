-- The run of a seed evicts in time: only at nodes with a context that hasn't halted. So it is bounded.
use Rattle.std.proofs.Common.{◌≡◌, ℕ, zero, suc, ◌+◌, ◌*◌, ◌≤◌, Bool, true, false, cond, not, ◌&&◌, Some, List, [], ◌∷◌, ◌++◌, slice_get, slice_index_or, length, ◌%◌, refl, subst, IsTrue}
use Rattle.std.specs.List.{list_all}
use Rattle.alw_msg.specs.declared.events.Event.{Event}
use Rattle.alw_msg.specs.declared.events.Entry.{Entry}
use Rattle.alw_msg.specs.Events.{is_evict}
use Rattle.alw_image.specs.declared.parts.Parts.{Parts}
use Rattle.alw_image.specs.Images.{IsImage, node_count}
use Rattle.alw_image.specs.Parameters.{Parameters, AreParameters}
use Rattle.alw_model.specs.Contexts.{all_halted}
use Rattle.alw_model.specs.NodeStates.{NodeState}
use Rattle.alw_model.specs.Machine.{MachineState, machine_start, no_node, has_halted, step, after, state, IsNext, IsLegal}
use Rattle.alw_model.proofs.Journals.{and_parts, legal_push}
use Rattle.alw_mesh.specs.Histories.{History, begun, grown, entry_of, state_of, may_be_next}
use Rattle.alw_mesh.specs.Ends.{next_events}
use Rattle.law_machine.specs.Endings.{AtEach, EvictsInTime}
use Rattle.law_machine.proofs.RunFacts.{always_in_time}
use Rattle.alw_num.specs.Draws.{drawn, drawn_number}
use Rattle.alw_sched.specs.Schedules.{picked, is_evicted, asked_node, asked_eviction, EventsAreDrawn, IsSeededRun}
use Rattle.alw_sched.proofs.Picking.{picked_may}
use Rattle.alw_sched.proofs.Seeded.{main_at}

-- ---- an eviction is of a node with a context that hasn't halted

all_at : (nodes : List NodeState) (n : ℕ) → list_all (λ (node : NodeState). all_halted node.slots) nodes ≡ true → all_halted (slice_index_or nodes n no_node).slots ≡ true
all_at [] n all = refl
all_at (node ∷ rest) zero all = (and_parts _ _ all).0
all_at (node ∷ rest) (suc n) all = all_at rest n (and_parts _ _ all).1

both_ways : (b : Bool) → not b ≡ true → b ≡ true → ⊥
both_ways true none every = absurd (cc)
both_ways false none every = absurd (cc)

live_of : (a b c : Bool) → (a && (b && c)) ≡ true → b ≡ true
live_of a b c is = (and_parts b c (and_parts a (b && c) is).1).0

in_time : (h : History) (number : ℕ) (event : Event) → picked h number ≡ Some event → IsTrue (has_halted (state_of h)) → is_evict event ≡ false
in_time h number event pick halted = by_test (is_evicted h number) refl pick
  where
    by_test : (b : Bool) → is_evicted h number ≡ b → cond b (Some (asked_eviction h number)) (slice_get (next_events h) (number % length (next_events h))) ≡ Some event → is_evict event ≡ false
    by_test true is pick = absurd (both_ways _ (live_of _ _ _ is) (all_at (state_of h).nodes (asked_node h number) halted))
    by_test false is pick = main_at h (number % length (next_events h)) event pick

-- ---- a journal with an event more

module _ (parts : Parts) (parameters : Parameters) (Fact : MachineState → Entry → Type 0) where
  each_more : (machine : MachineState) (journal : List Entry) (entry : Entry) → AtEach Fact parts parameters machine journal →
      Fact (after parts parameters machine journal) entry → AtEach Fact parts parameters machine (journal ++ entry ∷ [])
  each_more machine [] entry each one = (one, tt)
  each_more machine (first ∷ rest) entry each one = (each.0, each_more (step parts parameters machine first.event) rest entry each.1 one)

next_is : (h : History) (event : Event) → may_be_next h event ≡ true → IsNext h.image h.parameters (state_of h) (entry_of h event)
next_is h event may = let parts = and_parts _ _ may in record { enabled = parts.0; within = parts.1; stamp = refl }

-- a journal is legal, and evicts in time
pub record IsInTime (h : History) : Type 0 where
  pub legal : IsLegal h.image h.parameters h.journal
  pub evicts : EvictsInTime h.image h.parameters h.journal

grows : (h : History) (x : ℕ) (event : Event) → IsInTime h → picked h (drawn_number (drawn x)) ≡ Some event → IsInTime (grown h event)
unfolding state
grows h x event so_far pick = record {
  legal = legal_push h.image h.parameters h.journal (entry_of h event) so_far.legal (next_is h event (picked_may h (drawn_number (drawn x)) event pick));
  evicts = each_more h.image h.parameters (λ machine entry. IsTrue (has_halted machine) → is_evict entry.event ≡ false) (machine_start h.image) h.journal (entry_of h event) so_far.evicts
      (in_time h (drawn_number (drawn x)) event pick);
}

all_in_time : (h : History) (x : ℕ) (events : List Event) (end : History) (y : ℕ) → EventsAreDrawn h x events end y → IsInTime h → IsInTime end
all_in_time h x [] end y are so_far = subst IsInTime are.0 so_far
all_in_time h x (event ∷ rest) end y are so_far = all_in_time (grown h event) (drawn x) rest end y are.1 (grows h x event so_far are.0.pick)

-- ---- the bound

pub seeded_bounded : (image : Parts) → IsImage image → (parameters : Parameters) → AreParameters parameters → (seed : ℕ) (journal : List Entry) → IsSeededRun image parameters seed journal →
    length journal ≤ node_count image * parameters.limit + 2 * (node_count image * image.per_node)
seeded_bounded image is parameters are seed journal seeded =
    let all = all_in_time (begun image parameters) seed seeded.events (record { image = image; parameters = parameters; journal = journal; joined = 0 }) seeded.last seeded.drawn_are
    (record { legal = tt; evicts = tt }) in
    always_in_time image is parameters are journal all.legal all.evicts
