-- What is read of a node before an event, and what its moment says.
use Rattle.std.proofs.Common.{◌≡◌, ℕ, ◌*◌, ◌<◌, ◌≤◌, ◌^◌, true, false, Option, None, Some, List, length, refl, ap, subst, ◌∙◌, arith}
use Rattle.std.proofs.lemmas.Bool.{ltb-true}
use Rattle.std.proofs.lemmas.List.{get_or-set_same}
use Rattle.std.proofs.Math.ListN.{get_or-eq_default}
use Rattle.std.proofs.lemmas.Nat.{mul-le}
use Rattle.alw_msg.specs.declared.events.Event.{Event}
use Rattle.alw_msg.specs.declared.events.Event.TheVariants.{Instr, Handle, Deliver, Evict}
use Rattle.alw_msg.specs.declared.events.Entry.{Entry}
use Rattle.alw_msg.specs.Events.{node_of}
use Rattle.alw_msg.specs.Statuses.{is_ready}
use Rattle.alw_image.specs.Images.{node_count}
use Rattle.alw_model.specs.Contexts.{Slot, no_slot, running}
use Rattle.alw_model.specs.Machine.{MachineState, no_node, node_at, stepped_by, is_enabled, IsNext}
use Rattle.alw_model.proofs.Journals.{and_parts, state_push}
use Rattle.alw_proc.proofs.Keeping.{runs_within}
use Rattle.law_machine.proofs.Bound.{sets_range}
use Rattle.law_machine.proofs.MachineRuns.{always_kept}
use Rattle.law_machine.proofs.RunFacts.{always_bounded}
use Rattle.alw_mesh.specs.Histories.{History, IsRun, state_of, may_be_next, entry_of, grown}
use Rattle.alw_mesh.specs.Moments.{moment_in}
use Rattle.alw_mesh.specs.Readings.{node_in}
use Rattle.alw_mesh.proofs.Journals.{stamps_within}
use Rattle.alw_mesh.proofs.OneNode.{few_nodes}
use Rattle.alw_waits.specs.Waits.{asked_by, asked_in}
use Rattle.alw_timing.specs.Timing.{is_ready_at, asked_of}

-- no slot is Ready where there is none
pub not_ready : (slots : List Slot) (slot : ℕ) → length slots ≤ slot → is_ready_at slots slot ≡ false
not_ready slots slot le = ap (λ (s : Slot). is_ready s.status) (get_or-eq_default slots no_slot le)

module _ (h : History) (run : IsRun h) where
  -- how many slots a node has
  pub slots_are : (n : ℕ) → n < node_count h.image → length (node_in h n).slots ≡ h.image.contexts
  slots_are n here = ((always_kept h.image run.image h.parameters run.parameters h.journal run.legal).has.contexts n here).size

  -- the slot that runs exists
  pub slot_exists : (n : ℕ) → n < node_count h.image → (slot : ℕ) → running (node_in h n).slots (node_in h n).current ≡ Some slot → slot < h.image.contexts
  slot_exists n here slot runs = subst (λ (k : ℕ). slot < k) (slots_are n here) (runs_within (node_in h n).slots (node_in h n).current slot runs)

  -- a journal has few entries
  pub few_entries : length h.journal * 2 ^ 33 ≤ 2 ^ 63
  few_entries =
      let nodes = few_nodes h.image run.image in
      let sets = mul-le (node_count h.image) h.parameters.sets 256 4096 nodes (sets_range h.parameters run.parameters).1 in
      let lines = mul-le (node_count h.image) h.image.per_node 256 4096 nodes run.image.per_node.1 in
      omega (arith, always_bounded h.image run.image h.parameters run.parameters h.journal run.legal, stamps_within h.image h.parameters run.image run.parameters)

  -- the node of an event after it is what it leaves
  pub node_after : (event : Event) → node_of event < node_count h.image
      → node_in (grown h event) (node_of event) ≡ (stepped_by h.image h.parameters (state_of h) event).node
  node_after event here =
      let all = (always_kept h.image run.image h.parameters run.parameters h.journal run.legal).has.sound.standing.nodes in
      ap (λ (s : MachineState). node_at s (node_of event)) (state_push h.image h.parameters h.journal (entry_of h event))
      ∙ get_or-set_same (state_of h).nodes (node_of event) (stepped_by h.image h.parameters (state_of h) event).node no_node (rw all here)

-- the access that is asked for is the moment's
pub asked_is : (h : History) (event : Event) → asked_of h (running (node_in h (node_of event)).slots (node_in h (node_of event)).current) event ≡ asked_in h.image (moment_in h event) event
asked_is h (Instr at) = go (running (node_in h at.0).slots (node_in h at.0).current)
  where
    go : (slot : Option ℕ) → asked_of h slot (Instr at) ≡ asked_by h.image (moment_in h (Instr at)) slot
    go None = refl
    go (Some slot) = refl
asked_is h (Handle at) = go (running (node_in h at.0).slots (node_in h at.0).current)
  where
    go : (slot : Option ℕ) → asked_of h slot (Handle at) ≡ None
    go None = refl
    go (Some slot) = refl
asked_is h (Deliver from to) = go (running (node_in h to.0).slots (node_in h to.0).current)
  where
    go : (slot : Option ℕ) → asked_of h slot (Deliver from to) ≡ None
    go None = refl
    go (Some slot) = refl
asked_is h (Evict at set) = go (running (node_in h at.0).slots (node_in h at.0).current)
  where
    go : (slot : Option ℕ) → asked_of h slot (Evict at set) ≡ None
    go None = refl
    go (Some slot) = refl

-- an event that comes next is of a node that exists
pub next_node : (h : History) (entry : Entry) → IsNext h.image h.parameters (state_of h) entry → node_of entry.event < node_count h.image
next_node h entry next =
    let enabled = and_parts _ _ next.enabled in
    ltb-true (node_of entry.event) (node_count h.image) (and_parts _ _ enabled.1).0

-- and so is one that may be next
pub may_here : (h : History) (event : Event) → may_be_next h event ≡ true → node_of event < node_count h.image
may_here h event may =
    let enabled = and_parts _ _ (and_parts (is_enabled h.image h.parameters (state_of h) event) _ may).0 in
    ltb-true (node_of event) (node_count h.image) (and_parts _ _ enabled.1).0
