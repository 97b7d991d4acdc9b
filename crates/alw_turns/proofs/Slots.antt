-- The slot that runs exists, and stays one.
use Rattle.std.proofs.Common.{◌≡◌, ℕ, ◌<◌, ◌==◌, nat_lt, IsTrue, Some, refl, subst}
use Rattle.std.proofs.lemmas.Bool.{ltb-true}
use Rattle.alw_num.specs.declared.addresses.NodeNo.{NodeNo}
use Rattle.alw_msg.specs.declared.events.Event.{Event}
use Rattle.alw_msg.specs.declared.events.Event.TheVariants.{Instr}
use Rattle.alw_image.specs.Images.{node_count}
use Rattle.alw_model.specs.Contexts.{running}
use Rattle.alw_model.specs.Machine.{is_enabled}
use Rattle.alw_model.proofs.Journals.{and_parts}
use Rattle.alw_proc.proofs.Keeping.{runs_within}
use Rattle.law_machine.proofs.MachineRuns.{always_kept}
use Rattle.alw_mesh.specs.Histories.{History, IsRun, state_of, may_be_next, grown}
use Rattle.alw_mesh.specs.Readings.{node_in}
use Rattle.alw_turns.specs.declared.sights.TurnBefore.{TurnBefore}
use Rattle.alw_turns.specs.Sights.{seen_of, IsSeenOf}

-- the node of an instruction that may be next exists
pub node_exists : (h : History) (node : NodeNo) → IsTrue (may_be_next h (Instr node)) → node.0 < node_count h.image
node_exists h node may =
    let enabled = and_parts (is_enabled h.image h.parameters (state_of h) (Instr node)) _ may in
    let here = and_parts (node.0 == node.0) _ enabled.0 in
    ltb-true node.0 (node_count h.image) (and_parts (nat_lt node.0 (node_count h.image)) _ here.1).0

-- the slot that runs exists
pub slot_exists : (h : History) → IsRun h → (n : ℕ) → n < node_count h.image → (slot : ℕ) → running (node_in h n).slots (node_in h n).current ≡ Some slot → slot < h.image.contexts
slot_exists h run n here slot runs =
    let kept = (always_kept h.image run.image h.parameters run.parameters h.journal run.legal).has.contexts n here in
    subst (λ (k : ℕ). slot < k) kept.size (runs_within (node_in h n).slots (node_in h n).current slot runs)

-- what was read before an event is of a slot of the machine after it
pub stays_seen : (h after : History) (event : Event) (node : NodeNo) (slot : ℕ) (seen : TurnBefore) → after ≡ grown h event → node.0 < node_count h.image → slot < h.image.contexts
    → seen ≡ seen_of h.image h.parameters node.0 (node_in h node.0) slot → IsSeenOf after seen
stays_seen h after event node slot seen is here within read = rw (is, read) (record { node = here; slot = within; need = refl })
