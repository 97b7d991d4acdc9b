-- What upper crates use of a Ready context's turn, by the ranges of the parameters.
use Rattle.std.proofs.Common.{◌≡◌, ◌≢◌, ℕ, ◌<◌, true, None, [], ◌∷◌}
use Rattle.alw_image.specs.declared.parts.Parts.{Parts}
use Rattle.alw_image.specs.Images.{node_count, IsImage}
use Rattle.alw_image.specs.Parameters.{Parameters, AreParameters}
use Rattle.alw_msg.specs.declared.events.Event.TheVariants.{Instr}
use Rattle.alw_msg.specs.declared.contexts.Status.TheVariants.{Ready}
use Rattle.alw_model.specs.NodeStates.{stamp_of}
use Rattle.alw_model.specs.NodeSteps.{Stepped}
use Rattle.alw_model.specs.Machine.{MachineState, IsNext, node_at, is_enabled, stepped_by}
use Rattle.law_machine.proofs.MachineRuns.{IsKept}
use Rattle.law_turns.specs.Turns.{IsAtRest, ServesTurn}
use Rattle.law_turns.specs.Orders.{entry_for}
use Rattle.law_turns.proofs.Stages.{heft_of, own}
use Rattle.law_turns.proofs.Instructions.{Turned, Does}
use Rattle.law_turns.proofs.Means.{means_of}
use Rattle.law_turns.proofs.Served as served

module _ (parts : Parts) (image : IsImage parts) (one : parts.contexts ≡ 1) (parameters : Parameters) (are : AreParameters parameters) where
  pub can_run : (c : ℕ) (here : c < node_count parts) (s : MachineState) (kept : IsKept parts parameters s) → (own s c).status ≡ Ready → is_enabled parts parameters s (Instr (record { 0 = c })) ≡ true
  can_run = served.can_run parts image one parameters (means_of parameters are)

  module _ (c : ℕ) (here : c < node_count parts) (s : MachineState) (kept : IsKept parts parameters s) (light : heft_of parts s ≡ 0) (ready : (own s c).status ≡ Ready) where
    abbrev pub stamp : ℕ
    stamp = stamp_of (node_at s c).clock None

    abbrev pub stepped : Stepped
    stepped = stepped_by parts parameters s (Instr (record { 0 = c }))

    pub does : Does parts parameters c stamp (node_at s c) stepped
    does = served.does parts image one parameters (means_of parameters are) c here s kept light ready

  pub served_hit : (s : MachineState) (kept : IsKept parts parameters s) (light : heft_of parts s ≡ 0) (c : ℕ) (here : c < node_count parts) (ready : (own s c).status ≡ Ready) → ((m : ℕ) → m ≢ c → (own s m).hold ≡ None)
      → IsNext parts parameters s (entry_for parts s (Instr (record { 0 = c }))) → Turned parts parameters c (stamp c here s kept light ready) (node_at s c) (stepped c here s kept light ready)
      → ServesTurn parts parameters s c (entry_for parts s (Instr (record { 0 = c })) ∷ [])
  served_hit = served.served_hit parts image one parameters (means_of parameters are)

  pub free_at : (s : MachineState) → IsKept parts parameters s → IsAtRest parts s → (m : ℕ) → (own s m).hold ≡ None
  free_at = served.free_at parts image one parameters (means_of parameters are)
