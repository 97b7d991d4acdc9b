-- One event as a tally is told of it.
use Rattle.std.specs.Prelude.{◌≡◌, ℕ, Bool, List}
use Rattle.sparc_table.specs.declared.outcomes.Outcome.TheVariants.{Trap}
use Rattle.alw_msg.specs.declared.messages.Msg.{Msg}
use Rattle.alw_msg.specs.Events.{node_of}
use Rattle.alw_model.specs.declared.steps.Did.{Did}
use Rattle.alw_model.specs.declared.steps.Did.TheVariants.{Turn}
use Rattle.alw_model.specs.Contexts.{slot_at}
use Rattle.alw_model.specs.NodeStates.{NodeState}
use Rattle.alw_model.specs.Runs as runs
use Rattle.alw_model.specs.Counts.{uses_hold}
use Rattle.alw_tally.specs.declared.moments.Moment.{Moment}

-- the PC is that of the slot that ran, where the event was a trapping turn
abbrev pub HasPc : NodeState → ℕ → Did → Type 0
HasPc before pc (Turn slot (Trap tt)) = pc ≡ (slot_at before.slots slot).regs.pc
HasPc before pc _ = Unit {0}

-- what a tally is told of an event is that of an event of a run: its moment, whether it ended a hold, the PC where it trapped, and what it sent
pub record MomentIsTold (told : Moment) (used : Bool) (pc : ℕ) (sends : List (ℕ × Msg)) (moment : runs.Moment) : Type 0 where
  pub node : node_of told.entry.event ≡ runs.number_of moment
  pub did : told.did ≡ moment.stepped.did
  pub taken : told.taken ≡ moment.taken
  pub used_is : used ≡ uses_hold moment.before moment.stepped.did
  pub pc_is : HasPc moment.before pc moment.stepped.did
  pub sends_are : sends ≡ moment.stepped.sends
