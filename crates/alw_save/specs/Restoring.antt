-- What the bytes of a checkpoint are read as: the machine that they leave, or the deciding fault.
use Rattle.std.specs.Prelude.{◌≡◌, ◌≢◌, ℕ, ◌+◌, ◌≤◌, true, Result, Ok, Err, List, ⊤}
use Rattle.alw_image.specs.Images.{node_count}
use Rattle.alw_image.specs.Numbers.{HasWords}
use Rattle.alw_image.specs.Parameters.{may_point}
use Rattle.alw_model.specs.Machine.{state}
use Rattle.alw_mesh.specs.Histories.{History, IsRun, stamps_of}
use Rattle.alw_mesh.specs.Limits.{most_steps}
use Rattle.alw_trace.specs.declared.values.Trace.{Trace}
use Rattle.alw_trace.specs.declared.faults.TextErr.{TextErr}
use Rattle.alw_trace.specs.declared.faults.TextErr.TheVariants as text
use Rattle.alw_trace.specs.Fronts.{IsFrontOf, IsNoFront, first_behind}
use Rattle.alw_save.specs.declared.faults.CutErr.{CutErr}
use Rattle.alw_save.specs.declared.faults.CutErr.TheVariants as cuts
use Rattle.alw_save.specs.declared.faults.RestoreErr.{RestoreErr}
use Rattle.alw_save.specs.declared.faults.RestoreErr.TheVariants.{Text, DoesNotFit, NotLegal, StateDiffers, NoMemory}
use Rattle.alw_save.specs.Cuts.{TraceIsSound, IsNoCut}
use Rattle.alw_save.specs.Checkpoints.{save_title, state_part, checkpoint_text}
use Rattle.alw_save.specs.Differences.{DiffersAt, ended_lines}

-- a trace under its parameters with this evict
abbrev pub with_evict : Trace → ℕ → Trace
with_evict trace evict = record {
  image = trace.image;
  params = record { pointers = trace.params.pointers; sets = trace.params.sets; limit = trace.params.limit; evict = evict };
  journal = trace.journal;
}

-- the bytes are the checkpoint of a machine with this evict, of an image of 32-bit words, whose nodes have no more stamps together than the most, and
-- whose entries may have as many pointers as they have
pub record IsCheckpoint (bytes : List ℕ) (evict : ℕ) (machine : History) : Type 0 where
  pub evict_is : machine.parameters.evict ≡ evict
  pub run : IsRun machine
  pub fits : stamps_of machine.image machine.parameters ≤ most_steps
  pub points : may_point (node_count machine.image) machine.parameters.pointers ≡ true
  pub words : HasWords machine.image
  pub text : bytes ≡ checkpoint_text machine.image machine.parameters machine.journal

-- the lines up to the last entry are those of a trace, of which, with this evict, this holds, and of what stands behind them
pub record TextIsReadAs (bytes : List ℕ) (evict : ℕ) (Holds : Trace → List ℕ → Type 0) : Type 0 where
  pub trace : Trace
  pub rest : List ℕ
  pub front : IsFrontOf save_title bytes trace rest
  pub holds : Holds (with_evict trace evict) rest

-- its entries are legal, and a line behind them isn't the one that their state gives, the first such one
pub record IsAnotherState (line : ℕ) (trace : Trace) (rest : List ℕ) : Type 0 where
  pub sound : TraceIsSound trace
  pub agreed : ℕ
  pub differs : DiffersAt (ended_lines (state_part trace.image (state trace.image trace.params trace.journal))) (ended_lines rest) agreed
  pub place : line ≡ first_behind trace + agreed

-- it leaves no machine, as a cut doesn't
abbrev pub LeavesNone : CutErr → Trace → List ℕ → Type 0
LeavesNone fault trace rest = IsNoCut trace fault

-- what `restore` answers to bytes
abbrev pub Restores : List ℕ → ℕ → Result History RestoreErr → Type 0
Restores bytes evict (Ok machine) = IsCheckpoint bytes evict machine
Restores bytes evict (Err (Text fault)) = (fault ≢ text.NoMemory) × IsNoFront save_title bytes fault
Restores bytes evict (Err (DoesNotFit number most)) = TextIsReadAs bytes evict (LeavesNone (cuts.DoesNotFit number most))
Restores bytes evict (Err (NotLegal k)) = TextIsReadAs bytes evict (LeavesNone (cuts.NotLegal k))
Restores bytes evict (Err (StateDiffers line)) = TextIsReadAs bytes evict (IsAnotherState line)
Restores bytes evict (Err NoMemory) = ⊤

-- ---- the errors of what it calls

abbrev pub fault_of_text : TextErr → RestoreErr
fault_of_text text.NoMemory = NoMemory
fault_of_text fault = Text fault

abbrev pub fault_of_cut : CutErr → RestoreErr
fault_of_cut (cuts.DoesNotFit number most) = DoesNotFit number most
fault_of_cut (cuts.NotLegal k) = NotLegal k
fault_of_cut cuts.NoMemory = NoMemory
