-- The command `resume`.
use Rattle.std.specs.Prelude.{◌≡◌, ℕ, true, List, ◌++◌, Err}
use Rattle.alw_msg.specs.declared.events.Entry.{Entry}
use Rattle.alw_mesh.specs.Histories.{History}
use Rattle.alw_sched.specs.Schedules.{MachineIsSeeded}
use Rattle.alw_config.specs.declared.commands.Form.{Form}
use Rattle.alw_save.specs.declared.faults.RestoreErr.TheVariants as restore
use Rattle.alw_save.specs.Restoring.{IsCheckpoint, Restores}
use Rattle.alw_answers.specs.declared.answers.InputErr.{InputErr}
use Rattle.alw_answers.specs.declared.answers.InputErr.TheVariants as reason
use Rattle.alw_answers.specs.declared.outputs.Output.{Output}
use Rattle.alw_answers.specs.Outputs.{is_run}
use Rattle.alw_runs.specs.Forms.{IsTold}
use Rattle.alw_answers.specs.Tasks.{Task}

-- a machine goes on by the draws of a seed, which begin anew, to one with this journal, which begins with its own
pub record GoesOnBySeed (machine : History) (seed : ℕ) (journal : List Entry) : Type 0 where
  pub later : List Entry
  pub begins : journal ≡ machine.journal ++ later
  pub seeded : MachineIsSeeded machine seed (record machine { journal = journal })

-- the bytes are the checkpoint of a machine, which went on to an end: the whole journal is a coherent run
pub record Resumes (seed evict : ℕ) (form : Form) (bytes : List ℕ) (output : Output) : Type 0 where
  pub machine : History
  pub checkpoint : IsCheckpoint bytes evict machine
  pub goes_on : GoesOnBySeed machine seed output.journal
  pub told : IsTold machine.image machine.parameters form output
  pub merged : output.merged ≡ 0

-- the bytes are no checkpoint
abbrev pub IsNoCheckpoint : ℕ → List ℕ → InputErr → Type 0
IsNoCheckpoint evict bytes (reason.Text fault) = Restores bytes evict (Err (restore.Text fault))
IsNoCheckpoint evict bytes (reason.LimitDoesNotFit number most) = Restores bytes evict (Err (restore.DoesNotFit number most))
IsNoCheckpoint evict bytes (reason.NotLegal k) = Restores bytes evict (Err (restore.NotLegal k))
IsNoCheckpoint evict bytes (reason.StateDiffers line) = Restores bytes evict (Err (restore.StateDiffers line))
IsNoCheckpoint evict bytes _ = ⊥

-- the bytes are a checkpoint
pub record IsSomeCheckpoint (evict : ℕ) (bytes : List ℕ) : Type 0 where
  pub machine : History
  pub is : IsCheckpoint bytes evict machine

abbrev pub resume_task : ℕ → ℕ → Form → Task
resume_task seed evict form = record {
  reads = true;
  Makes = Resumes seed evict form;
  Refuses = IsNoCheckpoint evict;
  Accepts = IsSomeCheckpoint evict;
  is_done = is_run;
}
