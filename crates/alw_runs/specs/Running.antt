-- The command `run`.
use Rattle.std.specs.Prelude.{◌≡◌, ℕ, ◌≤◌, true, None, Some, List}
use Rattle.alw_image.specs.Faults.{image_in, image_fault}
use Rattle.alw_image.specs.Images.{spelling, node_count}
use Rattle.alw_image.specs.Parameters.{Parameters, parameters_for}
use Rattle.alw_model.specs.Headline.{IsScheduled}
use Rattle.alw_mesh.specs.Histories.{stamps_of}
use Rattle.alw_mesh.specs.Limits.{most_steps}
use Rattle.alw_sched.specs.Schedules.{IsSeededRun}
use Rattle.alw_config.specs.declared.commands.Form.{Form}
use Rattle.alw_answers.specs.declared.answers.InputErr.{InputErr}
use Rattle.alw_answers.specs.declared.answers.InputErr.TheVariants as reason
use Rattle.alw_answers.specs.declared.outputs.Output.{Output}
use Rattle.alw_answers.specs.Outputs.{is_run}
use Rattle.alw_runs.specs.Forms.{IsTold, IsTooMuch}
use Rattle.alw_answers.specs.Tasks.{Task}

-- parameters for the image that bytes are
abbrev pub parameters_in : Parameters → List ℕ → Parameters
parameters_in parameters bytes = parameters_for (node_count (image_in bytes)) parameters

-- the bytes are an image, which was run to an end by the schedule of a seed
pub record RunsBySeed (seed : ℕ) (parameters : Parameters) (form : Form) (bytes : List ℕ) (output : Output) : Type 0 where
  pub accepted : image_fault bytes ≡ None
  pub spelled : bytes ≡ spelling (image_in bytes)
  pub told : IsTold (image_in bytes) parameters form output
  pub scheduled : IsScheduled (image_in bytes) parameters output.journal
  pub seeded : IsSeededRun (image_in bytes) parameters seed output.journal
  pub merged : output.merged ≡ 0

-- the bytes are no image, or one that doesn't fit
abbrev pub IsNoRun : Parameters → List ℕ → InputErr → Type 0
IsNoRun parameters bytes (reason.Image fault) = image_fault bytes ≡ Some fault
IsNoRun parameters bytes (reason.LimitDoesNotFit number most) = (image_fault bytes ≡ None) × IsTooMuch most_steps (image_in bytes) parameters number most
IsNoRun parameters bytes _ = ⊥

abbrev pub run_task : ℕ → Parameters → Form → Task
run_task seed parameters form = record {
  reads = true;
  Makes = λ bytes. RunsBySeed seed (parameters_in parameters bytes) form bytes;
  Refuses = λ bytes. IsNoRun (parameters_in parameters bytes) bytes;
  Accepts = λ bytes. (image_fault bytes ≡ None) × (stamps_of (image_in bytes) (parameters_in parameters bytes) ≤ most_steps);
  is_done = is_run;
}
