-- The command `run` by the timed schedule.
use Rattle.std.specs.Prelude.{◌≡◌, ℕ, true, None, Some, List}
use Rattle.alw_image.specs.Faults.{image_in, image_fault}
use Rattle.alw_image.specs.Images.{spelling}
use Rattle.alw_image.specs.Parameters.{Parameters}
use Rattle.alw_model.specs.declared.ends.Ended.{Ended}
use Rattle.alw_model.specs.Ends.{IsEnd}
use Rattle.alw_model.specs.Headline.{IsScheduled}
use Rattle.alw_mesh.specs.Histories.{History, IsRun}
use Rattle.alw_mesh.specs.Limits.{most_timed_steps}
use Rattle.alw_times.specs.declared.costs.Costs.{Costs}
use Rattle.alw_timing.specs.declared.timing.Tells.{Tells}
use Rattle.alw_timing.specs.declared.timing.Tells.TheVariants as tells
use Rattle.alw_due.specs.Due.{IsTimedRun, MachineIsTimed}
use Rattle.alw_config.specs.declared.commands.TimedForm.{TimedForm}
use Rattle.alw_config.specs.declared.commands.TimedForm.TheVariants.{Run, Time}
use Rattle.alw_answers.specs.declared.answers.InputErr.{InputErr}
use Rattle.alw_answers.specs.declared.answers.InputErr.TheVariants as reason
use Rattle.alw_answers.specs.declared.outputs.Output.{Output}
use Rattle.alw_answers.specs.Outputs.{is_run}
use Rattle.alw_answers.specs.Tasks.{Task}
use Rattle.alw_runs.specs.Forms.{TextOf, IsToldBy, run_text, output_with}
use Rattle.alw_runs.specs.Running.{parameters_in}
use Rattle.alw_cycles.specs.Timing.{time_text, tells_by}

-- a timed run, in a form: as any run, or its times by these costs
unfoldable pub timed_text : Costs → TimedForm → TextOf
timed_text costs (Run form) = run_text form
timed_text costs (Time form) = time_text costs form

-- the bytes are an image, which was run to an end by the timed schedule of these costs
pub record RunsByTime (costs : Costs) (parameters : Parameters) (form : TimedForm) (bytes : List ℕ) (output : Output) : Type 0 where
  pub accepted : image_fault bytes ≡ None
  pub spelled : bytes ≡ spelling (image_in bytes)
  pub told : IsToldBy most_timed_steps (timed_text costs form) (image_in bytes) parameters output
  pub scheduled : IsScheduled (image_in bytes) parameters output.journal
  pub timed : IsTimedRun (image_in bytes) parameters costs output.journal
  pub merged : output.merged ≡ 0

-- the bytes are no image
abbrev pub IsNoRunByTime : List ℕ → InputErr → Type 0
IsNoRunByTime bytes (reason.Image fault) = image_fault bytes ≡ Some fault
IsNoRunByTime bytes _ = ⊥

-- every image is accepted, whatever the limit
abbrev pub by_time_task : Costs → Parameters → TimedForm → Task
by_time_task costs parameters form = record {
  reads = true;
  Makes = λ bytes. RunsByTime costs (parameters_in parameters bytes) form bytes;
  Refuses = IsNoRunByTime;
  Accepts = λ bytes. image_fault bytes ≡ None;
  is_done = is_run;
}

-- ---- for private clauses

-- what a form tells beside the clocks
abbrev pub tells_for : TimedForm → Tells
tells_for (Run form) = tells.Nothing
tells_for (Time form) = tells_by form

-- an output tells, in a form, a machine that the timed schedule of these costs has taken on from another, up to an end
pub record TellsByTime (before : History) (costs : Costs) (form : TimedForm) (output : Output) : Type 0 where
  pub after : History
  pub ended : Ended
  pub timed : MachineIsTimed before costs after
  pub run : IsRun after
  pub end : IsEnd after.image after.parameters after.journal ended
  pub told : output ≡ output_with after ended (timed_text costs form after.image after.parameters after.journal ended)
