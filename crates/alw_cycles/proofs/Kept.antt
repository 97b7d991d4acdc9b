-- That a trace whose times are asked for, where it is finished, and an image that is to be run by time, are carried out.
use Rattle.std.proofs.Common.{◌≡◌, List, ℕ, Some, None, sym, ◌∙◌}
use Rattle.alw_image.specs.Faults.{image_fault}
use Rattle.alw_image.specs.Parameters.{Parameters}
use Rattle.alw_mesh.specs.Limits.{most_timed_steps}
use Rattle.alw_times.specs.declared.costs.Costs.{Costs}
use Rattle.alw_config.specs.declared.commands.TimeForm.{TimeForm}
use Rattle.alw_config.specs.declared.commands.TimedForm.{TimedForm}
use Rattle.alw_answers.specs.declared.answers.InputErr.{InputErr}
use Rattle.alw_answers.specs.declared.answers.InputErr.TheVariants as reason
use Rattle.alw_answers.proofs.Kept.{IsKept, ran}
use Rattle.alw_runs.proofs.Kept.{replay_unrefused}
use Rattle.alw_cycles.specs.Timing.{time_task}
use Rattle.alw_cycles.specs.ByTime.{IsNoRunByTime, by_time_task}

pub time_kept : (costs : Costs) (form : TimeForm) → IsKept (time_task costs form)
time_kept costs form = record {
  finished = λ bytes output made accepted. ran output.ending made.told.ended made.told.ending;
  unrefused = λ bytes fault refused accepted. replay_unrefused most_timed_steps bytes fault refused accepted;
}

by_time_unrefused : (bytes : List ℕ) (fault : InputErr) → IsNoRunByTime bytes fault → image_fault bytes ≡ None → ⊥
by_time_unrefused bytes (reason.Image fault) refused accepted = absurd (let e : Some fault ≡ None = sym refused ∙ accepted in cc)
by_time_unrefused bytes _ refused accepted = refused

pub by_time_kept : (costs : Costs) (params : Parameters) (form : TimedForm) → IsKept (by_time_task costs params form)
by_time_kept costs params form = record {
  finished = λ bytes output made accepted. ran output.ending made.told.ended made.told.ending;
  unrefused = λ bytes fault refused accepted. by_time_unrefused bytes fault refused accepted;
}
