-- That what a run by workers is made of, where it is accepted, is carried out.
use Rattle.std.proofs.Common.{◌≡◌, arith, ℕ, List, Some, None, sym, ◌∙◌}
use Rattle.alw_image.specs.Parameters.{Parameters}
use Rattle.alw_config.specs.declared.commands.Form.{Form}
use Rattle.alw_answers.specs.declared.answers.InputErr.{InputErr}
use Rattle.alw_answers.specs.declared.answers.InputErr.TheVariants as reason
use Rattle.alw_runs.specs.Running.{parameters_in}
use Rattle.alw_threads.specs.Working.{IsNotWorked, IsWorkable, work_task}
use Rattle.alw_answers.proofs.Kept.{IsKept, ran}

work_unrefused : (workers : ℕ) (params : Parameters) (bytes : List ℕ) (fault : InputErr) → IsNotWorked workers params bytes fault → IsWorkable workers params bytes → ⊥
work_unrefused workers params bytes (reason.Image fault) refused accepted = absurd (let e : Some fault ≡ None = sym refused ∙ accepted.accepted in cc)
work_unrefused workers params bytes (reason.LimitDoesNotFit number most) refused accepted = absurd (omega (arith, refused.1.above, accepted.fits))
work_unrefused workers params bytes (reason.WorkersDoNotFit number most) refused accepted = absurd (omega (arith, refused.1.1.above, accepted.few))
work_unrefused workers params bytes _ refused accepted = refused.1

pub work_kept : (workers : ℕ) (params : Parameters) (form : Form) → IsKept (work_task workers params form)
work_kept workers params form = record {
  finished = λ bytes output made accepted. ran output.ending made.told.ended made.told.ending;
  unrefused = λ bytes fault refused accepted. work_unrefused workers (parameters_in params bytes) bytes fault refused accepted;
}
