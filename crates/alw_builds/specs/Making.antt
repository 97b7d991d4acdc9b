-- The command `gen`, which reads nothing.
use Rattle.std.specs.Prelude.{ℕ, false, ⊤}
use Rattle.alw_image.specs.Images.{IsImage, spelling}
use Rattle.alw_image.specs.Numbers.{HasWords}
use Rattle.alw_gen.specs.Workloads.{workload_of}
use Rattle.alw_answers.specs.declared.answers.InputErr.{InputErr}
use Rattle.alw_answers.specs.declared.outputs.Ending.TheVariants.{Fine}
use Rattle.alw_answers.specs.declared.outputs.Output.{Output}
use Rattle.alw_answers.specs.Outputs.{IsText, is_fine}
use Rattle.alw_answers.specs.Tasks.{Task}

-- which workload
pub record Asked : Type 0 where
  pub seed : ℕ
  pub width : ℕ
  pub height : ℕ
  pub size : ℕ

-- the text is the image of a workload
pub record Makes (asked : Asked) (output : Output) : Type 0 where
  pub image : IsImage (workload_of asked.seed asked.width asked.height asked.size)
  pub words : HasWords (workload_of asked.seed asked.width asked.height asked.size)
  pub text : IsText output (spelling (workload_of asked.seed asked.width asked.height asked.size)) Fine

-- it has no fault
abbrev pub HasNone : InputErr → Type 0
HasNone fault = ⊥

abbrev pub gen_task : Asked → Task
gen_task asked = record { reads = false; Makes = λ bytes. Makes asked; Refuses = λ bytes. HasNone; Accepts = λ bytes. ⊤; is_done = is_fine }
