-- The command `dis`.
use Rattle.std.specs.Prelude.{◌≡◌, ℕ, true, None, List}
use Rattle.alw_image.specs.Faults.{image_in, image_fault}
use Rattle.alw_image.specs.Images.{IsImage, spelling}
use Rattle.alw_image.specs.Numbers.{HasWords}
use Rattle.alw_source.specs.Sources.{source_of}
use Rattle.alw_answers.specs.declared.outputs.Ending.TheVariants.{Fine}
use Rattle.alw_answers.specs.declared.outputs.Output.{Output}
use Rattle.alw_answers.specs.Outputs.{IsText, is_fine}
use Rattle.alw_answers.specs.Refusals.{IsNoImage}
use Rattle.alw_answers.specs.Tasks.{Task}

-- the bytes are an image, and the text is its source
pub record ReadsBack (bytes : List ℕ) (output : Output) : Type 0 where
  pub accepted : image_fault bytes ≡ None
  pub spelled : bytes ≡ spelling (image_in bytes)
  pub image : IsImage (image_in bytes)
  pub words : HasWords (image_in bytes)
  pub text : IsText output (source_of (image_in bytes)) Fine

abbrev pub dis_task : Task
dis_task = record { reads = true; Makes = ReadsBack; Refuses = IsNoImage; Accepts = λ bytes. image_fault bytes ≡ None; is_done = is_fine }
