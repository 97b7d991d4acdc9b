-- The command `asm`.
use Rattle.std.specs.Prelude.{◌≡◌, ◌≢◌, ℕ, true, List, Ok, Err}
use Rattle.alw_image.specs.Images.{IsImage}
use Rattle.alw_image.specs.Numbers.{HasWords}
use Rattle.sparc_asm.specs.declared.faults.AsmErr.{AsmErr}
use Rattle.sparc_asm.specs.declared.faults.AsmErr.TheVariants as asm
use Rattle.sparc_assemble.specs.declared.assembling.Assembled.{Assembled}
use Rattle.sparc_assemble.specs.Assembly.{assembled}
use Rattle.alw_config.specs.declared.commands.AsmForm.{AsmForm}
use Rattle.alw_answers.specs.declared.answers.InputErr.{InputErr}
use Rattle.alw_answers.specs.declared.answers.InputErr.TheVariants as reason
use Rattle.alw_answers.specs.declared.outputs.Ending.TheVariants.{Fine}
use Rattle.alw_answers.specs.declared.outputs.Output.{Output}
use Rattle.alw_answers.specs.Outputs.{IsText, is_fine}
use Rattle.alw_answers.specs.Tasks.{Task}
use Rattle.alw_builds.specs.Listing.{assembled_text}

-- the source was assembled, to an image, and the text is its own
pub record Assembles (form : AsmForm) (source : List ℕ) (output : Output) : Type 0 where
  pub whole : Assembled
  pub right : assembled source ≡ Ok whole
  pub image : IsImage whole.image
  pub words : HasWords whole.image
  pub text : IsText output (assembled_text form whole) Fine

-- the fault of a source
abbrev pub IsNoSource : List ℕ → InputErr → Type 0
IsNoSource source (reason.Asm fault) = (fault ≢ asm.NoMemory) × (assembled source ≡ Err fault)
IsNoSource source _ = ⊥

abbrev pub asm_task : AsmForm → Task
asm_task form = record {
  reads = true;
  Makes = Assembles form;
  Refuses = IsNoSource;
  Accepts = λ source. (fault : AsmErr) → assembled source ≢ Err fault;
  is_done = is_fine;
}
