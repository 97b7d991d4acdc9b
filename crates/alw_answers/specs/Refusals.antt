-- Why a command isn't carried out, of what the functions that it calls answer.
use Rattle.std.specs.Prelude.{◌≡◌, ℕ, Some, List}
use Rattle.sparc_asm.specs.declared.faults.AsmErr.{AsmErr}
use Rattle.sparc_asm.specs.declared.faults.AsmErr.TheVariants as asm
use Rattle.alw_image.specs.declared.faults.ImageErr.{ImageErr}
use Rattle.alw_image.specs.declared.faults.ImageErr.TheVariants as image
use Rattle.alw_trace.specs.declared.faults.TextErr.{TextErr}
use Rattle.alw_trace.specs.declared.faults.TextErr.TheVariants as text
use Rattle.alw_mesh.specs.declared.errors.FitErr.{FitErr}
use Rattle.alw_mesh.specs.declared.errors.FitErr.TheVariants as fits
use Rattle.alw_image.specs.Faults.{image_fault}
use Rattle.alw_answers.specs.declared.answers.InputErr.{InputErr}
use Rattle.alw_answers.specs.declared.answers.InputErr.TheVariants as reason
use Rattle.alw_answers.specs.declared.outputs.Refusal.{Refusal}
use Rattle.alw_answers.specs.declared.outputs.Refusal.TheVariants.{NoMemory, Fault}

abbrev pub refusal_of_asm : AsmErr → Refusal
refusal_of_asm asm.NoMemory = NoMemory
refusal_of_asm fault = Fault (reason.Asm fault)

abbrev pub refusal_of_image : ImageErr → Refusal
refusal_of_image image.NoMemory = NoMemory
refusal_of_image fault = Fault (reason.Image fault)

abbrev pub refusal_of_text : TextErr → Refusal
refusal_of_text text.NoMemory = NoMemory
refusal_of_text fault = Fault (reason.Text fault)

abbrev pub refusal_of_fit : FitErr → Refusal
refusal_of_fit (fits.DoesNotFit number most) = Fault (reason.LimitDoesNotFit number most)
refusal_of_fit fits.NoMemory = NoMemory

-- the bytes are no image
abbrev pub IsNoImage : List ℕ → InputErr → Type 0
IsNoImage bytes (reason.Image fault) = image_fault bytes ≡ Some fault
IsNoImage bytes _ = ⊥
