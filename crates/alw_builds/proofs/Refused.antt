-- What a command's function answers where its source isn't assembled.
use Rattle.std.proofs.Common.{ℕ, List}
use Rattle.std.specs.Prelude.{Err}
use Rattle.sparc_asm.specs.declared.faults.AsmErr.{AsmErr}
use Rattle.sparc_asm.specs.declared.faults.AsmErr.TheVariants as asm
use Rattle.sparc_assemble.specs.Assembly.{assembled}
use Rattle.sparc_assemble.specs.Assembly as assembly
use Rattle.alw_answers.specs.declared.outputs.Output.{Output}
use Rattle.alw_answers.specs.Outputs.{Gives}
use Rattle.alw_answers.specs.Refusals.{refusal_of_asm}
use Rattle.alw_builds.specs.Assembling.{IsNoSource}

pub no_source : (Makes : Output → Type 0) (source : List ℕ) (fault : AsmErr) → assembly.Answers (assembled source) (Err fault) →
    Gives Makes (IsNoSource source) (Err (refusal_of_asm fault))
no_source Makes source asm.NoMemory is = tt
no_source Makes source (asm.Syntax line) is = ((λ same. absurd cc), is)
no_source Makes source (asm.UnknownName line) is = ((λ same. absurd cc), is)
no_source Makes source (asm.Redefined line) is = ((λ same. absurd cc), is)
no_source Makes source (asm.Range line) is = ((λ same. absurd cc), is)
no_source Makes source (asm.Unaligned line) is = ((λ same. absurd cc), is)
no_source Makes source (asm.Overlap line) is = ((λ same. absurd cc), is)
