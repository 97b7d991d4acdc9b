-- What a command's function answers where its bytes are no image, or no text of a trace or a claim.
use Rattle.std.specs.Prelude.{◌≢◌, Err}
use Rattle.alw_image.specs.declared.faults.ImageErr.{ImageErr}
use Rattle.alw_image.specs.declared.faults.ImageErr.TheVariants as image
use Rattle.alw_trace.specs.declared.faults.TextErr.{TextErr}
use Rattle.alw_trace.specs.declared.faults.TextErr.TheVariants as text
use Rattle.alw_answers.specs.declared.answers.InputErr.{InputErr}
use Rattle.alw_answers.specs.declared.answers.InputErr.TheVariants as reason
use Rattle.alw_answers.specs.declared.outputs.Output.{Output}
use Rattle.alw_answers.specs.Outputs.{Gives}
use Rattle.alw_answers.specs.Refusals.{refusal_of_image, refusal_of_text}

module _ (Makes : Output → Type 0) (Refuses : InputErr → Type 0) where
  pub no_image : (fault : ImageErr) → (fault ≢ image.NoMemory → Refuses (reason.Image fault)) → Gives Makes Refuses (Err (refusal_of_image fault))
  no_image image.NoMemory why = tt
  no_image (image.Magic at) why = why (λ same. absurd cc)
  no_image (image.Version at) why = why (λ same. absurd cc)
  no_image (image.Short at) why = why (λ same. absurd cc)
  no_image (image.Trailing at) why = why (λ same. absurd cc)
  no_image (image.Range at) why = why (λ same. absurd cc)
  no_image (image.Order at) why = why (λ same. absurd cc)

  pub no_text : (fault : TextErr) → (fault ≢ text.NoMemory → Refuses (reason.Text fault)) → Gives Makes Refuses (Err (refusal_of_text fault))
  no_text text.NoMemory why = tt
  no_text (text.Syntax line) why = why (λ same. absurd cc)
  no_text (text.Range line) why = why (λ same. absurd cc)
  no_text (text.Image fault) why = why (λ same. absurd cc)
