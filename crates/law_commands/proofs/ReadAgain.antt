-- The source that `dis` writes of an image is a source that `asm` assembles to that image.
use Rattle.std.proofs.Common.{◌≡◌, ◌≢◌, ℕ, ◌≤◌, List, length, sym, ap, subst, ◌∙◌}
use Rattle.std.specs.Prelude.{Ok, Err}
use Rattle.alw_image.specs.Images.{spelling}
use Rattle.alw_image.specs.Faults.{image_in}
use Rattle.sparc_asm.specs.declared.faults.AsmErr.{AsmErr}
use Rattle.sparc_assemble.specs.Assembly.{assembled}
use Rattle.sparc_assemble.specs.declared.assembling.Assembled.{Assembled}
use Rattle.alw_source.specs.Sources.{source_of}
use Rattle.law_sources.specs.ReadBack.{IsReadBack}
use Rattle.alw_config.specs.declared.commands.AsmForm.TheVariants.{Image}
use Rattle.alw_answers.specs.declared.outputs.Output.{Output}
use Rattle.alw_answers.specs.Limits.{most_input}
use Rattle.alw_builds.specs.Assembling.{Assembles}
use Rattle.alw_builds.specs.ReadingBack.{ReadsBack}

module _ (bytes : List ℕ) (output : Output) (made : ReadsBack bytes output) (back : IsReadBack (image_in bytes)) where
  -- what the source is assembled to
  right : assembled output.text ≡ Ok back.whole
  right = ap assembled made.text.text_is ∙ back.right

  pub accepted : (fault : AsmErr) → assembled output.text ≢ Err fault
  accepted fault refused = absurd (let e : Ok back.whole ≡ Err fault = sym right ∙ refused in cc)

  pub same : (again : Output) → Assembles Image output.text again → again.text ≡ bytes
  same again assembles =
      let found : Ok assembles.whole ≡ Ok back.whole = sym assembles.right ∙ right in
      let one : assembles.whole ≡ back.whole = cc in
      assembles.text.text_is ∙ (ap (λ (whole : Assembled). spelling whole.image) one ∙ (ap spelling back.image ∙ sym made.spelled))

  pub few : length (source_of (image_in bytes)) ≤ 268435456 → length output.text ≤ most_input
  few fits = subst (λ (text : List ℕ). length text ≤ most_input) (sym made.text.text_is) fits
