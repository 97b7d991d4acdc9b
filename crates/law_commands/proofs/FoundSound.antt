-- What a run claims is a text that `audit` accepts and finds sound.
use Rattle.std.proofs.Common.{◌≡◌, ℕ, ◌≤◌, List, ◌++◌, length, refl, subst, arith}
use Rattle.std.specs.Prelude.{Result, Ok, Err}
use Rattle.alw_msg.specs.declared.events.Entry.{Entry}
use Rattle.alw_image.specs.declared.parts.Parts.{Parts}
use Rattle.alw_image.specs.Parameters.{Parameters}
use Rattle.alw_model.specs.declared.ends.Ended.{Ended}
use Rattle.alw_model.specs.Runs.{turns_of}
use Rattle.law_machine.proofs.TurnCounts.{always_few_turns}
use Rattle.alw_trace.specs.declared.values.Claim.{Claim}
use Rattle.alw_trace.specs.Readings.{most_turns}
use Rattle.alw_audit.specs.declared.verdicts.Verdict.{Verdict}
use Rattle.alw_audit.specs.declared.verdicts.Verdict.TheVariants.{Sound}
use Rattle.alw_audit.specs.Claims.{claim_of}
use Rattle.alw_audit.proofs.ClaimForms.{runs_claim}
use Rattle.alw_audit.proofs.ClaimTypes.{runs_types}
use Rattle.alw_audit.proofs.RunClaims.{runs_sound}
use Rattle.alw_config.specs.declared.commands.Form.TheVariants as forms
use Rattle.alw_answers.specs.declared.answers.InputErr.TheVariants as reason
use Rattle.alw_answers.specs.declared.outputs.Ending.TheVariants.{Fine}
use Rattle.alw_answers.specs.declared.outputs.Output.{Output}
use Rattle.alw_answers.specs.declared.outputs.Refusal.{Refusal}
use Rattle.alw_answers.specs.declared.outputs.Refusal.TheVariants as refusal
use Rattle.alw_answers.specs.Outputs.{Gives, IsText}
use Rattle.alw_config.specs.declared.commands.AuditForm.{AuditForm}
use Rattle.alw_checks.specs.Auditing.{audit_text, ending_of_verdict, told_before, sound_line, Audits, SpellsClaim, IsNoClaim, IsSoundText, FindsSound}
use Rattle.alw_mesh.specs.Limits.{most_steps}
use Rattle.alw_runs.specs.Forms.{run_text}
use Rattle.alw_runs.specs.Replaying.{IsRunThatFits}
use Rattle.alw_checks.proofs.Kept.{claim_read, one_claim, sound_so}

module _ (image : Parts) (p : Parameters) (journal : List Entry) (e : Ended) (is : IsRunThatFits most_steps image p journal e) where
  few_turns : length (turns_of image p journal) ≤ most_turns
  few_turns = omega (arith, always_few_turns image is.image_is p is.parameters_are journal is.run.legal, is.fits)

  abbrev text : List ℕ
  text = run_text forms.Claim image p journal e

  spelled : SpellsClaim text (claim_of image p journal)
  unfolding run_text
  spelled = record {
    text = refl;
    is = runs_claim image p journal e is.image_is is.run few_turns;
    types = runs_types image p journal e is.image_is is.words is.run few_turns;
  }

  pub accepted : IsSoundText text
  accepted = record { claim = claim_of image p journal; spelled = spelled; sound = runs_sound image p journal e is.run }

  -- whatever verdict is told says so, behind what the claim's turns do
  pub found_sound : (form : AuditForm) (result : Result Output Refusal) → Gives (Audits form text) (IsNoClaim text) result
      → FindsSound (told_before form (claim_of image p journal)) result
  found_sound form (Ok output) audits =
      let sound : audits.verdict ≡ Sound = audits.sound.1 (sound_so text audits.claim accepted audits.spelled) in
      let told = subst (λ (v : Verdict). IsText output (audit_text form audits.claim v) (ending_of_verdict v)) sound audits.text in
      subst (λ (claim : Claim). IsText output (told_before form claim ++ sound_line) Fine) (one_claim text audits.claim (claim_of image p journal) audits.spelled spelled) told
  found_sound form (Err (refusal.Fault (reason.Text fault))) refused = absurd (refused.0 (claim_read text (claim_of image p journal) fault spelled refused.1))
  found_sound form (Err (refusal.Fault _)) refused = absurd refused
  found_sound form (Err refusal.NoMemory) refused = tt
