-- The command `audit`.
use Rattle.std.specs.Prelude.{◌≡◌, ◌≢◌, ◌↔◌, ℕ, true, List, [], ◌++◌, codes, Result, Ok, Err, ⊤}
use Rattle.std.specs.Fmt.{decimal}
use Rattle.alw_text.specs.Numbers.{hex_word}
use Rattle.alw_trace.specs.declared.values.Claim.{Claim}
use Rattle.alw_trace.specs.declared.faults.TextErr.TheVariants as text
use Rattle.alw_trace.specs.Texts.{claim_text}
use Rattle.alw_trace.specs.Readings.{IsClaim, HasClaimTypes, ReadsClaim}
use Rattle.alw_audit.specs.declared.verdicts.Difference.{Difference}
use Rattle.alw_audit.specs.declared.verdicts.Difference.TheVariants.{Turn, PrintCount, PrintContext, Print, Memory}
use Rattle.alw_audit.specs.declared.verdicts.Verdict.{Verdict}
use Rattle.alw_audit.specs.declared.verdicts.Verdict.TheVariants.{Sound, Differs}
use Rattle.alw_audit.specs.Verdicts.{verdict_of, ClaimIsSound}
use Rattle.alw_claims.specs.Logs.{claim_log}
use Rattle.alw_config.specs.declared.commands.AuditForm.{AuditForm}
use Rattle.alw_config.specs.declared.commands.AuditForm.TheVariants as forms
use Rattle.alw_answers.specs.declared.answers.InputErr.{InputErr}
use Rattle.alw_answers.specs.declared.answers.InputErr.TheVariants as reason
use Rattle.alw_answers.specs.declared.outputs.Ending.{Ending}
use Rattle.alw_answers.specs.declared.outputs.Ending.TheVariants as ending
use Rattle.alw_answers.specs.declared.outputs.Output.{Output}
use Rattle.alw_answers.specs.declared.outputs.Refusal.{Refusal}
use Rattle.alw_answers.specs.declared.outputs.Refusal.TheVariants as refusal
use Rattle.alw_answers.specs.Outputs.{IsText, is_fine}
use Rattle.alw_answers.specs.Tasks.{Task}

-- ---- the text of a verdict

unfoldable pub print_context : List ℕ
print_context = codes "print-context "

abbrev pub place_text : Difference → List ℕ
place_text (Turn k) = codes "turn " ++ decimal k
place_text PrintCount = codes "print-count"
place_text (PrintContext k) = print_context ++ decimal k
place_text (Print k) = codes "print " ++ decimal k
place_text (Memory addr) = codes "memory " ++ hex_word addr

unfoldable pub sound_line : List ℕ
sound_line = codes "sound\n"

unfoldable pub values_text : ℕ → ℕ → List ℕ
values_text claimed real = codes " claimed " ++ (hex_word claimed ++ (codes " real " ++ (hex_word real ++ codes "\n")))

abbrev pub verdict_text : Verdict → List ℕ
verdict_text Sound = sound_line
verdict_text (Differs place claimed real) = codes "differs " ++ (place_text place ++ values_text claimed real)

-- what stands before the line of the verdict: nothing, or what each turn did
abbrev pub told_before : AuditForm → Claim → List ℕ
told_before forms.Verdict claim = []
told_before forms.Log claim = claim_log claim

abbrev pub audit_text : AuditForm → Claim → Verdict → List ℕ
audit_text form claim verdict = told_before form claim ++ verdict_text verdict

-- ---- the command

-- the bytes are the text of a claim, which is the only one of this text
pub record SpellsClaim (bytes : List ℕ) (claim : Claim) : Type 0 where
  pub text : bytes ≡ claim_text claim
  pub is : IsClaim claim
  pub types : HasClaimTypes claim

-- how an audit ends by its verdict
abbrev pub ending_of_verdict : Verdict → Ending
ending_of_verdict Sound = ending.Fine
ending_of_verdict (Differs place claimed real) = ending.Differs place claimed real

-- the bytes are a claim, which is sound exactly where this is its verdict, and the text ends with that of the verdict
pub record Audits (form : AuditForm) (bytes : List ℕ) (output : Output) : Type 0 where
  pub claim : Claim
  pub spelled : SpellsClaim bytes claim
  pub verdict : Verdict
  pub verdict_is : verdict ≡ verdict_of claim
  pub sound : (verdict ≡ Sound) ↔ ClaimIsSound claim
  pub text : IsText output (audit_text form claim verdict) (ending_of_verdict verdict)

-- the bytes are no claim
abbrev pub IsNoClaim : List ℕ → InputErr → Type 0
IsNoClaim bytes (reason.Text fault) = (fault ≢ text.NoMemory) × ReadsClaim bytes (Err fault)
IsNoClaim bytes _ = ⊥

-- the bytes spell a claim which is sound
pub record IsSoundText (bytes : List ℕ) : Type 0 where
  pub claim : Claim
  pub spelled : SpellsClaim bytes claim
  pub sound : ClaimIsSound claim

abbrev pub audit_task : AuditForm → Task
audit_task form = record { reads = true; Makes = Audits form; Refuses = IsNoClaim; Accepts = IsSoundText; is_done = is_fine }

-- what `audit` makes of a claim that is sound: that it is, behind what stands before the verdict, or memory was refused
abbrev pub FindsSound : List ℕ → Result Output Refusal → Type 0
FindsSound told (Ok output) = IsText output (told ++ sound_line) ending.Fine
FindsSound told (Err (refusal.Fault fault)) = ⊥
FindsSound told (Err refusal.NoMemory) = ⊤
