-- That a claim that is sound is found so, and an image is searched.
use Rattle.std.proofs.Common.{◌≡◌, ℕ, ◌&&◌, List, [], ◌∷◌, Some, None, refl, sym, ◌∙◌, subst, IsTrue, ap, Bool, true, false}
use Rattle.std.specs.Prelude.{Err}
use Rattle.alw_trace.specs.declared.values.Claim.{Claim}
use Rattle.alw_trace.specs.declared.faults.TextErr.{TextErr}
use Rattle.alw_trace.specs.declared.faults.TextErr.TheVariants as text
use Rattle.alw_trace.specs.Readings.{ReadsClaim}
use Rattle.alw_trace.proofs.ReadClaims.{same_claim, claim_back}
use Rattle.alw_audit.specs.Verdicts.{ClaimIsSound}
use Rattle.alw_config.specs.declared.commands.AuditForm.{AuditForm}
use Rattle.alw_endings.specs.declared.values.TrapEnd.{TrapEnd}
use Rattle.alw_answers.specs.declared.answers.InputErr.{InputErr}
use Rattle.alw_answers.specs.declared.answers.InputErr.TheVariants as reason
use Rattle.alw_answers.specs.declared.outputs.Ending.{Ending}
use Rattle.alw_answers.specs.Outputs.{cause_of, is_search}
use Rattle.alw_checks.specs.Auditing.{SpellsClaim, IsNoClaim, IsSoundText, ending_of_verdict, audit_task}
use Rattle.alw_checks.specs.Searching.{ending_of_traps, is_never_stuck, search_task}
use Rattle.alw_answers.specs.Refusals.{IsNoImage}
use Rattle.alw_answers.proofs.Kept.{IsKept, fine}

-- ---- audit

pub claim_read : (bytes : List ℕ) (c : Claim) (fault : TextErr) → SpellsClaim bytes c → ReadsClaim bytes (Err fault) → fault ≡ text.NoMemory
claim_read bytes c fault spells refused =
    claim_back c fault spells.is spells.types (subst (λ (bs : List ℕ). ReadsClaim bs (Err fault)) spells.text refused)

-- bytes spell one claim
pub one_claim : (bytes : List ℕ) (one other : Claim) → SpellsClaim bytes one → SpellsClaim bytes other → one ≡ other
one_claim bytes one other a b = same_claim one other a.is b.is a.types b.types (sym a.text ∙ b.text)

pub sound_so : (bytes : List ℕ) (other : Claim) → IsSoundText bytes → SpellsClaim bytes other → ClaimIsSound other
sound_so bytes other accepted spells = subst ClaimIsSound (one_claim bytes accepted.claim other accepted.spelled spells) accepted.sound

audit_unrefused : (bytes : List ℕ) (fault : InputErr) → IsNoClaim bytes fault → IsSoundText bytes → ⊥
audit_unrefused bytes (reason.Text fault) refused accepted = refused.0 (claim_read bytes accepted.claim fault accepted.spelled refused.1)
audit_unrefused bytes _ refused accepted = refused

pub audit_kept : (form : AuditForm) → IsKept (audit_task form)
audit_kept form = record {
  finished = λ bytes output made accepted. fine output.ending
      (made.text.ending_is ∙ ap ending_of_verdict (made.sound.1 (sound_so bytes made.claim accepted made.spelled)));
  unrefused = λ bytes fault refused accepted. audit_unrefused bytes fault refused accepted;
}

-- ---- outcomes

search_end : (traps : List TrapEnd) (ends : Bool) → IsTrue (is_search (cause_of (ending_of_traps traps ends)))
search_end [] true = refl
search_end [] false = refl
search_end (trap ∷ rest) ends = refl

search_unrefused : (most : ℕ) (bytes : List ℕ) (fault : InputErr) → IsNoImage bytes fault → (search_task most).Accepts bytes → ⊥
search_unrefused most bytes (reason.Image fault) refused accepted = absurd (let e : Some fault ≡ None = sym refused ∙ accepted in cc)
search_unrefused most bytes _ refused accepted = refused

pub search_kept : (most : ℕ) → IsKept (search_task most)
search_kept most = record {
  finished = λ bytes output made accepted. subst (λ (e : Ending). IsTrue (is_search (cause_of e))) (sym made.text.ending_is)
      (search_end made.told.traps (made.told.is_complete && is_never_stuck made.told.stuck));
  unrefused = λ bytes fault refused accepted. search_unrefused most bytes fault refused accepted;
}
