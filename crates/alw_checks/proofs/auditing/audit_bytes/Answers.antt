use Rattle.std.proofs.Common.{◌∙◌}
use Rattle.std.proofs.lemmas.Result.{err_from_is_err_and}
use Rattle.alw_checks.specs.Auditing.{Audits, IsNoClaim}
use Rattle.alw_answers.proofs.Refused.{no_text}
use Rattle.alw_checks.proofs.auditing.audit_bytes.Goals as goal

pub returns-in_err-claim : goal.returns-in_err-claim
returns-in_err-claim c =
    let stop = err_from_is_err_and c.from_residual.result c.from_residual.ensures.1 in
    rw (stop.1, stop.2) (no_text (Audits c.args.form c.args.bytes.now) (IsNoClaim c.args.bytes.now) c.in_err-claim.field-0.0 (λ fault. (fault, c.in_err-claim.ensures.read)))

pub returns : goal.returns
returns c = record {
  claim = c.in_ok-claim.claim;
  spelled = record { text = c.in_ok-claim.ensures.read.0; is = c.in_ok-claim.ensures.read.1; types = c.in_ok-claim.ensures.types };
  verdict = c.in_ok-verdict.verdict;
  verdict_is = c.in_ok-verdict.ensures.verdict;
  sound = c.in_ok-verdict.ensures.sound;
  text = record {
    text_is = c.of_text.ensures.text_is ∙ c.in_ok-text.ensures;
    ending_is = c.of_text.ensures.ending_is ∙ c.ending_of_verdict.ensures;
    no_journal = c.of_text.ensures.no_journal;
    no_merged = c.of_text.ensures.no_merged;
  };
}
