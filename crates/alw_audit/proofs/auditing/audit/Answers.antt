-- A claim has no difference exactly where it is sound.
use Rattle.std.proofs.lemmas.Result.{IfOk-weaker}
use Rattle.alw_audit.proofs.Differences.{sound_is}
use Rattle.alw_audit.proofs.auditing.audit.Goals as goal

pub returns-clause-sound : goal.returns-clause-sound
returns-clause-sound c = IfOk-weaker c.first_difference.result _ _ (λ v is. rw is (sound_is c.args.claim.now)) c.first_difference.ensures.verdict
