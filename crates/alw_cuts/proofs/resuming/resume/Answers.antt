-- The machine of the checkpoint went on to an end, and was told.
use Rattle.std.proofs.Common.{sym, subst}
use Rattle.std.specs.Prelude.{Err}
use Rattle.alw_answers.specs.Outputs.{Gives}
use Rattle.alw_answers.specs.declared.outputs.Refusal.{Refusal}
use Rattle.alw_save.specs.Restoring.{Restores}
use Rattle.alw_cuts.specs.Resuming.{Resumes, IsNoCheckpoint}
use Rattle.alw_cuts.proofs.Saved.{not_resumed, resumed}
use Rattle.alw_cuts.proofs.resuming.resume.Goals as goal

pub returns-in-Err : goal.returns-in-Err
returns-in-Err c =
    let Makes = Resumes c.args.seed c.args.evict c.args.form c.args.bytes.now in
    subst (λ (r : Refusal). Gives Makes (IsNoCheckpoint c.args.evict c.args.bytes.now) (Err r)) (sym c.refusal_of_restore.ensures)
    (not_resumed Makes c.args.bytes.now c.args.evict c.in-Err.fault (subst (Restores c.args.bytes.now c.args.evict) c.in-Err.is c.restore.ensures))

pub returns : goal.returns
returns c =
    subst (Resumes c.args.seed c.args.evict c.args.form c.args.bytes.now) (sym c.in_ok-output.ensures)
    (resumed c.args.seed c.args.evict c.args.form c.args.bytes.now c.in-Ok.machine c.finish.new.machine c.in_ok-ended.ended
    (subst (Restores c.args.bytes.now c.args.evict) c.in-Ok.is c.restore.ensures) c.in_ok-ended.ensures)
