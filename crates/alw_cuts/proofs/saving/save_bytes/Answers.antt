-- The checkpoint of the trace that was read, or what is refused.
use Rattle.std.proofs.Common.{sym, subst}
use Rattle.std.specs.Prelude.{Err}
use Rattle.std.proofs.lemmas.Result.{err_from_is_err_and}
use Rattle.alw_answers.specs.Outputs.{Gives}
use Rattle.alw_answers.specs.declared.outputs.Refusal.{Refusal}
use Rattle.alw_answers.proofs.Refused.{no_text}
use Rattle.alw_save.specs.Cuts.{LeavesCut}
use Rattle.alw_runs.specs.Replaying.{Spells}
use Rattle.alw_cuts.specs.Saving.{Saves, IsNoCut}
use Rattle.alw_cuts.proofs.Saved.{not_saved, saved}
use Rattle.alw_cuts.proofs.saving.save_bytes.Goals as goal

pub returns-in_err-trace : goal.returns-in_err-trace
returns-in_err-trace c =
    let stop = err_from_is_err_and c.from_residual.result c.from_residual.ensures.1 in
    rw (stop.1, stop.2) (no_text (Saves c.args.at c.args.bytes.now) (IsNoCut c.args.bytes.now) c.in_err-trace.field-0.0 (λ fault. (fault, c.in_err-trace.ensures.read)))

pub returns-in-Err : goal.returns-in-Err
returns-in-Err c =
    let trace = c.in_ok-trace.trace in
    let spells : Spells c.args.bytes.now trace = record { text = c.in_ok-trace.ensures.read.0; is = c.in_ok-trace.ensures.read.1; types = c.in_ok-trace.ensures.types } in
    subst (λ (r : Refusal). Gives (Saves c.args.at c.args.bytes.now) (IsNoCut c.args.bytes.now) (Err r)) (sym c.refusal_of_cut.ensures)
    (not_saved c.args.at c.args.bytes.now trace spells (Saves c.args.at c.args.bytes.now) c.in-Err.cut (subst (LeavesCut trace c.args.at) c.in-Err.is c.machine_at.ensures))

pub returns : goal.returns
returns c =
    let trace = c.in_ok-trace.trace in
    let spells : Spells c.args.bytes.now trace = record { text = c.in_ok-trace.ensures.read.0; is = c.in_ok-trace.ensures.read.1; types = c.in_ok-trace.ensures.types } in
    saved c.args.at c.args.bytes.now trace spells c.in-Ok.machine _ _ (subst (LeavesCut trace c.args.at) c.in-Ok.is c.machine_at.ensures) c.into_parts-journal.ensures.journal c.in_ok-text.ensures
