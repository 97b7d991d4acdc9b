-- The trace that was read was taken again to an end, or what is refused.
use Rattle.std.proofs.Common.{sym, subst}
use Rattle.std.proofs.lemmas.Result.{err_from_is_err_and}
use Rattle.alw_answers.specs.declared.answers.InputErr.TheVariants as reason
use Rattle.alw_mesh.specs.Limits.{most_steps}
use Rattle.alw_runs.specs.Forms.{run_text}
use Rattle.alw_runs.specs.Replaying.{Spells, Replays, IsNoReplay}
use Rattle.alw_answers.proofs.Refused.{no_text}
use Rattle.alw_runs.proofs.Refused.{no_replay}
use Rattle.alw_runs.proofs.Ended.{not_taken, no_end, taken_again}
use Rattle.alw_runs.proofs.replaying.replay_bytes.Goals as goal

pub returns-in_err-trace : goal.returns-in_err-trace
returns-in_err-trace c =
    let stop = err_from_is_err_and c.from_residual.result c.from_residual.ensures.1 in
    rw (stop.1, stop.2) (no_text (Replays c.args.form c.args.bytes.now) (IsNoReplay most_steps c.args.bytes.now) c.in_err-trace.field-0.0 (λ fault. (fault, c.in_err-trace.ensures.read)))

pub returns-in_err-machine : goal.returns-in_err-machine
returns-in_err-machine c =
    let trace = c.in_ok-trace.trace in
    let spells : Spells c.args.bytes.now trace = record { text = c.in_ok-trace.ensures.read.0; is = c.in_ok-trace.ensures.read.1; types = c.in_ok-trace.ensures.types } in
    let stop = err_from_is_err_and c.from_residual-in_err-machine.result c.from_residual-in_err-machine.ensures.1 in
    rw (stop.1, stop.2) (no_replay (Replays c.args.form c.args.bytes.now) (IsNoReplay most_steps c.args.bytes.now) trace.image trace.params
    (λ number most is. not_taken most_steps c.args.bytes.now trace spells (reason.LimitDoesNotFit number most) is)
    trace.journal c.in_err-machine.field-0.0 c.in_err-machine.ensures)

pub returns-in_err-ended : goal.returns-in_err-ended
returns-in_err-ended c =
    let trace = c.in_ok-trace.trace in
    let spells : Spells c.args.bytes.now trace = record { text = c.in_ok-trace.ensures.read.0; is = c.in_ok-trace.ensures.read.1; types = c.in_ok-trace.ensures.types } in
    let stop = err_from_is_err_and c.from_residual-in_err-ended.result c.from_residual-in_err-ended.ensures.1 in
    rw (stop.1, stop.2) (no_end (Replays c.args.form c.args.bytes.now) most_steps c.args.bytes.now trace spells c.in_ok-machine.field-0.machine c.in_err-ended.field-0.0 (c.in_err-ended.ensures most_steps c.in_ok-machine.ensures.0))

pub returns : goal.returns
returns c =
    let trace = c.in_ok-trace.trace in
    let spells : Spells c.args.bytes.now trace = record { text = c.in_ok-trace.ensures.read.0; is = c.in_ok-trace.ensures.read.1; types = c.in_ok-trace.ensures.types } in
    subst (Replays c.args.form c.args.bytes.now) (sym c.in_ok-output.ensures)
    (taken_again most_steps trace c.in_ok-machine.field-0.machine c.in_ok-machine.field-0.kept c.in_ok-machine.ensures.1 c.in_ok-machine.ensures.0
    c.in_ok-ended.ended (c.in_ok-ended.ensures most_steps c.in_ok-machine.ensures.0) (run_text c.args.form) c.args.bytes.now spells)
