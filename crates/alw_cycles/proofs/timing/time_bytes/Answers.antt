-- The times of the trace that was read, or what is refused.
use Rattle.std.proofs.Common.{◌≡◌, ◌≤◌, sym, ap, subst, ◌∙◌}
use Rattle.std.proofs.lemmas.Result.{err_from_is_err_and}
use Rattle.alw_mesh.specs.Limits.{most_timed_steps}
use Rattle.alw_mesh.specs.Histories.{stamps_of}
use Rattle.alw_mesh.proofs.Journals.{stamps_within}
use Rattle.alw_answers.proofs.Refused.{no_text}
use Rattle.alw_runs.specs.Forms.{output_with}
use Rattle.alw_runs.specs.Replaying.{Spells, TakesAgain, IsNoReplay}
use Rattle.alw_runs.proofs.Ended.{no_end, taken_again}
use Rattle.alw_cycles.specs.Timing.{time_text}
use Rattle.alw_cycles.proofs.timing.time_bytes.Goals as goal

pub returns-in_err-trace : goal.returns-in_err-trace
returns-in_err-trace c =
    let stop = err_from_is_err_and c.from_residual.result c.from_residual.ensures.1 in
    rw (stop.1, stop.2) (no_text (TakesAgain most_timed_steps (time_text c.args.costs.now c.args.form) c.args.bytes.now) (IsNoReplay most_timed_steps c.args.bytes.now) c.in_err-trace.field-0.0
    (λ fault. (fault, c.in_err-trace.ensures.read)))

pub returns-in_err-ended : goal.returns-in_err-ended
returns-in_err-ended c =
    let trace = c.in_ok-trace.trace in
    let spells : Spells c.args.bytes.now trace = record { text = c.in_ok-trace.ensures.read.0; is = c.in_ok-trace.ensures.read.1; types = c.in_ok-trace.ensures.types } in
    let fits : stamps_of trace.image trace.params ≤ most_timed_steps = stamps_within trace.image trace.params spells.is.image spells.is.params in
    let stop = err_from_is_err_and c.from_residual-in_err-ended.result c.from_residual-in_err-ended.ensures.1 in
    rw (stop.1, stop.2) (no_end (TakesAgain most_timed_steps (time_text c.args.costs.now c.args.form) c.args.bytes.now) most_timed_steps c.args.bytes.now trace spells c.in_ok-machine.field-0.machine
    c.in_err-ended.field-0.0 (c.in_err-ended.ensures most_timed_steps fits))

pub returns-in_err-text : goal.returns-in_err-text
returns-in_err-text c =
    let stop = err_from_is_err_and c.from_residual-in_err-text.result c.from_residual-in_err-text.ensures.1 in
    rw (stop.1, stop.2) tt

pub returns : goal.returns
returns c =
    let trace = c.in_ok-trace.trace in
    let spells : Spells c.args.bytes.now trace = record { text = c.in_ok-trace.ensures.read.0; is = c.in_ok-trace.ensures.read.1; types = c.in_ok-trace.ensures.types } in
    let fits : stamps_of trace.image trace.params ≤ most_timed_steps = stamps_within trace.image trace.params spells.is.image spells.is.params in
    let run = c.in_ok-machine.field-0 in
    let ended = c.in_ok-ended.ended in
    let made : c.output_with.result ≡ output_with run.machine ended (time_text c.args.costs.now c.args.form run.machine.image run.machine.parameters run.machine.journal ended) =
    c.output_with.ensures ∙ ap (output_with run.machine ended) c.in_ok-text.ensures in
    subst (TakesAgain most_timed_steps (time_text c.args.costs.now c.args.form) c.args.bytes.now) (sym made)
    (taken_again most_timed_steps trace run.machine run.kept c.in_ok-machine.ensures.replays fits ended (c.in_ok-ended.ensures most_timed_steps fits) (time_text c.args.costs.now c.args.form) c.args.bytes.now spells)
