-- The messages of the trace that was read arrived, or what is refused.
use Rattle.std.proofs.Common.{refl, ap, ◌∙◌}
use Rattle.std.proofs.lemmas.Result.{err_from_is_err_and}
use Rattle.alw_mesh.specs.Histories.{History}
use Rattle.alw_mesh.specs.Limits.{most_steps}
use Rattle.alw_route.specs.Texts.{route_text_of}
use Rattle.alw_answers.specs.declared.answers.InputErr.TheVariants as reason
use Rattle.alw_runs.specs.Replaying.{Spells, IsNoReplay}
use Rattle.alw_cuts.specs.Routing.{Routes}
use Rattle.alw_answers.proofs.Refused.{no_text}
use Rattle.alw_runs.proofs.Refused.{no_replay}
use Rattle.alw_runs.proofs.Ended.{not_taken, no_end, finished}
use Rattle.alw_cuts.proofs.routing.route_bytes.Goals as goal

pub returns-in_err-trace : goal.returns-in_err-trace
returns-in_err-trace c =
    let stop = err_from_is_err_and c.from_residual.result c.from_residual.ensures.1 in
    rw (stop.1, stop.2) (no_text (Routes c.args.bytes.now) (IsNoReplay most_steps c.args.bytes.now) c.in_err-trace.field-0.0 (λ fault. (fault, c.in_err-trace.ensures.read)))

pub returns-in_err-machine : goal.returns-in_err-machine
returns-in_err-machine c =
    let trace = c.in_ok-trace.trace in
    let spells : Spells c.args.bytes.now trace = record { text = c.in_ok-trace.ensures.read.0; is = c.in_ok-trace.ensures.read.1; types = c.in_ok-trace.ensures.types } in
    let stop = err_from_is_err_and c.from_residual-in_err-machine.result c.from_residual-in_err-machine.ensures.1 in
    rw (stop.1, stop.2) (no_replay (Routes c.args.bytes.now) (IsNoReplay most_steps c.args.bytes.now) trace.image trace.params
    (λ number most is. not_taken most_steps c.args.bytes.now trace spells (reason.LimitDoesNotFit number most) is)
    trace.journal c.in_err-machine.field-0.0 c.in_err-machine.ensures.replays)

pub returns-in_err-end_of_trace : goal.returns-in_err-end_of_trace
returns-in_err-end_of_trace c =
    let trace = c.in_ok-trace.trace in
    let spells : Spells c.args.bytes.now trace = record { text = c.in_ok-trace.ensures.read.0; is = c.in_ok-trace.ensures.read.1; types = c.in_ok-trace.ensures.types } in
    let stop = err_from_is_err_and c.from_residual-in_err-end_of_trace.result c.from_residual-in_err-end_of_trace.ensures.1 in
    rw (stop.1, stop.2) (no_end (Routes c.args.bytes.now) most_steps c.args.bytes.now trace spells c.in_ok-machine.field-0.machine c.in_err-end_of_trace.field-0.0
    (c.in_err-end_of_trace.ensures most_steps c.in_ok-machine.ensures.replays.0))

pub returns : goal.returns
returns c =
    let trace = c.in_ok-trace.trace in
    let fits = c.in_ok-machine.ensures.replays.0 in
    let ends = c.in_ok-end_of_trace.ensures most_steps fits in
    record {
      trace = trace;
      spelled = record { text = c.in_ok-trace.ensures.read.0; is = c.in_ok-trace.ensures.read.1; types = c.in_ok-trace.ensures.types };
      same = c.into_parts-journal.ensures.journal ∙ ap (λ (h : History). h.journal) ends.0;
      finished = finished most_steps trace c.in_ok-machine.field-0.machine c.in_ok-machine.field-0.kept c.in_ok-machine.ensures.replays.1 fits c.in_ok-end_of_trace.field-0 ends;
      text = c.in_ok-text.ensures ∙ ap (λ (h : History). route_text_of h.image h.parameters h.journal) ends.0;
      ending = refl;
      merged = refl;
    }
