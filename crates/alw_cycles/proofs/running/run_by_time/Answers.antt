-- The image that was read was taken to an end by the timed schedule, or what is refused.
use Rattle.std.proofs.Common.{subst}
use Rattle.std.proofs.lemmas.Result.{err_from_is_err_and}
use Rattle.alw_image.specs.Parameters.{Parameters}
use Rattle.alw_mesh.specs.Limits.{most_timed_steps}
use Rattle.alw_mesh.proofs.Journals.{stamps_within}
use Rattle.alw_answers.proofs.Refused.{no_image}
use Rattle.alw_runs.specs.Running.{parameters_in}
use Rattle.alw_runs.proofs.Ended.{fitted_is, fitted_for}
use Rattle.alw_cycles.specs.ByTime.{RunsByTime, IsNoRunByTime}
use Rattle.alw_cycles.proofs.Timed.{ran_by_time}
use Rattle.alw_cycles.proofs.running.run_by_time.Goals as goal

pub returns-in_err-image : goal.returns-in_err-image
returns-in_err-image c =
    let params = parameters_in c.args.params.now c.args.bytes.now in
    let stop = err_from_is_err_and c.from_residual.result c.from_residual.ensures.1 in
    rw (stop.1, stop.2) (no_image (RunsByTime c.args.costs.now params c.args.form c.args.bytes.now) (IsNoRunByTime c.args.bytes.now) c.in_err-image.field-0.0 c.in_err-image.ensures.fault)

pub returns-in_err-output : goal.returns-in_err-output
returns-in_err-output c =
    let stop = err_from_is_err_and c.from_residual-in_err-output.result c.from_residual-in_err-output.ensures.1 in
    rw (stop.1, stop.2) tt

pub returns : goal.returns
returns c =
    let params = c.for_nodes-params.result in
    let image = c.in_ok-image.image in
    let same = fitted_is c.args.params.now c.args.bytes.now image c.in_ok-image.ensures.parts c.nodes.result c.nodes.ensures.count params c.for_nodes-params.ensures in
    let fits = stamps_within image params c.nodes.ensures.allowed c.limit-fits.ensures.allowed in
    let fit = fitted_for most_timed_steps c.args.params.now image c.nodes.result c.nodes.ensures.count params c.for_nodes-params.ensures c.limit-allowed.ensures.allowed.some_pointer fits in
    subst (λ (p : Parameters). RunsByTime c.args.costs.now p c.args.form c.args.bytes.now c.in_ok-output.output) same
    (ran_by_time c.args.costs.now params c.args.form c.args.bytes.now image c.in_ok-output.output
    (record { same = c.in_ok-image.ensures.parts; spelled = c.in_ok-image.ensures.found; accepted = c.in_ok-image.ensures.accepted })
    fit c.in_ok-output.ensures)
