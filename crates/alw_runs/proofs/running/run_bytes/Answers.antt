-- The image that was read was run from its start to an end, or what is refused.
use Rattle.std.proofs.Common.{sym, subst}
use Rattle.std.proofs.lemmas.Result.{err_from_is_err_and}
use Rattle.alw_image.specs.declared.parts.Parts.{Parts}
use Rattle.alw_image.specs.Faults.{image_in}
use Rattle.alw_image.specs.Parameters.{Parameters}
use Rattle.alw_mesh.specs.Limits.{most_steps}
use Rattle.alw_runs.specs.Forms.{IsTooMuch}
use Rattle.alw_runs.specs.Running.{RunsBySeed, IsNoRun, parameters_in}
use Rattle.alw_answers.proofs.Refused.{no_image}
use Rattle.alw_runs.proofs.Refused.{no_start}
use Rattle.alw_runs.proofs.Ended.{ran, fitted_is, fitted_for}
use Rattle.alw_runs.proofs.running.run_bytes.Goals as goal

pub returns-in_err-image : goal.returns-in_err-image
returns-in_err-image c =
    let params = parameters_in c.args.params.now c.args.bytes.now in
    let stop = err_from_is_err_and c.from_residual.result c.from_residual.ensures.1 in
    rw (stop.1, stop.2) (no_image (RunsBySeed c.args.seed params c.args.form c.args.bytes.now) (IsNoRun params c.args.bytes.now) c.in_err-image.field-0.0 c.in_err-image.ensures.fault)

pub returns-in_err-machine : goal.returns-in_err-machine
returns-in_err-machine c =
    let params = parameters_in c.args.params.now c.args.bytes.now in
    let same = fitted_is c.args.params.now c.args.bytes.now c.in_ok-image.image c.in_ok-image.ensures.parts c.nodes.result c.nodes.ensures.count c.for_nodes-params.result c.for_nodes-params.ensures in
    let stop = err_from_is_err_and c.from_residual-in_err-machine.result c.from_residual-in_err-machine.ensures.1 in
    rw (stop.1, stop.2) (no_start (RunsBySeed c.args.seed params c.args.form c.args.bytes.now) (IsNoRun params c.args.bytes.now) c.in_ok-image.image c.for_nodes-params.result
    (λ number most is. (
      c.in_ok-image.ensures.accepted,
      subst (λ (p : Parameters). IsTooMuch most_steps (image_in c.args.bytes.now) p number most) same
          (subst (λ (p : Parts). IsTooMuch most_steps p c.for_nodes-params.result number most) c.in_ok-image.ensures.parts is),
    ))
    c.in_err-machine.field-0.0 c.in_err-machine.ensures)

pub returns : goal.returns
returns c =
    let params = c.for_nodes-params.result in
    let same = fitted_is c.args.params.now c.args.bytes.now c.in_ok-image.image c.in_ok-image.ensures.parts c.nodes.result c.nodes.ensures.count params c.for_nodes-params.ensures in
    let fit = fitted_for most_steps c.args.params.now c.in_ok-image.image c.nodes.result c.nodes.ensures.count params c.for_nodes-params.ensures c.limit-allowed.ensures.allowed.some_pointer c.in_ok-machine.ensures.1 in
    subst (λ (p : Parameters). RunsBySeed c.args.seed p c.args.form c.args.bytes.now c.in_ok-output.output) same
    (subst (RunsBySeed c.args.seed params c.args.form c.args.bytes.now) (sym c.in_ok-output.ensures)
    (ran c.args.seed params c.args.form c.args.bytes.now c.in_ok-image.image
    (record { same = c.in_ok-image.ensures.parts; spelled = c.in_ok-image.ensures.found; accepted = c.in_ok-image.ensures.accepted })
    c.in_ok-machine.machine c.finish.new.machine c.in_ok-ended.ended c.in_ok-machine.ensures.0 fit c.in_ok-ended.ensures))
