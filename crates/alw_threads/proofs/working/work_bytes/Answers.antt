-- The machine that workers left was taken on to an end, or what is refused.
use Rattle.std.proofs.Common.{length, sym, ap, subst, ◌∙◌}
use Rattle.std.specs.Prelude.{Err}
use Rattle.std.proofs.lemmas.Result.{err_from_is_err_and}
use Rattle.alw_image.specs.Parameters.{Parameters}
use Rattle.alw_mesh.specs.Limits.{most_steps}
use Rattle.alw_answers.specs.Outputs.{Gives}
use Rattle.alw_runs.specs.Running.{parameters_in}
use Rattle.alw_threads.specs.Working.{Works, IsNotWorked}
use Rattle.alw_answers.proofs.Refused.{no_image}
use Rattle.alw_runs.proofs.Ended.{fitted_is, fitted_for}
use Rattle.alw_threads.proofs.Begun.{not_worked, worked}
use Rattle.alw_threads.proofs.working.work_bytes.Goals as goal

pub returns-in_err-image : goal.returns-in_err-image
returns-in_err-image g c =
    let params = parameters_in c.args.params.now c.args.bytes.now in
    let stop = err_from_is_err_and c.from_residual.result c.from_residual.ensures.1 in
    rw (stop.1, stop.2) (no_image (Works c.args.workers params c.args.form c.args.bytes.now) (IsNotWorked c.args.workers params c.args.bytes.now) c.in_err-image.field-0.0 c.in_err-image.ensures.fault)

pub returns-in_err-fit_workers : goal.returns-in_err-fit_workers
returns-in_err-fit_workers g c =
    let params = c.for_nodes-params.result in
    let same = fitted_is c.args.params.now c.args.bytes.now c.in_ok-image.image c.in_ok-image.ensures.parts c.nodes.result c.nodes.ensures.count params c.for_nodes-params.ensures in
    let stop = err_from_is_err_and c.from_residual-in_err-fit_workers.result c.from_residual-in_err-fit_workers.ensures.1 in
    rw (stop.1, stop.2)
    (subst (λ (p : Parameters). Gives (Works c.args.workers p c.args.form c.args.bytes.now) (IsNotWorked c.args.workers p c.args.bytes.now) (Err c.in_err-fit_workers.field-0.0)) same
    (not_worked (Works c.args.workers params c.args.form c.args.bytes.now) c.args.workers params c.args.bytes.now c.in_ok-image.image
    (record { same = c.in_ok-image.ensures.parts; spelled = c.in_ok-image.ensures.found; accepted = c.in_ok-image.ensures.accepted })
    c.in_err-fit_workers.field-0.0 c.in_err-fit_workers.ensures))

pub returns : goal.returns
returns g c =
    let params = c.for_nodes-params.result in
    let same = fitted_is c.args.params.now c.args.bytes.now c.in_ok-image.image c.in_ok-image.ensures.parts c.nodes.result c.nodes.ensures.count params c.for_nodes-params.ensures in
    let fit = fitted_for most_steps c.args.params.now c.in_ok-image.image c.nodes.result c.nodes.ensures.count params c.for_nodes-params.ensures c.limit-allowed.ensures.allowed.some_pointer
    c.in_ok-fit_workers.ensures.0 in
    let output = record c.in_ok-output.output { merged = c.len-merged.result } in
    subst (λ (p : Parameters). Works c.args.workers p c.args.form c.args.bytes.now output) same
    (subst (Works c.args.workers params c.args.form c.args.bytes.now)
    (sym ((λ i. record (c.in_ok-output.ensures i) { merged = (c.len-merged.ensures ∙ ap length c.journal.ensures.journal) i })))
    (worked c.in_ok-image.image params c.in_ok-machine.machine c.in_ok-machine.ensures c.finish.new.machine c.in_ok-ended.ended c.in_ok-ended.ensures
    c.args.workers c.args.form c.args.bytes.now
    (record { same = c.in_ok-image.ensures.parts; spelled = c.in_ok-image.ensures.found; accepted = c.in_ok-image.ensures.accepted })
    fit c.in_ok-fit_workers.ensures.1))
