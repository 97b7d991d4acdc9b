use Rattle.std.proofs.lemmas.Result.{err_from_is_err_and}
use Rattle.alw_threads.proofs.Begun.{no_fit}
use Rattle.alw_threads.proofs.working.fit_workers.Goals as goal

pub returns-in_err-fit : goal.returns-in_err-fit
returns-in_err-fit c =
    let stop = err_from_is_err_and c.from_residual.result c.from_residual.ensures.1 in
    rw (stop.1, stop.2) (no_fit c.args.workers c.args.params.now c.args.image.now c.in_err-fit.field-0.0 c.in_err-fit.ensures.fits)
