-- The trace of the machine that has taken the claim's turns, or what is refused.
use Rattle.std.proofs.Common.{sym, subst}
use Rattle.std.proofs.lemmas.Result.{err_from_is_err_and}
use Rattle.alw_orders.specs.Scheduling.{Schedules}
use Rattle.alw_orders.proofs.Scheduled.{scheduled}
use Rattle.alw_orders.proofs.scheduling.schedule_bytes.Goals as goal

pub returns-in_err-machine : goal.returns-in_err-machine
returns-in_err-machine c =
    let stop = err_from_is_err_and c.from_residual.result c.from_residual.ensures.1 in
    rw (stop.1, stop.2) c.in_err-machine.ensures

pub returns : goal.returns
returns c =
    let served = c.in_ok-machine.field-0 in
    subst (Schedules c.args.params.now c.args.bytes.now) (sym c.in_ok-output.ensures) (scheduled c.args.params.now c.args.bytes.now served.machine served.ended c.in_ok-machine.ensures)
