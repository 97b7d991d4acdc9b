-- The machine that has taken the turns, or what they are refused for.
use Rattle.std.proofs.Common.{subst}
use Rattle.std.proofs.lemmas.Result.{err_from_is_err_and}
use Rattle.alw_mesh.specs.Histories.{History}
use Rattle.alw_serve.specs.Serving.{HasTaken}
use Rattle.alw_serve.proofs.Taking.{answered}
use Rattle.alw_serve.proofs.serving.serve.Goals as goal

pub returns-in_err-ended : goal.returns-in_err-ended
returns-in_err-ended c =
    let stop = err_from_is_err_and c.from_residual-in_err-ended.result c.from_residual-in_err-ended.ensures.1 in
    let started = c.in_ok-machine.ensures in
    rw (stop.1, stop.2) (answered c.args.image.now c.args.params.now c.args.turns.now c.in_ok-machine.machine c.take_turns.new.machine started.0 started.1 c.in_err-ended.field-0.0 c.in_err-ended.ensures)

pub returns : goal.returns
returns c =
    let started = c.in_ok-machine.ensures in
    let taken = c.in_ok-ended.ensures in
    (subst (λ (x : History). HasTaken x.image x.parameters c.args.turns.now c.take_turns.new.machine) started.0 taken.0, taken.1, started.1)
