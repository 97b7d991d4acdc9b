-- All entries were taken, or the next one isn't legal.
use Rattle.std.proofs.Common.{arith}
use Rattle.std.proofs.lemmas.Bool.Decides.{nat_tests}
use Rattle.std.proofs.lemmas.Result.{err_from_is_err_and}
use Rattle.alw_save.proofs.Cutting.{not_started, not_legal, all_left}
use Rattle.alw_save.proofs.cuts.machine_of.Goals as goal

pub returns-in_err-machine : goal.returns-in_err-machine
returns-in_err-machine c =
    let stop = err_from_is_err_and c.from_residual.result c.from_residual.ensures.1 in
    rw (stop.1, stop.2) (not_started c.args.trace.now c.args.trace.now.journal c.in_err-machine.field-0.0 c.in_err-machine.ensures)

pub returns-then-kept-len : goal.returns-then-kept-len
returns-then-kept-len c = not_legal c.args.trace.now c.in_ok-machine.ensures (grind (arith, nat_tests, c.if-kept-len.true, c.len.ensures))

pub returns : goal.returns
returns c = all_left c.args.trace.now c.in_ok-machine.ensures (grind (arith, nat_tests, c.if-kept-len.false, c.len.ensures))
