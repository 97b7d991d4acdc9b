-- All entries were taken and an end holds, or what is refused.
use Rattle.std.proofs.Common.{arith}
use Rattle.std.proofs.lemmas.Bool.Decides.{nat_tests}
use Rattle.alw_runs.proofs.Ended.{first_illegal, unfinished, all_legal}
use Rattle.alw_runs.proofs.replaying.end_of_trace.Goals as goal

pub returns-then-kept-len : goal.returns-then-kept-len
returns-then-kept-len c = λ most fits.
    first_illegal most c.args.trace.now c.args.machine.now c.args.kept c.requires fits (grind (arith, nat_tests, c.if-kept-len.true, c.len.ensures))

pub returns-in_default : goal.returns-in_default
returns-in_default c = λ most fits.
    unfinished most c.args.trace.now c.args.machine.now c.args.kept c.requires fits (grind (arith, nat_tests, c.if-kept-len.false, c.len.ensures)) c.in_default.ensures.end

pub returns : goal.returns
returns c = λ most fits. (
  all_legal most c.args.trace.now c.args.machine.now c.args.kept c.requires fits (grind (arith, nat_tests, c.if-kept-len.false, c.len.ensures)),
  c.in-Some.ensures.end,
)
