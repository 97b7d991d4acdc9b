use Rattle.alw_cli.proofs.Completing.{completes}
use Rattle.alw_cli.proofs.Headlines.{headline}
use Rattle.alw_cli.proofs.top.alewife.Goals as goal

pub returns-clause-headline : goal.returns-clause-headline
returns-clause-headline g c = headline _ _ _ _ _ c.in_ok-done.done.cause c.in_ok-done.done.journal c.in_ok-done.done.merged c.in_ok-done.ensures.answers

pub returns-clause-complete : goal.returns-clause-complete
returns-clause-complete g c = completes _ _ _ _ _ c.in_ok-done.done.cause c.in_ok-done.done.journal c.in_ok-done.done.merged c.in_ok-done.ensures.answers
