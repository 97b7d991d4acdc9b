-- The times at the beginning are kept.
use Rattle.alw_timing.proofs.Keeping.{begins}
use Rattle.alw_timing.proofs.timing.Timekeeper.of_start.Goals as goal

pub returns-clause-kept : goal.returns-clause-kept
returns-clause-kept c = λ parameters. begins c.args.image.now parameters _ c.in_ok-of_start.ensures c.in_ok-first_waits.ensures.none c.first_spans.ensures.none
