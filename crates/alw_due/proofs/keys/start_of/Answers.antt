-- No start comes near 2^64.
use Rattle.std.proofs.Common.{◌^◌, arith}
use Rattle.alw_due.proofs.keys.start_of.Goals as goal

pub returns-clause-early : goal.returns-clause-early
returns-clause-early c = omega (arith, c.start.ensures.within (2 ^ 63) c.requires.within)
