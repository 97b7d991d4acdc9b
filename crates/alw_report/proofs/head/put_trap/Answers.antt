-- The words of a trap are UTF-8.
use Rattle.std.proofs.Common.{arith}
use Rattle.alw_report.proofs.Utf8.{trap_is_utf8}
use Rattle.alw_report.proofs.head.put_trap.Goals as goal

pub returns-clause-utf8 : goal.returns-clause-utf8
returns-clause-utf8 c = trap_is_utf8 c.args.at.now (omega arith)
