use Rattle.std.proofs.Common.{refl}
use Rattle.sparc_exec.proofs.Coded.{coded_is}
use Rattle.sparc_exec.proofs.arithmetic.calculate.Goals as goal

pub returns-in-Coded : goal.returns-in-Coded
returns-in-Coded c =
    rw (c.in-Coded.is, coded_is c.in-Coded.operation c.args.rd c.args.x c.args.y c.args.regs.now, c.set-in-Coded.ensures, c.set_codes.ensures, c.compute-computed.ensures.value, c.compute-computed.ensures.overflow, c.compute-computed.ensures.carry) refl
