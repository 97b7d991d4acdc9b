use Rattle.std.proofs.Common.{refl}
use Rattle.sparc_exec.proofs.RunWords.{sethi_is}
use Rattle.sparc_exec.proofs.words.sethi.Goals as goal

pub returns : goal.returns
returns c = rw c.assign.ensures.done (sethi_is _ _ _ c.requires.op c.requires.op2 (rw (c.assign.ensures.regs, c.rd.ensures, c.low_22.ensures) refl))
