use Rattle.std.proofs.Common.{refl}
use Rattle.sparc_exec.proofs.RunWords.{call_is}
use Rattle.sparc_exec.proofs.words.call_to.Goals as goal

pub returns : goal.returns
returns c = rw c.call.ensures.done (call_is _ _ _ c.requires.op (rw (c.call.ensures.regs, c.low_30.ensures) refl))
