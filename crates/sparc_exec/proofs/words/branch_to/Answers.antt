use Rattle.std.proofs.Common.{refl}
use Rattle.sparc_exec.proofs.RunWords.{branch_is}
use Rattle.sparc_exec.proofs.words.branch_to.Goals as goal

pub returns : goal.returns
returns c = rw c.branch-annul.ensures.done (branch_is _ _ _ c.requires.op c.requires.op2 (rw (c.branch-annul.ensures.regs, c.annul.ensures, c.cond.ensures, c.low_22.ensures) refl))
