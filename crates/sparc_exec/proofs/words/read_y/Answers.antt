use Rattle.std.proofs.Common.{refl}
use Rattle.sparc_exec.proofs.RunWords.{read_y_none, read_y_is}
use Rattle.sparc_exec.proofs.words.read_y.Goals as goal

pub returns-then-low_19-ne0 : goal.returns-then-low_19-ne0
returns-then-low_19-ne0 c = read_y_none _ _ c.requires.op c.requires.op3 (rw c.low_19.ensures at c.if-low_19-ne0.true)

pub returns : goal.returns
returns c = rw c.assign.ensures.done (read_y_is _ _ _ c.requires.op c.requires.op3 (rw c.low_19.ensures at c.if-low_19-ne0.false) (rw (c.assign.ensures.regs, c.rd.ensures) refl))
