use Rattle.std.proofs.Common.{refl}
use Rattle.sparc_exec.proofs.RunWords.{write_y_not, write_y_none, write_y_is}
use Rattle.sparc_exec.proofs.words.write_y.Goals as goal

pub returns-then-rd-ne0 : goal.returns-then-rd-ne0
returns-then-rd-ne0 c = write_y_not _ _ c.requires.op c.requires.op3 (rw c.rd.ensures at c.if-rd-ne0.true)

pub returns-in_default : goal.returns-in_default
returns-in_default c = write_y_none _ _ c.requires.op c.requires.op3 (rw c.rd.ensures at c.if-rd-ne0.false) c.in_default.ensures

pub returns : goal.returns
returns c = write_y_is _ _ _ _ c.requires.op c.requires.op3 (rw c.rd.ensures at c.if-rd-ne0.false) c.in-Some.ensures (rw (c.advance.ensures, c.first.ensures) refl)
