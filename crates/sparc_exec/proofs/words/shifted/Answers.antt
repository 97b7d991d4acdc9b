use Rattle.std.proofs.Common.{refl}
use Rattle.sparc_exec.proofs.RunWords.{none, shift_row, shift_is}
use Rattle.sparc_exec.proofs.words.shifted.Goals as goal

pub returns-in_default : goal.returns-in_default
returns-in_default c = none _ _ _ _ (shift_row _ _ c.requires.op c.requires.op3) c.in_default.ensures

pub returns : goal.returns
returns c = rw c.assign.ensures.done (shift_is _ _ _ _ _ c.requires.op c.requires.op3 c.in-Some.ensures (rw (c.assign.ensures.regs, c.shift_word-value.ensures, c.rd.ensures, c.first.ensures) refl))
