use Rattle.sparc_exec.proofs.RunWords.{none, jump_row, jump_is}
use Rattle.sparc_exec.proofs.words.jump_to.Goals as goal

pub returns-in_default : goal.returns-in_default
returns-in_default c = none _ _ _ _ (jump_row _ c.requires.op c.requires.op3) c.in_default.ensures

pub returns : goal.returns
returns c = jump_is _ _ _ _ _ c.requires.op c.requires.op3 c.in-Some.ensures (rw (← c.first.ensures, ← c.rd.ensures) c.jump.ensures)
